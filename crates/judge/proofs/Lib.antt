-- The laws of the walk for the verdict's cell.
mod Better
mod Walking
