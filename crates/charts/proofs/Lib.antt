-- The laws of charts.
pub mod Parts
pub mod FieldCharts
pub mod Cuts
pub mod Lefts
pub mod CellLabels
pub mod Corners
mod FieldWalk
mod FieldSizes
