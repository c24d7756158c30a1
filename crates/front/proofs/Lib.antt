-- The laws of the front words.
mod MaskWithin
mod FrontWords
