mod Whole
mod Widths
