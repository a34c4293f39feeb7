mod Padding
mod Whole
