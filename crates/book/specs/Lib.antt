pub mod Offsets
pub mod Sizes
pub mod Repeats
pub mod Marks
