pub mod Edges
pub mod Places
pub mod Parts
pub mod Thrice
pub mod Whole
pub mod Marking
pub mod Slots
pub mod Refusing
