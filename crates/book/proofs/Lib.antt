pub mod Turns
pub mod Tables
pub mod Repeating
pub mod Marking
pub mod Passing
