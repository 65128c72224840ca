-- Laws that belong to no one function.
pub mod Numbers
pub mod Rows
pub mod Solutions
pub mod Lengths
pub mod Joined
pub mod Cases
pub mod Inputs
