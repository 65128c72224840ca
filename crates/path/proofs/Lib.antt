-- Laws that belong to no one function.
pub mod Copies
pub mod Standing
pub mod Writes
pub mod Showing
pub mod Walking
pub mod Chaining
pub mod Thrice
pub mod Assembling
pub mod Answering
pub mod Interfaces
pub mod Weighing
pub mod Buffers
pub mod Buckets
pub mod Seeking
pub mod Keeping
pub mod Listing
