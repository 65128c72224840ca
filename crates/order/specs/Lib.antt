-- What the contracts of `order` cite.
pub mod Sort
pub mod Records
pub mod Order
pub mod Cache
pub mod Keys
pub mod Ranks
