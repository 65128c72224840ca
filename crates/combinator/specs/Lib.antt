pub mod Exports
pub mod Demand1
pub mod Demand3
pub mod Routes
pub mod Twice
pub mod Compared
pub mod WireDemand
