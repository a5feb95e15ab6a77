pub mod Arrivals
pub mod Masks
pub mod LinkWords
