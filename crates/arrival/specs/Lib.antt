pub mod Stored
pub mod Plans
pub mod Arrivals
pub mod Candidates
pub mod Room
