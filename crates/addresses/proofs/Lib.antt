pub mod Xor
pub mod Search
pub mod Passes
pub mod Entries
pub mod Ranges
pub mod LookUps
pub mod Steps
pub mod Frames
