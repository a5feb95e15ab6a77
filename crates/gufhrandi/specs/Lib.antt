pub mod Memories
pub mod Runs
pub mod Asked
