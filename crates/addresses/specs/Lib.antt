pub mod Search
pub mod Turns
pub mod Writes
pub mod Theorems
pub mod Numbers
pub mod Changes
