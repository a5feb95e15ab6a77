pub mod Words
pub mod Calls
