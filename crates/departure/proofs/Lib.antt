pub mod Turns
pub mod Copies
pub mod Headers
pub mod Departs
pub mod Plain
pub mod Retagged
pub mod Drains
