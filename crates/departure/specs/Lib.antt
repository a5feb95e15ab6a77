pub mod Leaving
pub mod Draining
pub mod Frames
pub mod Departing
