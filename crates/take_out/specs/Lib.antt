pub mod Serving
pub mod Frames
pub mod Take
pub mod Drain
