pub mod Reading
pub mod Framing
pub mod FramingTheorems
pub mod Requests
pub mod Lines
