pub mod Reading
pub mod Outside
pub mod Acting
pub mod Carrying
pub mod Inputs
pub mod Telling
pub mod Running
pub mod Starting
