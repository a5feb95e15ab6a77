pub mod Numbers
pub mod Reading
pub mod Operations
