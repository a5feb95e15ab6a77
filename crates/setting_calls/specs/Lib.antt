pub mod Calls
pub mod Vlans
