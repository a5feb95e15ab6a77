pub mod Chains
pub mod Free
pub mod Bytes
pub mod Stored
pub mod Sound
