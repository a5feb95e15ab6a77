-- The proofs of the theorems about records.
pub mod Cutting
pub mod Decimals
pub mod FramingLaws
