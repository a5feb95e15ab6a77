pub mod Runs
pub mod WordLaws
