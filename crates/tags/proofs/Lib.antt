pub mod Laws
pub mod Stacks
pub mod Numbers
pub mod Operated
pub mod TagRuns
