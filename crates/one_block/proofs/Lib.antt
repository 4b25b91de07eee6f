pub mod Pairs
pub mod Taken
