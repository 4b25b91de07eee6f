pub mod Jobs
pub mod Lines
pub mod Runs
pub mod Words
