pub mod Positions
pub mod Matches
pub mod Offsets
pub mod Searches
