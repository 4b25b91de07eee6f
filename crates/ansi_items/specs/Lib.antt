pub mod Bytes
pub mod Sequences
pub mod Pieces
pub mod Plain
pub mod Scans
pub mod AnsiColors
pub mod Fronts
pub mod Counts
