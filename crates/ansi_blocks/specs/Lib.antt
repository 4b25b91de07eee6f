pub mod Blocks
pub mod Same
