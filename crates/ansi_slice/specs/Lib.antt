pub mod Cut
pub mod Sides
pub mod Kept
pub mod Ranges
pub mod Stretches
