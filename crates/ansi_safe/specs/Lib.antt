pub mod Links
pub mod Safe
pub mod Sanitized
pub mod Cells
