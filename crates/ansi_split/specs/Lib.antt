pub mod Parts
pub mod Splits
pub mod StdSplit
pub mod Spans
pub mod Cursors
pub mod Walks
