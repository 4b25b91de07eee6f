mod Common
pub mod SliceLemmas
pub mod PositionLemmas
pub mod MatchLemmas
pub mod FindLemmas
pub mod TwoWayLemmas
pub mod OffsetLemmas
pub mod SplitLemmas
pub mod EndLemmas
pub mod WhiteSpaceLemmas
pub mod LastRunLemmas
pub mod WindowLemmas
pub mod PrefixLemmas
mod FindExamples
