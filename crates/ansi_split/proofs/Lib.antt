mod Common
pub mod IntervalLemmas
pub mod PartSliceLemmas
pub mod BetweenLemmas
pub mod StdSplitLemmas
pub mod CharacterLemmas
pub mod PartTextLemmas
mod PartExamples
pub mod PartSequenceLemmas
pub mod AfterLemmas
pub mod TakenLemmas
pub mod SpanWalkLemmas
pub mod SpanLemmas
pub mod RestLemmas
pub mod SplitLemmas
pub mod MatchWalkLemmas
pub mod PartLengthLemmas
pub mod IntervalWalkLemmas
pub mod CursorLemmas
