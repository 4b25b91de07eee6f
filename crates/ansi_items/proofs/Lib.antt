mod Common
pub mod SequenceLemmas
pub mod PieceLemmas
pub mod FrontLemmas
pub mod EscapeLemmas
pub mod MarkLemmas
pub mod ScanLemmas
pub mod BetweenLemmas
pub mod PlainLemmas
pub mod Utf8Lemmas
pub mod StepLemmas
pub mod JoinLemmas
pub mod AnsiColorLemmas
pub mod Tables
mod Examples
