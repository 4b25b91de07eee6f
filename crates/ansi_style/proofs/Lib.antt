mod Common
pub mod BitsLemmas
pub mod WordLemmas
pub mod CodeLemmas
pub mod FieldLemmas
pub mod StateLemmas
pub mod DecimalLemmas
pub mod FrontLemmas
pub mod WritingLemmas
pub mod WrittenLemmas
pub mod MarkLemmas
pub mod SgrLemmas
pub mod StyleLemmas
pub mod ThroughLemmas
pub mod StyledLemmas
pub mod SpelledLemmas
pub mod ColorLemmas
pub mod ReadBackLemmas
pub mod StartLemmas
pub mod CloseLemmas
pub mod UnsetLemmas
pub mod DressedLemmas
mod StyleExamples
mod TableExamples
mod NumbersLemmas
