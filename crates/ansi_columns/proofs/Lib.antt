pub mod FirstFitLawLemmas
pub mod ShownGapLemmas
pub mod ScreenLawLemmas
pub mod FittedLawLemmas
pub mod SidesLawLemmas
pub mod RowScreenLemmas
pub mod SequenceLemmas
pub mod EditLemmas
