pub mod LeftOutLawLemmas
pub mod PenLemmas
pub mod LentLemmas
pub mod LinePrintsLemmas
pub mod CleanLineLemmas
pub mod EditWrapLemmas
pub mod OnlyLineLemmas
