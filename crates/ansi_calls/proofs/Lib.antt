pub mod LineListLemmas
pub mod BareLineLemmas
pub mod ShownLemmas
