pub mod Utf8Lemmas
pub mod StepLemmas
pub mod GivenLemmas
pub mod ListLemmas
pub mod ByteLemmas
pub mod LinkListLemmas
pub mod PenLemmas
pub mod MadeLemmas
