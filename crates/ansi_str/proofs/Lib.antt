mod Common
pub mod ChangeLemmas
pub mod EditLemmas
pub mod BareLemmas
pub mod EditWalkLemmas
mod EditExamples
mod LawExamples
