mod Common
pub mod BlockLemmas
pub mod BlockRunLemmas
pub mod BlockWalkLemmas
mod BlockExamples
