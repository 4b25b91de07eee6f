pub mod LinkLemmas
pub mod AddressLemmas
mod LinkExamples
pub mod EndingLemmas
pub mod MadeLemmas
pub mod AllowedLemmas
pub mod SafeLemmas
pub mod RestLemmas
pub mod CharacterLemmas
pub mod CellLemmas
pub mod CellTextLemmas
pub mod EmptyLemmas
pub mod CellFrontLemmas
pub mod FrontLemmas
pub mod AsciiLemmas
pub mod LengthLemmas
pub mod ShortLinkLemmas
mod SafeExamples
