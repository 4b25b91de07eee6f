mod Common
pub mod InterleavedLemmas
pub mod CutLemmas
pub mod TrimLemmas
pub mod WalkLemmas
pub mod SideLemmas
pub mod KeptWalkLemmas
pub mod StretchLemmas
pub mod LastRunLemmas
pub mod SideWalkLemmas
pub mod TrimWalkLemmas
pub mod ShownLemmas
pub mod CutSliceLemmas
pub mod SideSliceLemmas
pub mod KeptLemmas
pub mod KeptAsStdLemmas
pub mod LengthLemmas
mod CutExamples
mod KeptExamples
mod SideExamples
