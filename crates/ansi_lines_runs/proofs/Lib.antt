mod Examples
pub mod LineLemmas
pub mod WordLemmas
pub mod Written
