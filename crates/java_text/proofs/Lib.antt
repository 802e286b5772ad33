pub mod LetterLemmas
pub mod EscapeLemmas
pub mod LengthLemmas
pub mod FitLemmas
