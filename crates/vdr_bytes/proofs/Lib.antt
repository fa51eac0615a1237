pub mod NumberLemmas
pub mod PutsLemmas
pub mod DigitLemmas
pub mod ChecksumLemmas
pub mod HexLemmas
pub mod Refusals
