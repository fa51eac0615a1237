pub mod Calendar
pub mod DayLemmas
pub mod StampLemmas
pub mod SpellingLemmas
pub mod PayloadLemmas
pub mod ReadingLemmas
pub mod FieldLemmas
pub mod Rows
