pub mod ChangeLemmas
pub mod FieldLemmas
pub mod Loop
pub mod WritingLemmas
