pub mod EachLemmas
pub mod HeadLemmas
pub mod JsonLemmas
pub mod MembersLemmas
