pub mod KeyLemmas
pub mod UnitBytes
pub mod UnitLemmas
