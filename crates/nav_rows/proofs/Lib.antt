pub mod NumberLemmas
pub mod RowLemmas
pub mod TieLemmas
pub mod EncodeLemmas
pub mod ReadLemmas
pub mod OrderLemmas
