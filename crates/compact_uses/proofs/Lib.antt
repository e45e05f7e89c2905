pub mod PieceLemmas
pub mod TokenLemmas
pub mod RowLemmas
pub mod RecordLemmas
pub mod CountLemmas
