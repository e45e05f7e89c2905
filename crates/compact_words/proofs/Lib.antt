pub mod EmptyLemmas
