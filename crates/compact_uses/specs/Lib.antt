pub mod Tokens
pub mod Columns
pub mod Records
pub mod Entries
