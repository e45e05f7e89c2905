pub mod Text
pub mod Cut
pub mod Case
pub mod Retain
pub mod WordBytes
