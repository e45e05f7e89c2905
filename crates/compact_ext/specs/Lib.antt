pub mod Digits
pub mod WireRecords
pub mod Shown
pub mod Wire
pub mod Lines
