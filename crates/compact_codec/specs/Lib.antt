pub use Rattle.compact_text.specs.Text
pub mod Utf8Table
pub mod InvalidSequence
pub mod Utf8Text
pub mod Utf16Text
pub mod Utf16Bytes
