pub mod Sessions
pub mod Lines
pub mod Commands
