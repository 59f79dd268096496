pub mod Bytes
pub mod Cursors
pub mod Names
pub mod Readers
pub mod Reading
pub mod Refusals
