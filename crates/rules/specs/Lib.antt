pub mod Members
pub mod Draws
pub mod Walks
pub mod Records
pub mod Refused
