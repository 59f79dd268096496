pub mod Formats
pub mod Items
pub mod Laid
pub mod Lists
pub mod NameBytes
pub mod Parts
pub mod Windows
