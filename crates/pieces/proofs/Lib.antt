pub mod Inside
pub mod Inverses
pub mod Layouts
pub mod Texts
pub mod Steps
