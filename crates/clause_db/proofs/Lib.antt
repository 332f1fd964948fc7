pub mod Cutting
pub mod ChangedLists
pub mod Literals
pub mod Numbering
