pub mod Answers
pub mod Follows
pub mod KnownLiterals
pub mod Packed
