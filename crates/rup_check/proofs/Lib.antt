pub mod Denying
pub mod Marking
pub mod PackedLines
pub mod Packing
pub mod Reading
pub mod Sound
