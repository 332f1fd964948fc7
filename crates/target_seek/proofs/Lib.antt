pub mod AboveLemmas
pub mod BinarySearchLemmas
pub mod ExampleLemmas
