pub mod FileLaws
pub mod GroupLaws
pub mod PieceLaws
