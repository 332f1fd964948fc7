pub mod PackSearch
