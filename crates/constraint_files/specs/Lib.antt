pub mod Records
pub mod Field
pub mod Domains
pub mod PairTable
pub mod Reads
pub mod LineReader
pub mod PlainLines
