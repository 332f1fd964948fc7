pub mod Crosses
pub mod MeasureLemmas
pub mod ReceiptLemmas
pub mod RunLemmas
pub mod SerialLemmas
pub mod WaveLemmas
