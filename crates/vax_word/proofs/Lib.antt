pub mod OperandLemmas
pub mod ProductLemmas
pub mod QuotientLemmas
pub mod ShiftLemmas
pub mod StatusLemmas
pub mod SumLemmas
