-- Laying texts. Definitions: Lays. Laws: Behind, of laying in turns; Digits, of digits filled in.
pub mod Lays
pub mod Behind
pub mod Digits
