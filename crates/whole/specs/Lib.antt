-- Whole numbers. Definitions: Sums; Floats, the floats that are whole. Laws: Integers, Terms, Exact, Zeros.
pub mod Sums
pub mod Floats
pub mod Integers
pub mod Terms
pub mod Exact
pub mod Zeros
