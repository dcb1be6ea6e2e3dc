-- A line divided by a whole number. Definitions: Divisions. Laws: Divisors.
pub mod Divisions
pub mod Divisors
