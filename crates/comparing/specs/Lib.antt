-- Comparing two bands. Definitions: Comparings. Laws: Tested, Firsts, Unique.
pub mod Comparings
pub mod Tested
pub mod Firsts
pub mod Unique
