-- How answers about planes and bands are told to C. Definitions: Comparisons.
pub mod Comparisons
