-- Synthesis of a plane. Definitions: Joins, then what the entry promises: Syntheses; Works, what the functions behind it ask for. Laws: Steps, Tested, Unique.
pub mod Joins
pub mod Syntheses
pub mod Works
pub mod Steps
pub mod Tested
pub mod Unique
