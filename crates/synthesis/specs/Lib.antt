-- Synthesis of one line. Definitions: Sums, Lines, then what the entry promises: Syntheses; Works, what the functions behind it ask for.
-- Laws: Meets, Taps, Gathers, Runs, Tested, Unique.
pub mod Sums
pub mod Lines
pub mod Syntheses
pub mod Works
pub mod Meets
pub mod Taps
pub mod Gathers
pub mod Runs
pub mod Tested
pub mod Unique
