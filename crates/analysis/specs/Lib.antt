-- Analysis of one line. Definitions: Sums, Lines, then what the entry promises: Analyses; Works, what the functions behind it ask for.
-- Laws: Taps, Tested, Unique; Turns, of eight places a turn; Halves, of both bands in one buffer.
pub mod Sums
pub mod Lines
pub mod Analyses
pub mod Works
pub mod Taps
pub mod Tested
pub mod Unique
pub mod Turns
pub mod Halves
