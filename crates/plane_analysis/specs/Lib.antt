-- Analysis of a plane. Definitions: Bands, then what the entry promises: Analyses; Works, what the functions behind it ask for. Laws: Steps, Tested, Unique.
pub mod Bands
pub mod Analyses
pub mod Works
pub mod Steps
pub mod Tested
pub mod Unique
