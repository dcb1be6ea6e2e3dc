-- Analysis over levels. Definitions: Lines, Analyses, Works. Laws: Steps, Handed, Tested, Unique.
pub mod Lines
pub mod Analyses
pub mod Works
pub mod Steps
pub mod Handed
pub mod Tested
pub mod Unique
