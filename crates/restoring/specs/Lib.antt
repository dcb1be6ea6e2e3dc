-- Restoring several levels. Definitions: Lines, Restorings, Dividings, Works. Laws: Joins, Steps, Tested, TestedDivided, Handed, Unique.
pub mod Lines
pub mod Restorings
pub mod Dividings
pub mod Works
pub mod Joins
pub mod Steps
pub mod Tested
pub mod TestedDivided
pub mod Handed
pub mod Unique
