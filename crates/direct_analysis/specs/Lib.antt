-- Analysis by the second engine. Definitions: Analyses, what the entry promises; Works, what the functions behind it ask for, and leave.
-- Laws: Near, the border rule near the line; Sums, of both loops over taps; Runs, of the runs of places; Tested, Unique; Same, both engines give the same numbers.
pub mod Analyses
pub mod Works
pub mod Near
pub mod Sums
pub mod Runs
pub mod Tested
pub mod Unique
pub mod Same
