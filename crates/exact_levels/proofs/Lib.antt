-- The theorems that what Through states holds: Once, of one level; Lines, of a level's line; Steps, through every level; Calls, of the code.
pub mod Once
pub mod Lines
pub mod Steps
pub mod Calls
