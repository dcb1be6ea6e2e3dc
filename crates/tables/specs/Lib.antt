-- Tables in one list. Definitions: Tables, and what the functions of a crossing ask for: Works. Laws: Sides, Stored, Crosses.
pub mod Tables
pub mod Works
pub mod Sides
pub mod Stored
pub mod Crosses
