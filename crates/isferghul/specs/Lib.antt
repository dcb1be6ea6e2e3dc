-- The interface for C. Definitions, what each export promises, which is what its entry does, told: Lines, Sizes, Levels, Planes. Laws: Telling, Unique.
pub mod Lines
pub mod Sizes
pub mod Levels
pub mod Planes
pub mod Telling
pub mod Unique
