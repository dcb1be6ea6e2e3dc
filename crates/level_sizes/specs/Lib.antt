-- Lengths over levels. Definitions: Sizes. Laws: Unique.
pub mod Sizes
pub mod Unique
