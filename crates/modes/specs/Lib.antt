-- The border's name in the first line. Definitions: Names. Laws: Fronts.
pub mod Names
pub mod Fronts
