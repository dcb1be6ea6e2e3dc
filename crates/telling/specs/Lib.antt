-- How answers are told to C. Definitions: Told, Borders. Laws: Telling, Unique.
pub mod Told
pub mod Borders
pub mod Telling
pub mod Unique
