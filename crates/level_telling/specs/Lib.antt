-- How answers about levels are told to C. Definitions: Readings. Laws: Telling.
pub mod Readings
pub mod Telling
