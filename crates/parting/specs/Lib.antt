-- Where the bands of one line part from other bands of it. Definitions: Partings. Laws: Firsts, Unique.
pub mod Partings
pub mod Firsts
pub mod Unique
