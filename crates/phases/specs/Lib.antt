-- A line of numbers byte by byte. Definitions: Phases. Laws: Firsts.
pub mod Phases
pub mod Firsts
