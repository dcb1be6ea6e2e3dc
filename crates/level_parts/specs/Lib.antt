-- Parts of the packed buffer. Definitions: Parts. Laws: Tested, Unique.
pub mod Parts
pub mod Tested
pub mod Unique
