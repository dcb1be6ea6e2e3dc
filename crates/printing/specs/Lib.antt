-- Printing. Definitions: Printings. Laws: Sizes, of texts; Tested, of the entries; Table, of the answers; Unique.
pub mod Printings
pub mod Sizes
pub mod Tested
pub mod Table
pub mod Unique
