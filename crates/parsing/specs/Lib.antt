-- Parsing. Definitions: Parses, what the entry promises; Steps, what the code does to a line and to three. Laws: Values, of a sign and a size; Complete and Sound, that a line's text is read and nothing else; Decides, the same of whole texts; Bytes, Reaching, Threes and Parsing, for the proofs of the code; Table, of the answers; Unique.
pub mod Parses
pub mod Steps
pub mod Values
pub mod Complete
pub mod Sound
pub mod Decides
pub mod Bytes
pub mod Reaching
pub mod Threes
pub mod Parsing
pub mod Table
pub mod Unique
