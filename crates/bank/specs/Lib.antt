-- The bank. Definitions: Lengths, then what each entry promises: Banks, Sizes. Laws: Tested, Pairs, Unique.
pub mod Lengths
pub mod Banks
pub mod Sizes
pub mod Tested
pub mod Pairs
pub mod Unique
