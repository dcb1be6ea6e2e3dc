-- Texts, as lists of bytes. Definitions: Texts, what is read; Prints, what is printed; Laying, a list laid onto a buffer. Laws: Laid, of laying; Numerals, of a number's digits.
pub mod Laying
pub mod Texts
pub mod Prints
pub mod Laid
pub mod Numerals
