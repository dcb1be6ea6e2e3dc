-- The words that every crate's definitions use, and the laws of lists that code writes.
pub mod Words
pub mod Write
pub mod Places
pub mod Runs
pub mod Copies
pub mod Tests
