-- The theorems that what Restoring states holds: Four, of four lists; Exact, of one pair, from it; Entries, Calls, of the code.
pub mod Four
pub mod Exact
pub mod Entries
pub mod Calls
