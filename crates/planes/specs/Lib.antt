-- Planes. Definitions: Lengths, then the answers and what the size questions promise: Answers, and what tests give the work: Works. Laws: Areas, Tested, Unique.
pub mod Lengths
pub mod Answers
pub mod Works
pub mod Areas
pub mod Tested
pub mod Unique
