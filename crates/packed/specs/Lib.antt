-- The packed buffer. Definitions: Lengths, then the tests' answers: Answers, and what the functions that entries share ask for: Works. Laws: Falls, Follow, Tested.
pub mod Lengths
pub mod Answers
pub mod Works
pub mod Falls
pub mod Follow
pub mod Tested
