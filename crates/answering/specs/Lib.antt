-- The whole of `bands`, and what a program that says something else of a text's bands shares with it. Definitions: Answers, Asks. Laws: Answering, of reading; Asking; Banding; Room; Unique.
pub mod Answers
pub mod Asks
pub mod Answering
pub mod Asking
pub mod Banding
pub mod Unique
pub mod Room
