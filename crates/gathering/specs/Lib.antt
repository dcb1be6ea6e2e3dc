-- Sixteen places of one parity. Definitions: Pairs, what a pair adds; Works, what the functions ask for and leave. Laws: Turns.
pub mod Pairs
pub mod Works
pub mod Turns
