-- Both sums of one place, and of several. Definitions: Sums, Works. Laws: Turns.
pub mod Sums
pub mod Works
pub mod Turns
