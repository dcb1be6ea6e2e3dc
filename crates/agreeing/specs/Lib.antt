-- The whole of `agree`. Definitions: Agreements. Laws: Agreeing, Same, Room, Unique.
pub mod Agreements
pub mod Agreeing
pub mod Same
pub mod Room
pub mod Unique
