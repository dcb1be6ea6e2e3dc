-- Borders. Definitions: Rule, what stands at a place; Reach, what may be asked for. Laws: Rules, Mirrors, Pads, Ways, Inside.
pub mod Rule
pub mod Reach
pub mod Rules
pub mod Mirrors
pub mod Pads
pub mod Ways
pub mod Inside
