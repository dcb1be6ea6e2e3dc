-- Centred convolution of one line. Definitions: Pads, Sums, then what each entry promises: Sizes, Convolutions;
-- Works, what the functions behind them ask for. Laws: Places, Turns, Tested, Unique.
pub mod Pads
pub mod Sums
pub mod Sizes
pub mod Convolutions
pub mod Works
pub mod Places
pub mod Turns
pub mod Tested
pub mod Unique
