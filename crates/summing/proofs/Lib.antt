-- What proofs of this crate and of those above share.
pub mod Fits
