-- Laws that proofs here cite.
pub mod Within
