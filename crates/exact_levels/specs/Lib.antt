-- Restoring through every level is exact. Definitions: Through, the statement; Backs, what running there and back over levels promises.
-- Laws: Signs, Squares; Tested, Unique, of the code. The proof of the statement stands in proofs/: a wrong statement is then refused by it.
pub mod Through
pub mod Backs
pub mod Signs
pub mod Squares
pub mod Tested
pub mod Unique
