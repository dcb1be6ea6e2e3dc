-- Restoring is exact. Definitions: Restoring, both statements; Classes, the condition of four lists; Backs, what running there and back promises.
-- Laws: Weights, Moved, Distances, Reach, Identity, Signs, Mirror, Bounds; Made, of banks; Unique, of the code. The proof of the statements stands in proofs/: a wrong statement is then refused by it.
pub mod Restoring
pub mod Classes
pub mod Backs
pub mod Weights
pub mod Moved
pub mod Distances
pub mod Reach
pub mod Identity
pub mod Signs
pub mod Mirror
pub mod Bounds
pub mod Made
pub mod Unique
