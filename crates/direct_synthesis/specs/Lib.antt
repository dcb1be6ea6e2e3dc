-- Synthesis by the second engine, which promises what the first does. Laws: Places, of places that are gathered one by one and four at once; Same, both engines give the same numbers.
pub mod Places
pub mod Same
