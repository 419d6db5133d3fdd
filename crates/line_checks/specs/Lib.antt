pub mod Before
pub mod Order
pub mod Places
