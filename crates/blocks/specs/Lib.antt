pub mod Stores
pub mod PointStores
pub mod Rows
