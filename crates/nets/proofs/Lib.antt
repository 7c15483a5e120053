pub mod Filling
pub mod Items
