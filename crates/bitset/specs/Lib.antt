pub mod Lists
pub mod Sets
pub mod Laws
pub mod Room
