pub mod Coils
pub mod Flows
pub mod Grammar
pub mod Ladders
pub mod Rungs
pub mod Steps
