pub mod Levels
pub mod Ternaries
