pub mod Tables
pub mod Codes
pub mod Names
pub mod Layouts
pub mod Rules
