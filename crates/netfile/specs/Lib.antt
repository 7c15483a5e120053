pub mod Files
pub mod Rules
pub mod Steps
pub mod Says
pub mod Strictness
