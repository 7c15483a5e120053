pub mod Judged
pub mod Named
pub mod Parsed
pub mod RungRuns
pub mod Walks
pub mod Written
