pub mod Puts
pub mod Runs
pub mod Decimal
pub mod Determined
