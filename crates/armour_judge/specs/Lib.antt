pub mod Rest
pub mod Signs
pub mod Sized
pub mod Runs
pub mod Judge
pub mod Two
pub mod Judgement
