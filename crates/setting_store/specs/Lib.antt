pub mod Store
pub mod Move
pub mod Moved
pub mod Kept
