pub mod RsaBack
pub mod RsaRead
pub mod Back
pub mod Read
pub mod ReadPair
