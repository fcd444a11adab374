-- `DeterminedIf`, which the streams' functions have too, for the crates that replay.
pub use Rattle.standard_streams.specs.Determined.{DeterminedIf}
