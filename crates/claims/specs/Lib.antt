-- What docs/RULES.md, 16, asks for. Demand 1: Refusals, Entries, Ordered. Demand 2: Reading, Named, Sealed, Form, Rewritten. Demand 3: Demand, from
-- Change; Sequence. The two halves of a read: Halves, HeaderAlone. Scalars of any length: Scalars, NoScalars. Records handed in:
-- Handed. What is printed: Printed. Where a refusal is: Places, PlacesWritten. Armoured files: Armour. Reconnect settings: Settings, Stores, SettingsOrdered. The marked examples: Marked. Wrong
-- programs: ShutOut, ArmourShutOut. The others hold what these rest on.
pub mod Reading
pub mod Sealed
pub mod Form
pub mod Rewritten
pub mod Scalars
pub mod NoScalars
pub mod Change
pub mod Demand
pub mod Sequence
pub mod Handed
pub mod Halves
pub mod HeaderAlone
pub mod Refusals
pub mod Entries
pub mod Named
pub mod Ordered
pub mod Armour
pub mod Sizes
pub mod Marked
pub mod ShutOut
pub mod ArmourShutOut
pub mod Printed
pub mod Places
pub mod PlacesWritten
pub mod Rsa
pub mod Settings
pub mod Stores
pub mod SettingsOrdered
