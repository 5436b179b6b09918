pub mod ColumnCases
pub mod Across
pub mod Resolved
pub mod Bodies
pub mod Accepting
pub mod KeptCauses
pub mod RoundTrip
