pub mod Orders
pub mod Keys
pub mod WriteMaps
pub mod Writable
pub mod Shortest
pub mod RoundTrip
pub mod WriteCauses
pub mod Promised
