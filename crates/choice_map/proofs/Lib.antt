pub mod Bytes
pub mod Maps
pub mod Clean
pub mod Next
pub mod NextChosen
pub mod Counts
pub mod OnesFrom
