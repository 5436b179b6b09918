pub mod Smallest
pub mod Counting
pub mod Numbers
pub mod Fewest
pub mod AssignCauses
pub mod Promised
