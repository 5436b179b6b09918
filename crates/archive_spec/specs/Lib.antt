pub mod Column
pub mod Kept
pub mod Archive
pub mod AcceptedKept
