pub mod Judgements
pub mod Checks
pub mod Replays
pub mod Order
