pub mod HallLimits
pub mod LimitCauses
pub mod Promised
pub mod Chosen
pub mod RefineCauses
pub mod HallRounds
pub mod Refined
