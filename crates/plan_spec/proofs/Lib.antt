pub mod Boards
pub mod Planned
pub mod PlanCauses
