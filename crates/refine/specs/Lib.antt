pub mod PlannedBoard
