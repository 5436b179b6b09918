pub mod SheetTurns
pub mod ByStart
