pub mod Searches
pub mod Promised
pub mod Costs
pub mod Firsts
pub mod Sets
pub mod ImproveCauses
pub mod SheetPromised
