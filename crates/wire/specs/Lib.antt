pub mod Number
pub mod Mark
