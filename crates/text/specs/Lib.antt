pub mod Decimal
pub mod Place
