pub mod Chosen
pub mod Gathering
pub mod Unchosen
pub mod Fitting
pub mod Numbers
