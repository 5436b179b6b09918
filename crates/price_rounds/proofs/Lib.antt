pub mod FirstLook
pub mod RoundCases
