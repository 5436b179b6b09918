pub mod EntryCases
pub mod RefineCases
