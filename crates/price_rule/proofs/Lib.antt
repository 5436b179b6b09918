pub mod RuleCases
