pub mod OrderAndTable
