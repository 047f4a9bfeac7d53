pub mod TightLaws
