pub mod Reasoned
