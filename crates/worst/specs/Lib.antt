pub mod Worst
