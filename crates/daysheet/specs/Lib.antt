pub mod Cell
pub mod Sheet
