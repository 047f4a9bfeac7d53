pub mod OutcomeLaws
pub mod EmptySheet
