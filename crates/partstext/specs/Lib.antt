pub mod PartsText
