pub mod CornerText
