pub mod FirstLine
pub mod OwnLines
pub mod SectionTrip
pub mod TableTrip
pub mod Corrected
pub mod RoundTrip
pub mod SheetTrip
