pub mod SectionLaws
pub mod SectionRecords
pub mod StoredLaws
