pub mod OldTexts
