pub mod Sheet
pub mod State
pub mod Claims
pub mod Encoding
pub mod Numbers
pub mod Examples
pub mod SheetTexts
