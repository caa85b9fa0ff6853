pub mod PrintedModel
pub mod Specimen
pub mod Fits
pub mod Text
pub mod Printable
pub mod ReadText
pub mod Orders
