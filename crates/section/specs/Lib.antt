pub mod Section
pub mod SectionLaws
pub mod Sound
pub mod SectionPlaces
pub mod Orders
pub mod PointsRead
