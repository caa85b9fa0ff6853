pub mod Ring
pub mod RingLaws
