-- The powers of a table's root that butterflies use.
pub mod Powers
