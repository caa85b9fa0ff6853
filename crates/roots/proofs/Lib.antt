-- The laws of the root and of the tables of its powers, that the transforms cite.
mod Inverses
pub mod Roots
pub mod Tables
pub mod RootNegated
pub mod RootPowers
pub mod RootTangents
pub mod RootChoice
pub mod RootLaws
