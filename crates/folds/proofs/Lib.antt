pub mod HermitianLine
pub mod MirrorLine
pub mod AlternatingLine
