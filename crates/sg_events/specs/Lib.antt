pub mod Active
pub mod Edges
pub mod Quiet
