pub mod Missing
pub mod Pieces
