pub mod Edited
pub mod Pieces
pub mod Media
