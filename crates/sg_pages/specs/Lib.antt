pub mod Pages
pub mod Maps
pub mod Shelves
