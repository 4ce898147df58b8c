pub mod PutAll
pub mod Taken
