pub mod Rows
pub mod Lists
pub mod Shown
pub mod Steady
pub mod Ready
pub mod Catalog
