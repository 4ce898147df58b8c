pub mod Listings
pub mod Stocks
