pub mod Exchanges
pub mod Taking
pub mod Serving
pub mod Turns
pub mod Visits
