pub mod Steps
pub mod At
pub mod Laws
