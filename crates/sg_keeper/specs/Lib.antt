pub mod View
pub mod Changes
pub mod Pages
pub mod Map
