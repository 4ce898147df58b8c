pub mod Loading
pub mod Pages
