pub mod Kinds
pub mod Lists
pub mod Shown
pub mod Segment
pub mod Front
pub mod Ready
