pub mod Hour
pub mod Begin
pub mod Law
pub mod Within
