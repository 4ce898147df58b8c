pub mod Asking
pub mod Ends
pub mod Heard
pub mod Requests
