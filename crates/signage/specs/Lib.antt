pub mod Texts
pub mod Stop
pub mod Lines
pub mod Preview
pub mod Loading
pub mod Words
pub mod Top
pub mod Printing
