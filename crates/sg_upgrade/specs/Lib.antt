pub mod Upgrading
