pub mod FilePairs
