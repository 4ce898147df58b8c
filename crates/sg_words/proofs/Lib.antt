pub mod OptionLemmas
mod Examples
