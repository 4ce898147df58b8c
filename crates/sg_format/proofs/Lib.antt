pub mod FormatLemmas
