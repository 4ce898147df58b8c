pub mod ShortLemmas
pub mod SumLemmas
pub mod BetweenLemmas
pub mod KindLemmas
pub mod KeptLemmas
pub mod CountLemmas
pub mod MediumLemmas
