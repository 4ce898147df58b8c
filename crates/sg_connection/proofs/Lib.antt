pub mod ExchangeLemmas
pub mod RefusalLemmas
pub mod TakeLemmas
pub mod TurnLemmas
pub mod VisitLemmas
