pub mod BodyLemmas
pub mod CallLemmas
pub mod PutLemmas
pub mod AnswerLemmas
pub mod FoldLemmas
pub mod HistoryLemmas
pub mod MessageLemmas
