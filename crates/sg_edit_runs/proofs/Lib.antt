pub mod OneServer
pub mod PutLemmas
pub mod KeptReplies
pub mod KeptLemmas
pub mod LeadLemmas
pub mod RunLemmas
pub mod LawLemmas
