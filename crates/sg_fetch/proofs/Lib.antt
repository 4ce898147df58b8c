pub mod CountLemmas
pub mod NextLemmas
pub mod StockLemmas
