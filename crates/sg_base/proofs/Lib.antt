pub mod FaultLemmas
pub mod LayoutLemmas
pub mod DoubleLemmas
pub mod DaypartLemmas
pub mod RisingLemmas
pub mod IndexLemmas
pub mod StopLemmas
pub mod TextLemmas
