pub mod TimedOrdering
