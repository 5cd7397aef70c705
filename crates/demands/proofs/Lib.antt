-- Lemmas on accepted rows and what computing unfolds, then a proof of each statement.
pub mod Zero
pub mod Filled
pub mod Handed
pub mod Computed
pub mod Demand1
pub mod Demand3
pub mod Demand3Angular
pub mod RowLaws
pub mod Edges
pub mod Card2
pub mod Card4
pub mod Card5
pub mod Card8
pub mod Streams
