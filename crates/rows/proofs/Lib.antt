pub mod RowLaws
pub mod PairLaws
pub mod PairNumberLaws
