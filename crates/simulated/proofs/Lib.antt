pub mod RowLaws
pub mod ListLaws
pub mod SweepLaws
pub mod Kind
