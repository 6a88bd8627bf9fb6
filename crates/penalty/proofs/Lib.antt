pub mod FieldLaws
pub mod DutyLaws
pub mod ColumnLaws
pub mod CountLaws
pub mod BoundLaws
pub mod HeldLaws
