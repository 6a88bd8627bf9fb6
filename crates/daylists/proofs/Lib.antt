pub mod WalkLaws
pub mod LocalLaws
pub mod ReachLaws
pub mod ListLaws
pub mod OnwardLaws
pub mod StartLaws
pub mod ListsLaws
