pub mod WalkLaws
pub mod OnwardLaws
pub mod LastLaws
pub mod GatheringLaws
pub mod CommonLaws
pub mod SomeLaws
