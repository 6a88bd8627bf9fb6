pub mod FollowLaws
pub mod StartLaws
pub mod HersLaws
pub mod ListLaws
pub mod RuleLaws
pub mod OwnLaws
pub mod PairRuleLaws
