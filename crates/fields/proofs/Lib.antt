pub mod FieldLaws
pub mod RuleLaws
