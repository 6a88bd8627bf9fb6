pub mod Fields
pub mod Sizes
pub mod Rules
pub mod Worked
pub mod Shifts
pub mod CodeRules
