pub mod Days
pub mod Shown
pub mod CodeMonth
pub mod DayRule
