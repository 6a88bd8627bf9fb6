pub mod CodeMargins
