pub mod Grammar
pub mod Layout
pub mod CodePlace
pub mod Faults
pub mod CodeAsked
pub mod CodeWant
pub mod Editions
pub mod Shown
