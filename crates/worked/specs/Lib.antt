pub mod Worked
pub mod PairsWorked
pub mod Table
pub mod KeptWorked
