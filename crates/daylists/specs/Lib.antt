pub mod CodeWalk
pub mod Lists
pub mod CodeLists
