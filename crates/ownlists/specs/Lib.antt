pub mod CodeOwn
