pub mod CodeTables
