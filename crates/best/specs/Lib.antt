pub mod CodeBest
