pub mod WindowLaws
pub mod CostLaws
pub mod ExchangeLaws
