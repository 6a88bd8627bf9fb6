pub mod MaskLaws
pub mod NearLaws
pub mod PairMaskLaws
pub mod WithinLaws
