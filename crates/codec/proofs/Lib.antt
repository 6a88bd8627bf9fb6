pub mod CodecLaws
pub mod EncodeLaws
pub mod PutLaws
pub mod NumberLaws
pub mod BytesLaws
