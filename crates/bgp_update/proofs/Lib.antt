pub mod LayoutLaws
pub mod OriginLaws
pub mod OutcomeLaws
pub mod UpdateLaws
