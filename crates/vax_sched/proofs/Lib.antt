pub mod DueLaws
pub mod ReadLaws
pub mod KeptLaws
pub mod PrintLaws
pub mod SameLaws
