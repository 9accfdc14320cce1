pub mod PaddedLaws
pub mod PlaceLaws
pub mod RoleLaws
