pub mod ClassLaws
pub mod HeadLaws
pub mod Keys
pub mod MemberLaws
pub mod Members
