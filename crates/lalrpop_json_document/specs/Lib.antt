pub mod DocumentViews
pub mod MemberOrder
pub mod TokenData
