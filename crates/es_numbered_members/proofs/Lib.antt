pub mod MemberNumbers
