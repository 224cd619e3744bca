pub mod MembersView
