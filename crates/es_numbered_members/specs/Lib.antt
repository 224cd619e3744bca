pub mod NumberedMembers
