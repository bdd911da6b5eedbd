pub mod Replies
pub mod Held
