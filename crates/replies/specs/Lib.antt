pub mod Laid
pub mod Replies
pub mod Code
pub mod Page
