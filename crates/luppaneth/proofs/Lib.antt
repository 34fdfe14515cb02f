-- What a host reads in a reply is what the call told, and its numbers fit (Replies, Looking); where the part that is read stands (Reading); a
-- hold that was taken can be read (Holding).
pub mod Replies
pub mod Looking
pub mod Reading
pub mod Holding
