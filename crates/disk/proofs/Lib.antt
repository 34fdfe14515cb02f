-- Laws of the disk: loading an image (Loading), a disk opened (Opened), what a disk means by cases (Examining) and in full where it is
-- accepted (Accepted), equal bytes and equal in meaning (Bytes, Equals), restart by cases (Restarting); then what restart leaves: a state fit
-- for number 2 (Usable), and a disk that means the same (Again); and why the log ended, as it is told (Stops).
pub mod Loading
pub mod Opened
pub mod Bytes
pub mod Examining
pub mod Restarting
pub mod Equals
pub mod Accepted
pub mod Usable
pub mod Again
pub mod Stops
