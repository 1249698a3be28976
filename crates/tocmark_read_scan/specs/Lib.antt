pub mod Basic
pub mod Repeat
pub mod Class
pub mod Side
pub mod Content
pub mod PlainParts
pub mod TableCell
