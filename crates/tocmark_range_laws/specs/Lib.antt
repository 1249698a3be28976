pub mod Within
pub mod Found
