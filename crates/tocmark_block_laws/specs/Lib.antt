pub mod Trees
pub mod Quotes
pub mod Lists
pub mod Named
pub mod Short
pub mod Coverage
