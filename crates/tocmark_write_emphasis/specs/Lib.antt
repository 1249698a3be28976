-- Definitions.
pub mod Facts
pub mod Marks
pub mod ColumnsOf
pub mod NodeOf
pub mod Low
