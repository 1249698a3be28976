pub mod Walks
pub mod Steps
pub mod Unranged
pub mod Readings
pub mod Runs
pub mod Statuses
pub mod Behind
pub mod LaterUnits
