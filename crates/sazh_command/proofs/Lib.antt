pub mod Numbers
pub mod Stops
pub mod Apps
pub mod Rows
pub mod Either
pub mod Answered
pub mod Askable
