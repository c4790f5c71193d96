pub mod ScalarAt
pub mod View
pub mod Found
pub mod Loops
pub mod Walk
