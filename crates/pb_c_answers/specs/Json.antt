-- JSON texts that are read and written.
pub mod Numbers
pub mod Reading
pub mod Writing
