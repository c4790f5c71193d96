-- What ends, and goes into what holds it.
pub mod Closing
pub mod Closes
pub mod Mapped
