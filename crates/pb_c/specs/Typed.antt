-- What the calls get to read, and what is reported of frames, and of scalars that are looked for.
pub mod Input
pub mod Frames
pub mod Found
