-- for `put_steps`: what is at an index past the end of a path
pub mod StepLemmas
-- for `find_record`: places after bytes, the record that begins them, and records that lead to an index
pub mod FindLemmas
-- small cases of the definitions
pub mod Rows
-- for `rest_of_line`: where a line ends
pub mod LineLemmas
