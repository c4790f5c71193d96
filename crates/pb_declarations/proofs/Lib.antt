-- for what a message stands for, part by part
pub mod ViewLemmas
-- rows for what stands in each other, and for one meaning or one fault
pub mod Rows
