-- for the lengths that are measured: varints, records and their payloads
pub mod SizeLemmas
-- for the loops of measuring: lengths, part by part
pub mod MeasureLemmas
-- for the table of a plan: it has a length for each part
pub mod PartsLemmas
-- for the loops that put records and elements
pub mod PutLemmas
-- for writing by the lengths: what goes out, part by part
pub mod WriteLemmas
