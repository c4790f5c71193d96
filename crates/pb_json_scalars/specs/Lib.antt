-- ---- numbers
pub mod Numbers
pub mod Scanned
pub mod Keys
-- ---- bytes
pub mod Base64
-- ---- times
pub mod Clock
-- ---- field masks
pub mod Paths
