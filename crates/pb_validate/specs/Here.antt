-- Places in bytes: an index, and the index of the known end.
pub use Rattle.pb_wire.specs.Scan.{here}
