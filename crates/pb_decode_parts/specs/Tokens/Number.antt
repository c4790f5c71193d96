-- The numbers of the wire: their wire types, and the payload that one is.
pub use Rattle.pb_wire.specs.Scan.{number_view, IsNumberType}
