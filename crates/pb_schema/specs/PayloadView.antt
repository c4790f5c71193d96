-- The payload that a borrowed one holds.
use Rattle.pb_wire.specs.Record.{Payload, varint, fixed64, len, fixed32}
use Rattle.pb_schema.specs.declared.scalars.ScalarPayload.{ScalarPayload}
use Rattle.pb_schema.specs.declared.scalars.ScalarPayload.TheVariants.{Varint, I64, Len, I32}

abbrev pub payload_view : ScalarPayload → Payload
payload_view (Varint n) = varint n
payload_view (I64 n) = fixed64 n
payload_view (Len s) = len s.now
payload_view (I32 n) = fixed32 n
