-- What an order is after a change.
use Rattle.std.specs.Prelude.{ℕ, List}
use Rattle.pb_schema.specs.Scalar.{text}
use Rattle.pb_schema.specs.Types.{message_fields}
use Rattle.pb_value.specs.Change.{set_at, with_fields}
use Rattle.pb_value.specs.Data.{fields_of, one, scalar}
use Rattle.pb_value.specs.Dynamic.{Dynamic}

-- the order with this date, and all else as it was
abbrev pub dated : List ℕ → Dynamic → Dynamic
dated date order =
    record order { body = with_fields order.body (set_at (message_fields order.pool order.kind) 2 (one (scalar (text date))) (fields_of order.body)) }
