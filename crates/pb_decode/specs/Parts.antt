-- What a push decoder has apart from its pool.
use Rattle.std.specs.Prelude.{ℕ, ◌<◌, length, Option, IfSome}
use Rattle.pb_wire.specs.Limits.{Bounds}
use Rattle.pb_schema.specs.Types.{Types}
use Rattle.pb_decode.specs.Push.{TookSome}
use Rattle.pb_decode.specs.Reader.Waiting.{Waits}
use Rattle.pb_decode.specs.Decoder.{Decoder, Reading, state_of}

-- the type and the limits, and what is read, unless the decoder refused bytes or gave its message
pub record Parts : Type 0 where
  pub message_type : ℕ
  pub limits : Bounds
  pub reading : Option Reading

-- the decoder that these are the parts of, beside its pool
abbrev pub decoder_of : Types → Parts → Decoder
decoder_of pool p = record { pool = pool; kind = p.message_type; limits = p.limits; reading = p.reading }

-- the type is one of the pool, and what is read is read of some input by the pool's types, of which no more can be taken
pub record IsOfPool (pool : Types) (p : Parts) : Type 0 where
  pub within : p.message_type < length pool.messages
  pub took : IfSome p.reading (λ r. TookSome pool p.message_type p.limits (state_of r) r.held)
  pub waits : IfSome p.reading (λ r. Waits (state_of r) r.held)
