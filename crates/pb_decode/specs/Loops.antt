-- Facts that only private functions and their loops need: no public contract rests on them.
use Rattle.std.specs.Prelude.{◌≡◌, ◌≤◌, ℕ, List, length, Option}
use Rattle.std.specs.Io.KnownBytes.{Consumes}
use Rattle.pb_wire.specs.Fault.{Fault}
use Rattle.pb_schema.specs.Types.{Types}
use Rattle.pb_decode.specs.declared.push.Reading.{Reading}
use Rattle.pb_decode.specs.Reader.Start.{Start, further, ReportedFrom}
use Rattle.pb_decode.specs.Reader.Pieces.{ReadFrom}

-- the input gave this many bytes, and the reader went on over them
pub record ReadsOn (pool : Types) (before after : Reading) (old new : Option (List ℕ)) (count : ℕ) : Type 0 where
  pub bytes : List ℕ
  pub size : length bytes ≡ count
  pub given : Consumes old new bytes
  pub onward : (o : Start) → ReadFrom pool o before → ReadFrom pool (further o bytes) after

-- of at most this many bytes that the input gave this fault is reported, which no more bytes change
pub record ReportedOf (pool : Types) (o : Start) (old new : Option (List ℕ)) (most : ℕ) (f : Fault) : Type 0 where
  pub bytes : List ℕ
  pub few : length bytes ≤ most
  pub given : Consumes old new bytes
  pub reported : ReportedFrom pool (further o bytes) f
