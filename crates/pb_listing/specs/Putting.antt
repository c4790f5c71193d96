-- Bytes that are put, of which it is said what they may be.
use Rattle.std.specs.Prelude.{ℕ, List, Option}
use Rattle.pb_output.specs.declared.sink.Sink.{Sink}
use Rattle.pb_output.specs.Sending.{Cut, Sent}
use Rattle.pb_output.specs.Sink.{Puts}

-- bytes of which this holds are put
abbrev pub PutsSome : {D : Type 0} → (D → Option (List ℕ)) → (D → ℕ) → D → D → Sink → Sink → (List ℕ → Type 0) → Type 0
PutsSome written failures old new a b IsMeant = (bytes : List ℕ) × IsMeant bytes × Puts written failures old new a b bytes

-- bytes of which this holds went out whole
abbrev pub SentSome : {D : Type 0} → (D → Option (List ℕ)) → (D → ℕ) → D → D → (List ℕ → Type 0) → Type 0
SentSome written failures old new IsMeant = (bytes : List ℕ) × IsMeant bytes × Sent written failures old new bytes

-- the device failed, after a prefix of such bytes
abbrev pub CutSome : {D : Type 0} → (D → Option (List ℕ)) → (D → ℕ) → D → D → (List ℕ → Type 0) → Type 0
CutSome written failures old new IsMeant = (bytes : List ℕ) × IsMeant bytes × Cut written failures old new bytes
