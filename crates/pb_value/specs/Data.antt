-- Messages as plain trees: scalars and messages, singly, in lists or under keys. Fields are in order of rising number, and the entries of a map of rising key.
use Rattle.std.specs.Prelude.{ℕ, suc, max, List, [], ◌∷◌, Bool, false, ◌==◌, Option, Some, None, if◌then◌else◌}
use Rattle.std.specs.Ordering.{nat_cmp, int_eq, is_eq, bool_cmp, match_ordering}
use Rattle.std.specs.Str.{bytes_eq}
use Rattle.pb_wire.specs.Record.{Record, records_depth}
use Rattle.pb_schema.specs.Scalar.{Scalar, int32, int64, uint32, uint64, boolean, text, key_cmp}

mutual
  pub data Datum : Type 0 where
    scalar : Scalar → Datum
    message : Message → Datum

  pub data Datums : Type 0 where
    no_datums : Datums
    datum : Datum → Datums → Datums

  pub data Entries : Type 0 where
    no_entries : Entries
    entry : Scalar → Datum → Entries → Entries

  -- what a field holds
  pub data Holding : Type 0 where
    one : Datum → Holding
    list : Datums → Holding
    map : Entries → Holding

  pub data Fields : Type 0 where
    no_fields : Fields
    field : ℕ → Holding → Fields → Fields

  -- the fields, and the unknown records
  pub data Message : Type 0 where
    body : Fields → List Record → Message

abbrev pub empty : Message
empty = body no_fields []

abbrev pub fields_of : Message → Fields
fields_of (body fs us) = fs

abbrev pub unknown_of : Message → List Record
unknown_of (body fs us) = us

-- what the field of a number holds
abbrev pub get_field : ℕ → Fields → Option Holding
get_field n no_fields = None
get_field n (field k h fs) = match_ordering (nat_cmp n k) (get_field n fs) (Some h) (get_field n fs)

-- the fields with h at n, in place of what was there
abbrev pub put_field : ℕ → Holding → Fields → Fields
put_field n h no_fields = field n h no_fields
put_field n h (field k g fs) = match_ordering (nat_cmp n k) (field n h (field k g fs)) (field k h fs) (field k g (put_field n h fs))

-- the fields without n
abbrev pub drop_field : ℕ → Fields → Fields
drop_field n no_fields = no_fields
drop_field n (field k g fs) = match_ordering (nat_cmp n k) (field k g (drop_field n fs)) fs (field k g (drop_field n fs))

-- the fields with h at n, if there is one
abbrev pub put_some : ℕ → Option Holding → Fields → Fields
put_some n None fs = fs
put_some n (Some h) fs = put_field n h fs

-- the entries with d at a key, in place of what was there
abbrev pub put_entry : Scalar → Datum → Entries → Entries
put_entry k d no_entries = entry k d no_entries
put_entry k d (entry l e es) = match_ordering (key_cmp k l) (entry k d (entry l e es)) (entry l d es) (entry l e (put_entry k d es))

-- two keys are of one form, and equal
abbrev pub is_same_key : Scalar → Scalar → Bool
is_same_key (int32 x) (int32 y) = int_eq x y
is_same_key (int64 x) (int64 y) = int_eq x y
is_same_key (uint32 x) (uint32 y) = x == y
is_same_key (uint64 x) (uint64 y) = x == y
is_same_key (boolean x) (boolean y) = is_eq (bool_cmp x y)
is_same_key (text x) (text y) = bytes_eq x y
is_same_key _ _ = false

-- the value under a key
abbrev pub get_entry : Scalar → Entries → Option Datum
get_entry x no_entries = None
get_entry x (entry y d es) = if is_same_key x y then Some d else get_entry x es

-- entries over others
abbrev pub put_entries : Entries → Entries → Entries
put_entries no_entries es = es
put_entries (entry k d ds) es = put_entries ds (put_entry k d es)

abbrev pub datums_of : List Datum → Datums
datums_of [] = no_datums
datums_of (d ∷ ds) = datum d (datums_of ds)

abbrev pub joined_datums : Datums → Datums → Datums
joined_datums no_datums es = es
joined_datums (datum d ds) es = datum d (joined_datums ds es)

-- How many levels a message nests below itself. An embedded message, a map entry and a group are one more, and the message of an entry is at the entry's level.
abbrev mutual
  pub levels_of : Datum → ℕ
  levels_of (scalar x) = 0
  levels_of (message m) = suc (message_depth m)

  pub levels_in_entry : Datum → ℕ
  levels_in_entry (scalar x) = 0
  levels_in_entry (message m) = message_depth m

  pub datums_depth : Datums → ℕ
  datums_depth no_datums = 0
  datums_depth (datum d ds) = max (levels_of d) (datums_depth ds)

  pub entries_depth : Entries → ℕ
  entries_depth no_entries = 0
  entries_depth (entry k d es) = max (suc (levels_in_entry d)) (entries_depth es)

  pub holding_depth : Holding → ℕ
  holding_depth (one d) = levels_of d
  holding_depth (list ds) = datums_depth ds
  holding_depth (map es) = entries_depth es

  pub fields_depth : Fields → ℕ
  fields_depth no_fields = 0
  fields_depth (field k h fs) = max (holding_depth h) (fields_depth fs)

  pub message_depth : Message → ℕ
  message_depth (body fs us) = max (fields_depth fs) (records_depth us)
