-- What a whole payload of bytes is for, and why it gives no value.
use Rattle.std.specs.Prelude.{◌≡◌, ℕ, List, IsUtf8}
use Rattle.std.specs.Str.Lossy.{utf8_valid_len}
use Rattle.pb_schema.specs.declared.types.Kind.{Kind}
use Rattle.pb_schema.specs.declared.types.Kind.TheVariants as kind
use Rattle.pb_decode_parts.specs.declared.values.payload_value.PayloadError.{PayloadError}
use Rattle.pb_decode_parts.specs.declared.values.payload_value.PayloadError.TheVariants as error
use Rattle.pb_decode_parts.specs.declared.open.target.Target.{Target}
use Rattle.pb_decode_parts.specs.declared.open.target.Target.TheVariants as target

-- A string that is not UTF-8 is reported with the length of its longest prefix that is.
abbrev pub IsPayloadError : Kind → List ℕ → PayloadError → Type 0
IsPayloadError k s (error.BadText valid) = (k ≡ kind.Text) × ¬ (IsUtf8 s) × (valid ≡ utf8_valid_len s)
IsPayloadError k s error.Memory = Unit {0}

-- the error says of a string that it is not UTF-8 after this many bytes, of which this holds; or memory ran out
abbrev pub IfBadText : PayloadError → (ℕ → Type 0) → Type 0
IfBadText (error.BadText valid) P = P valid
IfBadText error.Memory P = Unit {0}

-- a record of this target has its payload's bytes for its value, or is unknown: nothing opens after its length
abbrev pub IsBytesTarget : Target → Type 0
IsBytesTarget (target.One k s) = Unit {0}
IsBytesTarget (target.Element k) = Unit {0}
IsBytesTarget (target.Key k) = Unit {0}
IsBytesTarget (target.EntryValue k) = Unit {0}
IsBytesTarget target.Unknown = Unit {0}
IsBytesTarget (target.Packed k) = ⊥
IsBytesTarget (target.Message j s) = ⊥
IsBytesTarget (target.Entry key k) = ⊥
