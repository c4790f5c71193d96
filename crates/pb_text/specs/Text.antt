-- The text of a message in the text format: a field for each value, by rising number, an element of a list and an entry of a map each by itself, a
-- message between braces, and after the fields the unknown records.
use Rattle.std.specs.Prelude.{◌≡◌, ℕ, suc, List, [], ◌++◌, Option, MatchOption, codes, slice_get}
use Rattle.std.specs.Option.{option_map_or}
use Rattle.pb_schema.specs.declared.types.Kind.{Kind}
use Rattle.pb_schema.specs.declared.types.Kind.TheVariants.{Group}
use Rattle.pb_schema.specs.Kinds.{message_of_kind}
use Rattle.pb_schema.specs.Scalar.{Scalar}
use Rattle.pb_schema.specs.Types.{FieldView, Types, message_fields, field_numbered}
use Rattle.pb_value.specs.Data.{Datum, scalar, message, Datums, no_datums, datum, Entries, no_entries, entry}
use Rattle.pb_value.specs.Data.{Holding, one, list, map, Fields, no_fields, field, Message, body}
use Rattle.pb_value.specs.Dynamic.{Dynamic}
use Rattle.pb_listing.specs.Listing.{names_of_kind}
use Rattle.pb_text.specs.declared.form.TextForm.{TextForm}
use Rattle.pb_text.specs.Lines.{item}
use Rattle.pb_text.specs.Unknown.{AreUnknownLines}
use Rattle.pb_text.specs.Values.{IsDatumText, IsKeyText}

-- the simple name of a message type
abbrev pub name_of_message : Types → ℕ → List ℕ
name_of_message pool m = option_map_or (λ t. t.name) (slice_get pool.messages m) []

-- what names a field: of a group its type's name
abbrev pub label_of : Types → Kind → List ℕ → List ℕ
label_of pool (Group m) name = name_of_message pool m.0
label_of pool _ name = name

-- the key of an entry
abbrev pub IsKeyLine : TextForm → ℕ → Scalar → List ℕ → Type 0
IsKeyLine form level key s =
    (value : List ℕ) × (s ≡ item form.layout level (codes "key: " ++ value)) × IsKeyText form.characters key value

module _ (form : TextForm) (pool : Types) where
  -- a value of a kind, which is no message, after its label
  abbrev pub AreScalarLines : ℕ → Kind → List ℕ → Datum → List ℕ → Type 0
  AreScalarLines level k label d s =
      (value : List ℕ) × (s ≡ item form.layout level (label ++ codes ": " ++ value)) × IsDatumText form.characters (names_of_kind pool k) d value

  abbrev mutual
    -- a value of a kind: of a message, if the kind is one's, the fields one level in
    pub AreDatumLines : ℕ → Kind → List ℕ → Datum → List ℕ → Type 0
    AreDatumLines level k label (scalar x) s = AreScalarLines level k label (scalar x) s
    AreDatumLines level k label (message b) s =
        (inside : List ℕ) × (s ≡ item form.layout level (label ++ codes " {") ++ inside ++ item form.layout level (codes "}"))
        × MatchOption (message_of_kind k) (inside ≡ []) (λ m. AreMessageLines (suc level) m b inside)

    -- the elements of a list
    pub AreEachLines : ℕ → Kind → List ℕ → Datums → List ℕ → Type 0
    AreEachLines level k label no_datums s = s ≡ []
    AreEachLines level k label (datum d ds) s =
        (first rest : List ℕ) × (s ≡ first ++ rest) × AreDatumLines level k label d first × AreEachLines level k label ds rest

    -- the entries of a map, each a message with a key and a value
    pub AreEntriesLines : ℕ → Kind → List ℕ → Entries → List ℕ → Type 0
    AreEntriesLines level k label no_entries s = s ≡ []
    AreEntriesLines level k label (entry x d es) s =
        (key value rest : List ℕ)
        × (s ≡ (item form.layout level (label ++ codes " {") ++ (key ++ value) ++ item form.layout level (codes "}")) ++ rest)
        × IsKeyLine form (suc level) x key × AreDatumLines (suc level) k (codes "value") d value × AreEntriesLines level k label es rest

    pub AreHoldingLines : ℕ → FieldView → Holding → List ℕ → Type 0
    AreHoldingLines level f (one d) s = AreDatumLines level f.kind (label_of pool f.kind f.name) d s
    AreHoldingLines level f (list ds) s = AreEachLines level f.kind (label_of pool f.kind f.name) ds s
    AreHoldingLines level f (map es) s = AreEntriesLines level f.kind (label_of pool f.kind f.name) es s

    -- what the fields of these numbers hold; one that the type does not have has no line
    pub AreFieldsLines : ℕ → List FieldView → Fields → List ℕ → Type 0
    AreFieldsLines level all no_fields s = s ≡ []
    AreFieldsLines level all (field n h fs) s =
        (first rest : List ℕ) × (s ≡ first ++ rest)
        × MatchOption (field_numbered n all) (first ≡ []) (λ f. AreHoldingLines level f h first) × AreFieldsLines level all fs rest

    -- a message of a type, at a level
    pub AreMessageLines : ℕ → ℕ → Message → List ℕ → Type 0
    AreMessageLines level m (body fs us) s =
        (fields unknown : List ℕ) × (s ≡ fields ++ unknown) × AreFieldsLines level (message_fields pool m) fs fields × AreUnknownLines form level us unknown

  -- a message of a kind, one level in; of a kind that is no message's nothing
  abbrev pub AreInside : ℕ → Option ℕ → Message → List ℕ → Type 0
  AreInside level m b s = MatchOption m (s ≡ []) (λ id. AreMessageLines (suc level) id b s)

  -- the key and the value of an entry, at a level
  abbrev pub ArePairLines : ℕ → Kind → Scalar → Datum → List ℕ → Type 0
  ArePairLines level k x d s = (key value : List ℕ) × (s ≡ key ++ value) × IsKeyLine form level x key × AreDatumLines level k (codes "value") d value

-- the bytes are a text of the message
abbrev pub IsText : TextForm → Dynamic → List ℕ → Type 0
IsText form m s = AreMessageLines form m.pool 0 m.kind m.body s
