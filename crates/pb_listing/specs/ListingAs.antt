-- What the listing of a message is, where floats are listed in a form. By their bits it is `listing`.
use Rattle.std.specs.Prelude.{◌≡◌, ℕ, suc, List, [], ◌++◌, Option, MatchOption, codes}
use Rattle.pb_schema.specs.declared.types.Kind.{Kind}
use Rattle.pb_schema.specs.Types.{FieldView, Types, message_fields, field_numbered}
use Rattle.pb_schema.specs.Kinds.{message_of_kind}
use Rattle.pb_value.specs.Data.{Datum, scalar, message, Datums, no_datums, datum, Entries, no_entries, entry}
use Rattle.pb_value.specs.Data.{Holding, one, list, map, Fields, no_fields, field, Message, body}
use Rattle.pb_value.specs.Dynamic.{Dynamic}
use Rattle.pb_listing.specs.declared.form.FloatForm.{FloatForm}
use Rattle.pb_listing.specs.FloatText.{IsDatumText}
use Rattle.pb_listing.specs.Listing.{bracketed, names_of_kind, unknown_lines}
use Rattle.pb_listing.specs.RawListing.{line}

module _ (floats : FloatForm) (pool : Types) where
  -- the bytes are the line of a value of a kind, which is no message, after its name
  abbrev pub AreScalarLines : ℕ → Kind → List ℕ → Datum → List ℕ → Type 0
  AreScalarLines level k name d s =
      (value : List ℕ) × (s ≡ line level (name ++ codes ": " ++ value)) × IsDatumText floats (names_of_kind pool k) d value

  abbrev mutual
    -- the lines of a value of a kind: of a message, where the kind is one's, one level in
    pub AreDatumLines : ℕ → Kind → List ℕ → Datum → List ℕ → Type 0
    AreDatumLines level k name (scalar x) s = AreScalarLines level k name (scalar x) s
    AreDatumLines level k name (message b) s =
        (inside : List ℕ) × (s ≡ line level (name ++ codes " {") ++ inside ++ line level (codes "}"))
        × MatchOption (message_of_kind k) (inside ≡ []) (λ m. AreMessageLines (suc level) m b inside)

    -- the elements of a list
    pub AreEachLines : ℕ → Kind → List ℕ → Datums → List ℕ → Type 0
    AreEachLines level k name no_datums s = s ≡ []
    AreEachLines level k name (datum d ds) s =
        (first rest : List ℕ) × (s ≡ first ++ rest) × AreDatumLines level k name d first × AreEachLines level k name ds rest

    -- the entries of a map
    pub AreEntriesLines : ℕ → Kind → List ℕ → Entries → List ℕ → Type 0
    AreEntriesLines level k name no_entries s = s ≡ []
    AreEntriesLines level k name (entry x d es) s =
        (first rest : List ℕ) × (s ≡ first ++ rest) × AreDatumLines level k (name ++ bracketed x) d first × AreEntriesLines level k name es rest

    pub AreHoldingLines : ℕ → FieldView → Holding → List ℕ → Type 0
    AreHoldingLines level f (one d) s = AreDatumLines level f.kind f.name d s
    AreHoldingLines level f (list ds) s = AreEachLines level f.kind f.name ds s
    AreHoldingLines level f (map es) s = AreEntriesLines level f.kind f.name es s

    -- what the fields of these numbers hold; one that the type does not have has no line
    pub AreFieldsLines : ℕ → List FieldView → Fields → List ℕ → Type 0
    AreFieldsLines level all no_fields s = s ≡ []
    AreFieldsLines level all (field n h fs) s =
        (first rest : List ℕ) × (s ≡ first ++ rest)
        × MatchOption (field_numbered n all) (first ≡ []) (λ f. AreHoldingLines level f h first) × AreFieldsLines level all fs rest

    -- the lines of a message of a type, at a level
    pub AreMessageLines : ℕ → ℕ → Message → List ℕ → Type 0
    AreMessageLines level m (body fs us) s =
        (fields : List ℕ) × (s ≡ fields ++ unknown_lines level us) × AreFieldsLines level (message_fields pool m) fs fields

  -- the lines of a message of a kind, one level in; of a kind that is no message's none
  abbrev pub AreLinesInside : ℕ → Option ℕ → Message → List ℕ → Type 0
  AreLinesInside level m b s = MatchOption m (s ≡ []) (λ id. AreMessageLines (suc level) id b s)

-- the bytes are the lines of a message at a level
abbrev pub IsListingAt : FloatForm → ℕ → Dynamic → List ℕ → Type 0
IsListingAt floats level m s = AreMessageLines floats m.pool level m.kind m.body s

abbrev pub IsListing : FloatForm → Dynamic → List ℕ → Type 0
IsListing floats m s = IsListingAt floats 0 m s
