-- Where floats are listed by their bits, the one listing of a message is `listing`.
use Rattle.std.proofs.Common.{◌≡◌, ℕ, suc, List, [], ◌++◌, Option, None, Some, refl, ap, sym, ◌∙◌, subst, codes}
use Rattle.std.specs.Prelude.{MatchOption, MatchResult, Result, Ok, Err, ℤ}
use Rattle.std.specs.Option.{option_map_or}
use Rattle.pb_schema.specs.declared.types.Kind.{Kind}
use Rattle.pb_schema.specs.Types.{FieldView, Types, field_numbered, message_fields}
use Rattle.pb_schema.specs.Kinds.{message_of_kind}
use Rattle.pb_value.specs.Data.{Datum, scalar, message, Datums, no_datums, datum, Entries, no_entries, entry}
use Rattle.pb_value.specs.Data.{Holding, one, list, map, Fields, no_fields, field, Message, body}
use Rattle.pb_schema.specs.Scalar.{Scalar}
use Rattle.pb_value.specs.Dynamic.{Dynamic}
use Rattle.pb_wire.specs.declared.device.DeviceFault.{DeviceFault}
use Rattle.pb_output.specs.Sending.{Cut, Sent}
use Rattle.pb_listing.specs.declared.form.FloatForm.{FloatForm}
use Rattle.pb_listing.specs.declared.form.FloatForm.TheVariants.{Bits}
use Rattle.pb_listing.specs.FloatText.{IsScalarText}
use Rattle.pb_listing.specs.Listing.{bracketed, datum_lines, each_lines, entries_lines, holding_lines, fields_lines, message_lines, listing, names_of_kind, scalar_text, unknown_lines}
use Rattle.pb_listing.specs.ListingAs.{AreDatumLines, AreEachLines, AreEntriesLines, AreFieldsLines, AreHoldingLines, AreMessageLines, IsListing}
use Rattle.pb_listing.specs.Putting.{CutSome, SentSome}
use Rattle.pb_listing.specs.RawListing.{line}

-- one text after another
both : (s first rest first' rest' : List ℕ) → s ≡ first ++ rest → first ≡ first' → rest ≡ rest' → s ≡ first' ++ rest'
both s first rest first' rest' e f g = e ∙ ap (λ (l : List ℕ). l ++ rest) f ∙ ap (λ (l : List ℕ). first' ++ l) g

module _ (pool : Types) where
  -- what is there, if anything is
  of_option :
      {X : Type 0} (o : Option X) (Is : X → List ℕ → Type 0) (text : X → List ℕ) → ((x : X) (s : List ℕ) → Is x s → s ≡ text x) → (s : List ℕ)
      → MatchOption o (s ≡ []) (λ x. Is x s) → s ≡ option_map_or text o []
  of_option None Is text exact s h = h
  of_option (Some x) Is text exact s h = exact x s h

  mutual
    datum_exact : (d : Datum) (level : ℕ) (k : Kind) (name s : List ℕ) → AreDatumLines Bits pool level k name d s → s ≡ datum_lines pool level k name d
    datum_exact (scalar x) level k name s (value, e, is) = e ∙ ap (λ (v : List ℕ). line level (name ++ codes ": " ++ v)) is
    datum_exact (message b) level k name s (inside, e, is) =
        e ∙ ap (λ (l : List ℕ). line level (name ++ codes " {") ++ l ++ line level (codes "}"))
        (of_option (message_of_kind k) (λ (m : ℕ). AreMessageLines Bits pool (suc level) m b) (λ (m : ℕ). message_lines pool (suc level) m b)
        (λ m t h. message_exact b (suc level) m t h) inside is)

    each_exact : (ds : Datums) (level : ℕ) (k : Kind) (name s : List ℕ) → AreEachLines Bits pool level k name ds s → s ≡ each_lines pool level k name ds
    each_exact no_datums level k name s e = e
    each_exact (datum d ds) level k name s (first, rest, e, is, others) =
        both s first rest _ _ e (datum_exact d level k name first is) (each_exact ds level k name rest others)

    entries_exact : (es : Entries) (level : ℕ) (k : Kind) (name s : List ℕ) → AreEntriesLines Bits pool level k name es s → s ≡ entries_lines pool level k name es
    entries_exact no_entries level k name s e = e
    entries_exact (entry x d es) level k name s (first, rest, e, is, others) =
        both s first rest _ _ e (datum_exact d level k (name ++ bracketed x) first is) (entries_exact es level k name rest others)

    holding_exact : (h : Holding) (level : ℕ) (f : FieldView) (s : List ℕ) → AreHoldingLines Bits pool level f h s → s ≡ holding_lines pool level f h
    holding_exact (one d) level f s is = datum_exact d level f.kind f.name s is
    holding_exact (list ds) level f s is = each_exact ds level f.kind f.name s is
    holding_exact (map es) level f s is = entries_exact es level f.kind f.name s is

    fields_exact : (fs : Fields) (level : ℕ) (all : List FieldView) (s : List ℕ) → AreFieldsLines Bits pool level all fs s → s ≡ fields_lines pool level all fs
    fields_exact no_fields level all s e = e
    fields_exact (field n h fs) level all s (first, rest, e, is, others) =
        both s first rest _ _ e
        (of_option (field_numbered n all) (λ (f : FieldView). AreHoldingLines Bits pool level f h) (λ (f : FieldView). holding_lines pool level f h)
        (λ f t i. holding_exact h level f t i) first is)
        (fields_exact fs level all rest others)

    pub message_exact : (b : Message) (level m : ℕ) (s : List ℕ) → AreMessageLines Bits pool level m b s → s ≡ message_lines pool level m b
    message_exact (body fs us) level m s (fields, e, is) =
        e ∙ ap (λ (l : List ℕ). l ++ unknown_lines level us) (fields_exact fs level (message_fields pool m) fields is)

-- and that is one
module _ (floats : FloatForm) (pool : Types) (is_bits : floats ≡ Bits) where
  of_value : (names : List (List ℕ × ℤ)) (x : Scalar) → IsScalarText floats names x (scalar_text names x)
  of_value names x = subst (λ (f : FloatForm). IsScalarText f names x (scalar_text names x)) (sym is_bits) refl

  for_option :
      {X : Type 0} (o : Option X) (Is : X → List ℕ → Type 0) (text : X → List ℕ) → ((x : X) → Is x (text x))
      → MatchOption o (option_map_or text o [] ≡ []) (λ x. Is x (option_map_or text o []))
  for_option None Is text listed = refl
  for_option (Some x) Is text listed = listed x

  mutual
    datum_listed : (d : Datum) (level : ℕ) (k : Kind) (name : List ℕ) → AreDatumLines floats pool level k name d (datum_lines pool level k name d)
    datum_listed (scalar x) level k name = (scalar_text (names_of_kind pool k) x, refl, of_value (names_of_kind pool k) x)
    datum_listed (message b) level k name = (
      _,
      refl,
      for_option (message_of_kind k) (λ (m : ℕ). AreMessageLines floats pool (suc level) m b) (λ (m : ℕ). message_lines pool (suc level) m b)
          (λ m. message_listed b (suc level) m),
    )

    pub each_listed : (ds : Datums) (level : ℕ) (k : Kind) (name : List ℕ) → AreEachLines floats pool level k name ds (each_lines pool level k name ds)
    each_listed no_datums level k name = refl
    each_listed (datum d ds) level k name = (_, _, refl, datum_listed d level k name, each_listed ds level k name)

    pub entries_listed : (es : Entries) (level : ℕ) (k : Kind) (name : List ℕ) → AreEntriesLines floats pool level k name es (entries_lines pool level k name es)
    entries_listed no_entries level k name = refl
    entries_listed (entry x d es) level k name = (_, _, refl, datum_listed d level k (name ++ bracketed x), entries_listed es level k name)

    holding_listed : (h : Holding) (level : ℕ) (f : FieldView) → AreHoldingLines floats pool level f h (holding_lines pool level f h)
    holding_listed (one d) level f = datum_listed d level f.kind f.name
    holding_listed (list ds) level f = each_listed ds level f.kind f.name
    holding_listed (map es) level f = entries_listed es level f.kind f.name

    pub fields_listed : (fs : Fields) (level : ℕ) (all : List FieldView) → AreFieldsLines floats pool level all fs (fields_lines pool level all fs)
    fields_listed no_fields level all = refl
    fields_listed (field n h fs) level all = (
      _,
      _,
      refl,
      for_option (field_numbered n all) (λ (f : FieldView). AreHoldingLines floats pool level f h) (λ (f : FieldView). holding_lines pool level f h)
          (λ f. holding_listed h level f),
      fields_listed fs level all,
    )

    message_listed : (b : Message) (level m : ℕ) → AreMessageLines floats pool level m b (message_lines pool level m b)
    message_listed (body fs us) level m = (_, refl, fields_listed fs level (message_fields pool m))

-- what went out of the listing
module _ {D : Type 0} (written : D → Option (List ℕ)) (failures : D → ℕ) (old new : D) (m : Dynamic) where
  pub listing_went :
      (r : Result Unit DeviceFault)
      → MatchResult r (λ _. SentSome written failures old new (IsListing Bits m)) (λ _. CutSome written failures old new (IsListing Bits m))
      → MatchResult r (λ _. Sent written failures old new (listing m)) (λ _. Cut written failures old new (listing m))
  listing_went (Ok u) (s, is, sent) = subst (Sent written failures old new) (message_exact m.pool m.body 0 m.kind s is) sent
  listing_went (Err e) (s, is, cut) = subst (Cut written failures old new) (message_exact m.pool m.body 0 m.kind s is) cut
