-- What differences that do not break say of messages: records that are passed on, and values that are kept.
use Rattle.std.proofs.Common.{◌≡◌, ◌≢◌, ◌≤◌, ◌↔◌, ℕ, pos, negsuc, List, [], ◌∷◌, ◌++◌, Bool, true, false, not, Option, Some, None, refl, sym, ◌∙◌, ap, subst, arith, inl, inr, ⊎_elim, Contains}
use Rattle.std.specs.Prelude.{filter, cond, ◌⊎◌, ◌&&◌, ◌||◌, ◌==◌, option_map, option_and_then, if◌then◌else◌}
use Rattle.std.specs.Option.{option_to_list}
use Rattle.std.specs.Str.{bytes_eq}
use Rattle.std.proofs.lemmas.List.Elements.{filter-append}
use Rattle.pb_graphs.proofs.ContainsLemmas.{Contains-none, Contains-one, Contains-cases}
use Rattle.pb_wire.specs.Record.{Record}
use Rattle.pb_schema.specs.declared.types.Kind.{Kind}
use Rattle.pb_schema.specs.declared.types.Kind.TheVariants as kind
use Rattle.pb_schema.specs.declared.types.Shape.{Shape}
use Rattle.pb_schema.specs.declared.types.Shape.TheVariants as shape
use Rattle.pb_schema.specs.Closed.{counts, cut_at, known, settled, unknown}
use Rattle.pb_schema.specs.Kinds.{message_of_kind, default_of, read, written}
use Rattle.pb_schema.specs.Rules.{IsPool}
use Rattle.pb_schema.specs.Scalar.{Scalar, int32, int64, uint32, uint64, boolean, float, double, enum, text, bytes, is_default}
use Rattle.pb_schema.specs.Types.{FieldView, Types, message_fields, field_numbered}
use Rattle.pb_value.specs.Canon.{canon_fields, canon_holding, by_field}
use Rattle.pb_value.specs.Data.{Datum, scalar, message, Holding, one, list, map as map_of, Fields, no_fields, field, Message, body, fields_of, get_field, levels_of}
use Rattle.pb_value.specs.Judge.Forms.{is_default_datum, is_implicit}
use Rattle.pb_value.specs.Value.{all_elements, last_of, unless_default, fields_held, held_as, value, value_within}
use Rattle.pb_value.specs.WellFormed.{IsDatum, IsHeld, IsOfShape, IsWellFormed, datum_declared}
use Rattle.pb_value.proofs.BodyBack.{numbers_differ}
use Rattle.pb_value.proofs.ElementLemmas.{IsOfKind-default_of}
use Rattle.pb_value.proofs.FieldExtent.{get_field-first, equal_or_not}
use Rattle.pb_value.proofs.KnownLemmas.{unknown-append}
use Rattle.pb_value.proofs.ListLemmas.{all_filter, all_weaker}
use Rattle.pb_value.proofs.Lists.{filter_none}
use Rattle.pb_value.proofs.Numbers.{not_equal}
use Rattle.pb_value.proofs.Options.{some_of}
use Rattle.pb_value.proofs.ShapeSteps.{one_value-scalar}
use Rattle.pb_value.proofs.StepLemmas.{held_at, get_field-fields_held}
use Rattle.pb_value.proofs.WrittenLemmas.{no_message_of}
use Rattle.pb_compat.specs.declared.difference.Difference.{Difference}
use Rattle.pb_compat.specs.declared.difference.Severity.{Severity}
use Rattle.pb_compat.specs.declared.difference.Severity.TheVariants.{BreaksReading, Loses, ChangesPresence, Converts, Renames}
use Rattle.pb_compat.specs.Agrees.{HasNoUnknown, ValueHasNoUnknown, HoldsSame, IsSameValue}
use Rattle.pb_compat.specs.Effects.{IsReportedAt, numbered, PassesOn, LostArePassedOn, NothingBreaksIn, IsConverted, ConvertedAreKept, default_by, default_datum, DropsDefaults, HoldsNoDefault, TurnsPresence, old_alone, new_alone, IsPresenceChanged, PresenceIsTurned, read_at}
use Rattle.pb_compat.specs.Fields.{keeps_kind, keeps_others, keeps_field, is_in_crowd, change_of_field, severities_at, differences_of, differences_at, changes_presence, presence, is_same_form}
use Rattle.pb_compat.specs.Oneofs.{is_crowded}
use Rattle.pb_compat.specs.Pairs.{leads, message_at, pair_of}
use Rattle.pb_compat.specs.Scalars.{Meaning, integer, single, double_bits, octets, meaning}
use Rattle.pb_compat.specs.Witness.{alone, AreFieldsAt}
use Rattle.pb_compat.proofs.BreaksLemmas.{IsKept, differences_found, kept_field}
use Rattle.pb_compat.proofs.ConvertLemmas.{default_only}
use Rattle.pb_compat.proofs.FieldLemmas.{kept_scalars}
use Rattle.pb_compat.proofs.KeptLemmas.{set_at, is_kept_at, read_held, read_same, read_unset}
use Rattle.pb_compat.proofs.LocalLemmas.{content_numbered, counts_not}
use Rattle.pb_compat.proofs.MessageLemmas.{opened}
use Rattle.pb_compat.proofs.NeverLemmas.{implicit_default}
use Rattle.pb_compat.proofs.ReadingLemmas.{AreAt, at_settled}
use Rattle.pb_compat.proofs.ScalarLemmas.{MeansTo, scalars_kept}
use Rattle.pb_compat.proofs.WitnessLemmas.{alone_parts}

-- WHAT IS REPORTED

abbrev is_renaming : Severity → Bool
is_renaming Renames = true
is_renaming BreaksReading = false
is_renaming Loses = false
is_renaming ChangesPresence = false
is_renaming Converts = false

abbrev at_number : ℕ → Severity → Difference
at_number k s = record { number = k; severity = s }

same_severity : (k : ℕ) (s t : Severity) → at_number k s ≡ at_number k t → s ≡ t
same_severity k s t e = ap (λ (d : Difference). d.severity) e

no_renaming : (s : Severity) → is_renaming s ≡ false → Renames ≡ s → ⊥
no_renaming s plain e = let z : is_renaming Renames ≡ false = subst (λ (t : Severity). is_renaming t ≡ false) (sym e) plain in absurd (cc)

-- of a change and a renaming, the one that is reported
change_reported : (k : ℕ) (o : Option Severity) (b : Bool) (s : Severity) → is_renaming s ≡ false → Contains (differences_of k (option_to_list o ++ (if b then Renames ∷ [] else []))) (at_number k s) → o ≡ Some s
change_reported k None false s plain h = Contains-none (at_number k s) h
change_reported k None true s plain h = absurd (no_renaming s plain (same_severity k Renames s (Contains-one (at_number k Renames) (at_number k s) h)))
change_reported k (Some t) false s plain h = ap (λ (x : Severity). Some x) (same_severity k t s (Contains-one (at_number k t) (at_number k s) h))
change_reported k (Some t) true s plain h =
    ⊎_elim (λ e. ap (λ (x : Severity). Some x) (same_severity k t s e))
    (λ later. absurd (no_renaming s plain (same_severity k Renames s (Contains-one (at_number k Renames) (at_number k s) later))))
    (Contains-cases (at_number k s) (at_number k t) (at_number k Renames ∷ []) h)

-- both types have a field of the number, and this is what the change does
record IsChange (old new : Types) (m n k : ℕ) (s : Severity) : Type 0 where
  pub from : FieldView
  pub to : FieldView
  pub at : AreFieldsAt old new m n k from to
  pub in_crowd : Bool
  pub crowd : is_in_crowd (is_crowded (message_fields old m) (message_fields new n)) to.shape ≡ in_crowd
  pub change : change_of_field old new in_crowd from to ≡ Some s

reported : (old new : Types) (m n k : ℕ) (s : Severity) → is_renaming s ≡ false → IsReportedAt old new m n k s → ((field_numbered k (message_fields new n) ≡ None) × (Loses ≡ s)) ⊎ IsChange old new m n k s
reported old new m n k s plain h = by (field_numbered k (message_fields old m)) refl (field_numbered k (message_fields new n)) refl
  where
    crowds : ℕ → Bool
    crowds = is_crowded (message_fields old m) (message_fields new n)

    by : (o : Option FieldView) → field_numbered k (message_fields old m) ≡ o → (p : Option FieldView) → field_numbered k (message_fields new n) ≡ p
        → ((field_numbered k (message_fields new n) ≡ None) × (Loses ≡ s)) ⊎ IsChange old new m n k s
    by None e p q =
        let nothing : differences_at old new m n k ≡ [] = ap (λ (o : Option FieldView). differences_of k (severities_at old new crowds o (field_numbered k (message_fields new n)))) e in
        Contains-none (at_number k s) (subst (λ (l : List Difference). Contains l (at_number k s)) nothing h)
    by (Some f) e None q =
        let lost : differences_at old new m n k ≡ at_number k Loses ∷ [] =
        ap (λ (o : Option FieldView). differences_of k (severities_at old new crowds o (field_numbered k (message_fields new n)))) e
        ∙ ap (λ (o : Option FieldView). differences_of k (severities_at old new crowds (Some f) o)) q in
        inl (q, same_severity k Loses s (Contains-one (at_number k Loses) (at_number k s) (subst (λ (l : List Difference). Contains l (at_number k s)) lost h)))
    by (Some f) e (Some g) q =
        let c : Bool = is_in_crowd crowds g.shape in
        inr (record {
          from = f;
          to = g;
          at = record { old_field = e; new_field = q };
          in_crowd = c;
          crowd = refl;
          change = change_reported k (change_of_field old new c f g) (not (bytes_eq f.name g.name)) s plain
              (subst (λ (l : List Difference). Contains l (at_number k s)) (differences_found old new m n k f g c e q refl) h);
        })

-- whether a field is kept, whether presence changes, and whether the form is the same
abbrev decided : Bool → Bool → Bool → Option Severity
decided kept changed same = if not kept then Some BreaksReading else (if changed then Some ChangesPresence else (if same then None else Some Converts))

none_lost : (b c d : Bool) → decided b c d ≡ Some Loses → ⊥
none_lost false c d e = absurd (cc)
none_lost true true d e = absurd (cc)
none_lost true false true e = absurd (cc)
none_lost true false false e = absurd (cc)

converts_by : (b c d : Bool) → decided b c d ≡ Some Converts → (b ≡ true) × (d ≡ false)
converts_by false c d e = absurd (cc)
converts_by true true d e = absurd (cc)
converts_by true false true e = absurd (cc)
converts_by true false false e = (refl, refl)

presence_by : (b c d : Bool) → decided b c d ≡ Some ChangesPresence → (b ≡ true) × (c ≡ true)
presence_by false c d e = absurd (cc)
presence_by true true d e = (refl, refl)
presence_by true false true e = absurd (cc)
presence_by true false false e = absurd (cc)

-- RECORDS THAT ARE PASSED ON

module _ (new : Types) (rules : IsPool new) (n k : ℕ) (none : field_numbered k (message_fields new n) ≡ None) where
  abbrev gs : List FieldView
  gs = message_fields new n

  -- records of another number
  others_out : (j : ℕ) (rs : List Record) → j ≢ k → AreAt j rs → numbered k rs ≡ []
  others_out j rs d h = filter_none (λ r. r.number == k) rs (all_weaker (λ r. r.number ≡ j) (λ r. (r.number == k) ≡ false) (λ r e. not_equal r.number k (λ z. d (sym e ∙ z))) rs h)

  one_unknown : (r : Record) → numbered k (unknown new gs (r ∷ [])) ≡ numbered k (r ∷ [])
  one_unknown r = by (equal_or_not r.number k)
    where
      by : (r.number ≡ k) ⊎ (r.number ≢ k) → numbered k (unknown new gs (r ∷ [])) ≡ numbered k (r ∷ [])
      by (inl e) =
          let whole : settled gs (r ∷ []) ≡ r ∷ [] = ap (λ (o : Option FieldView). cut_at o r ++ []) (ap (λ (i : ℕ). field_numbered i gs) e ∙ none) in
          ap (λ (rs : List Record). numbered k (filter (λ x. not (counts new gs x)) rs)) whole
          ∙ ap (λ (b : Bool). numbered k (if not b then r ∷ [] else [])) (counts_not new gs k r none e)
      by (inr d) =
          others_out r.number (unknown new gs (r ∷ [])) d
          (all_weaker (λ x. (x.number ≡ r.number) × (not (counts new gs x) ≡ true)) (λ x. x.number ≡ r.number) (λ x h. h.0) (unknown new gs (r ∷ []))
          (all_filter (λ x. x.number ≡ r.number) (λ x. not (counts new gs x)) (settled gs (r ∷ [])) (at_settled gs r.number (r ∷ []) (refl, tt))))
          ∙ sym (others_out r.number (r ∷ []) d (refl, tt))

  all_unknown : (rs : List Record) → numbered k (unknown new gs rs) ≡ numbered k rs
  all_unknown [] = refl
  all_unknown (r ∷ rs) =
      ap (numbered k) (unknown-append new gs (r ∷ []) rs) ∙ filter-append (λ x. x.number == k) (unknown new gs (r ∷ [])) (unknown new gs rs)
      ∙ ap (λ (l : List Record). l ++ numbered k (unknown new gs rs)) (one_unknown r) ∙ ap (λ (l : List Record). numbered k (r ∷ []) ++ l) (all_unknown rs)
      ∙ sym (filter-append (λ x. x.number == k) (r ∷ []) rs)

  -- no field that is declared has records of the number
  none_written : (fs : Fields) → numbered k (canon_fields new gs fs) ≡ []
  none_written no_fields = refl
  none_written (field j h fs) =
      filter-append (λ x. x.number == k) (by_field (field_numbered j gs) (λ f. canon_holding new f h)) (canon_fields new gs fs)
      ∙ ap (λ (l : List Record). l ++ numbered k (canon_fields new gs fs)) (by (equal_or_not j k)) ∙ none_written fs
    where
      by : (j ≡ k) ⊎ (j ≢ k) → numbered k (by_field (field_numbered j gs) (λ f. canon_holding new f h)) ≡ []
      by (inl e) = ap (λ (o : Option FieldView). numbered k (by_field o (λ f. canon_holding new f h))) (ap (λ (i : ℕ). field_numbered i gs) e ∙ none)
      by (inr d) = others_out j (by_field (field_numbered j gs) (λ f. canon_holding new f h)) d (content_numbered new gs j h)

  passes_on : PassesOn new n k
  unfolding value value_within
  passes_on = record {
    unheld = λ rs.
        get_field-fields_held (value_within new 100) gs gs (known new gs rs) k (numbers_differ new n rules) ∙ ap (held_at (value_within new 100) gs (known new gs rs)) none;
    unknown = all_unknown;
    written = λ rs.
        filter-append (λ x. x.number == k) (canon_fields new gs (fields_held (value_within new 100) gs gs (known new gs rs))) (unknown new gs rs)
        ∙ ap (λ (l : List Record). l ++ numbered k (unknown new gs rs)) (none_written (fields_held (value_within new 100) gs gs (known new gs rs))) ∙ all_unknown rs;
  }

pub lost_are_passed_on : (old new : Types) → IsPool new → LostArePassedOn old new
lost_are_passed_on old new rules m n k h = by (reported old new m n k Loses refl h)
  where
    by : ((field_numbered k (message_fields new n) ≡ None) × (Loses ≡ Loses)) ⊎ IsChange old new m n k Loses → PassesOn new n k
    by (inl lost) = passes_on new rules n k lost.0
    by (inr c) = absurd (none_lost (keeps_field old new c.in_crowd c.from c.to) (changes_presence (presence c.from.shape) (presence c.to.shape)) (is_same_form c.from c.to) c.change)

-- VALUES THAT ARE CONVERTED

kept_by : (old new : Types) (m n k : ℕ) (s : Severity) (c : IsChange old new m n k s) → keeps_field old new c.in_crowd c.from c.to ≡ true → IsKept old new m n c.from c.to
kept_by old new m n k s c e = kept_field old new m n c.from c.to c.in_crowd c.crowd e

pub converted_are_kept : (old new : Types) → IsPool old → IsPool new → ConvertedAreKept old new
converted_are_kept old new rules_old rules_new m n k h = by (reported old new m n k Converts refl h)
  where
    by : ((field_numbered k (message_fields new n) ≡ None) × (Loses ≡ Converts)) ⊎ IsChange old new m n k Converts → IsConverted old new m n k
    by (inl lost) = let e = lost.1 in absurd (cc)
    by (inr c) =
        let both = converts_by (keeps_field old new c.in_crowd c.from c.to) (changes_presence (presence c.from.shape) (presence c.to.shape)) (is_same_form c.from c.to) c.change in
        record {
          old_field = c.from;
          new_field = c.to;
          at = c.at;
          form = both.1;
          kept = is_kept_at old new rules_old rules_new m n k c.from c.to c.at.old_field c.at.new_field (kept_by old new m n k Converts c both.0);
        }

-- DEFAULTS

-- the meaning of a default: 0, no bits or no bytes
abbrev is_zero : Meaning → Bool
is_zero (integer (pos n)) = n == 0
is_zero (integer (negsuc n)) = false
is_zero (single n) = n == 0
is_zero (double_bits n) = n == 0
is_zero (octets []) = true
is_zero (octets (x ∷ xs)) = false

default_means : (x : Scalar) → is_default x ≡ is_zero (meaning x)
default_means (int32 (pos n)) = refl
default_means (int32 (negsuc n)) = refl
default_means (int64 (pos n)) = refl
default_means (int64 (negsuc n)) = refl
default_means (uint32 n) = refl
default_means (uint64 n) = refl
default_means (boolean true) = refl
default_means (boolean false) = refl
default_means (float n) = refl
default_means (double n) = refl
default_means (enum (pos n)) = refl
default_means (enum (negsuc n)) = refl
default_means (text []) = refl
default_means (text (x ∷ xs)) = refl
default_means (bytes []) = refl
default_means (bytes (x ∷ xs)) = refl

pub same_default : (x y : Scalar) → meaning x ≡ meaning y → is_default x ≡ is_default y
same_default x y e = default_means x ∙ ap is_zero e ∙ sym (default_means y)

default_is : (k : Kind) → is_default (default_of k) ≡ true
default_is kind.Double = refl
default_is kind.Float = refl
default_is kind.Int64 = refl
default_is kind.Uint64 = refl
default_is kind.Int32 = refl
default_is kind.Fixed64 = refl
default_is kind.Fixed32 = refl
default_is kind.Bool = refl
default_is kind.Text = refl
default_is kind.Bytes = refl
default_is kind.Uint32 = refl
default_is kind.Sfixed32 = refl
default_is kind.Sfixed64 = refl
default_is kind.Sint32 = refl
default_is kind.Sint64 = refl
default_is (kind.Enum e) = refl
default_is (kind.ClosedEnum e) = refl
default_is (kind.Message m) = refl
default_is (kind.Group m) = refl

implicit_of : (s : Shape) → presence s ≡ Some false → s ≡ shape.Implicit
implicit_of shape.Implicit e = refl
implicit_of shape.Explicit e = absurd (cc)
implicit_of (shape.OneofMember o) e = absurd (cc)
implicit_of (shape.List p) e = absurd (cc)
implicit_of (shape.Map key) e = absurd (cc)

single_shaped : (s : Shape) → presence s ≡ Some true → (d : Datum) → IsOfShape s (one d) × (is_implicit s ≡ false)
single_shaped shape.Implicit e d = absurd (cc)
single_shaped shape.Explicit e d = (tt, refl)
single_shaped (shape.OneofMember o) e d = (tt, refl)
single_shaped (shape.List p) e d = absurd (cc)
single_shaped (shape.Map key) e d = absurd (cc)

-- with implicit presence a field of scalars holds nothing, or one that is no default
implicit_held : (inner : ℕ → List Record → Message) (b : Kind) (rs : List Record) → message_of_kind b ≡ None
    → (held_as inner shape.Implicit b rs ≡ None) ⊎ ((y : Scalar) × (held_as inner shape.Implicit b rs ≡ Some (one (scalar y))) × (is_default y ≡ false))
implicit_held inner b rs plain = by (last_of (all_elements b rs)) refl
  where
    same : held_as inner shape.Implicit b rs ≡ option_and_then unless_default (option_map scalar (last_of (all_elements b rs)))
    same = ap (option_and_then unless_default) (one_value-scalar inner b rs plain)

    by : (o : Option Scalar) → last_of (all_elements b rs) ≡ o
        → (held_as inner shape.Implicit b rs ≡ None) ⊎ ((y : Scalar) × (held_as inner shape.Implicit b rs ≡ Some (one (scalar y))) × (is_default y ≡ false))
    by None e = inl (same ∙ ap (λ (o : Option Scalar). option_and_then unless_default (option_map scalar o)) e)
    by (Some y) e = by_default (is_default y) refl
      where
        there : held_as inner shape.Implicit b rs ≡ cond (is_default y) None (Some (one (scalar y)))
        there = same ∙ ap (λ (o : Option Scalar). option_and_then unless_default (option_map scalar o)) e

        by_default : (t : Bool) → is_default y ≡ t
            → (held_as inner shape.Implicit b rs ≡ None) ⊎ ((x : Scalar) × (held_as inner shape.Implicit b rs ≡ Some (one (scalar x))) × (is_default x ≡ false))
        by_default true q = inl (there ∙ ap (λ (t : Bool). cond t None (Some (one (scalar y)))) q)
        by_default false q = inr (y, there ∙ ap (λ (t : Bool). cond t None (Some (one (scalar y)))) q, q)

-- PRESENCE

module _ (old new : Types) (rules_old : IsPool old) (rules_new : IsPool new) (m n k : ℕ) (f g : FieldView) (found_f : field_numbered k (message_fields old m) ≡ Some f) (found_g : field_numbered k (message_fields new n) ≡ Some g)
    (kept : IsKept old new m n f g) where
  -- one of the fields holds no messages, so they lead nowhere
  no_pair : (message_of_kind f.kind ≡ None) ⊎ (message_of_kind g.kind ≡ None) → NothingBreaksIn old new m n k
  no_pair plain p to = absurd (clash (nowhere plain) to)
    where
      clash : {o : Option (ℕ × ℕ)} → o ≡ None → o ≡ Some p → ⊥
      clash e q = cc

      second : (o : Option ℕ) → pair_of o None ≡ None
      second None = refl
      second (Some i) = refl

      nowhere : (message_of_kind f.kind ≡ None) ⊎ (message_of_kind g.kind ≡ None) → leads old new (m, n) k ≡ None
      nowhere (inl e) = ap (λ (o : Option ℕ). pair_of o (message_at new n k)) (ap (option_and_then (λ (x : FieldView). message_of_kind x.kind)) found_f ∙ e)
      nowhere (inr e) = ap (pair_of (message_at old m k)) (ap (option_and_then (λ (x : FieldView). message_of_kind x.kind)) found_g ∙ e) ∙ second (message_at old m k)

  -- THE OLD FIELD ALONE RECORDS WHETHER IT IS SET

  module _ (set : presence f.shape ≡ Some true) (unset : presence g.shape ≡ Some false) where
    implicit : g.shape ≡ shape.Implicit
    implicit = implicit_of g.shape unset

    plain : message_of_kind g.kind ≡ None
    plain = (implicit_default new n k g rules_new found_g (ap is_implicit implicit)).plain

    below : NothingBreaksIn old new m n k
    below = no_pair (inr plain)

    abbrev at : Message → Option Holding
    at v = read_at old new m n k v

    reads : (v : Message) (d : Datum) → IsWellFormed old m v → HasNoUnknown v → get_field k (fields_of v) ≡ Some (one d) → (at v ≡ None) ⊎ ((y : Scalar) × (at v ≡ Some (one (scalar y))) × (is_default y ≡ false))
    reads v d w none e =
        let rs : List Record = canon_holding old (opened f g) (one d) in
        subst (λ (o : Option Holding). (o ≡ None) ⊎ ((y : Scalar) × (o ≡ Some (one (scalar y))) × (is_default y ≡ false)))
        (sym (read_held old new rules_old rules_new m n k f g found_f found_g kept below v (one d) w none e ∙ ap (λ (s : Shape). held_as (value_within new 100) s g.kind rs) implicit))
        (implicit_held (value_within new 100) g.kind rs plain)

    -- what means the default, and another value
    default_twice : (d : Datum) (y : Scalar) → IsSameValue old new f.kind g.kind d (scalar y) → IsSameValue old new f.kind g.kind d (scalar (default_of g.kind)) → is_default y ≡ true
    default_twice (scalar x) y first second = same_default y (default_of g.kind) (first ∙ sym second) ∙ default_is g.kind
    default_twice (message v) y first second = ap is_default (first ∙ sym second) ∙ default_is g.kind

    exact : (v : Message) (d : Datum) → IsWellFormed old m v → HasNoUnknown v → get_field k (fields_of v) ≡ Some (one d) → (at v ≡ None) ↔ IsSameValue old new f.kind g.kind d (scalar (default_of g.kind))
    exact v d w none e = (λ unheld. (subst (HoldsSame old new f.kind g.kind g.shape (one d)) unheld same).1, λ default. by default (reads v d w none e))
      where
        same : HoldsSame old new f.kind g.kind g.shape (one d) (at v)
        same = read_same old new rules_old rules_new m n k f g found_f found_g kept below v (one d) w none e

        by : IsSameValue old new f.kind g.kind d (scalar (default_of g.kind)) → (at v ≡ None) ⊎ ((y : Scalar) × (at v ≡ Some (one (scalar y))) × (is_default y ≡ false)) → at v ≡ None
        by default (inl unheld) = unheld
        by default (inr (y, is, other)) =
            let yes = default_twice d y (subst (HoldsSame old new f.kind g.kind g.shape (one d)) is same) default in
            absurd (false_true (sym other ∙ yes))
          where
            false_true : false ≡ true → ⊥
            false_true z = cc

    keeps : keeps_kind old new f.kind g.kind ≡ true
    keeps = by (keeps_kind old new f.kind g.kind) (is_implicit f.shape) (keeps_others new f.kind g.kind) (single_shaped f.shape set (message (body no_fields []))).1 kept.kind
      where
        by : (a i o : Bool) → i ≡ false → (a || (i && o)) ≡ true → a ≡ true
        by true i o e h = refl
        by false true o e h = absurd (cc)
        by false false o e h = absurd (cc)

    default_same : datum_declared old f.kind (default_datum f.kind) ≡ true → IsSameValue old new f.kind g.kind (default_datum f.kind) (scalar (default_of g.kind))
    default_same declared = by (message_of_kind f.kind) refl declared
      where
        as_bytes : (a b : Kind) (i : ℕ) → message_of_kind a ≡ Some i → message_of_kind b ≡ None → keeps_kind old new a b ≡ true → IsSameValue old new a b (message (body no_fields [])) (scalar (default_of b))
        as_bytes (kind.Message j) kind.Bytes i is none k = refl
        as_bytes (kind.Message j) (kind.Message l) i is none k = absurd (cc)
        as_bytes (kind.Message j) b i is none k = absurd (cc)
        as_bytes (kind.Group j) (kind.Group l) i is none k = absurd (cc)
        as_bytes (kind.Group j) b i is none k = absurd (cc)
        as_bytes a b i is none k = absurd (cc)

        by : (o : Option ℕ) → message_of_kind f.kind ≡ o → datum_declared old f.kind (default_by f.kind o) ≡ true → IsSameValue old new f.kind g.kind (default_by f.kind o) (scalar (default_of g.kind))
        by None is declared_too =
            let x = default_of f.kind in
            let r = some_of (read g.kind (written f.kind x)) (MeansTo new g.kind (meaning x)) (scalars_kept new old f.kind g.kind (kept_scalars old new f.kind g.kind is keeps) x (IsOfKind-default_of f.kind is) declared_too) in
            ap meaning (sym (default_only g.kind r.0 r.2.0 (same_default r.0 x r.2.2 ∙ default_is f.kind))) ∙ r.2.2
        by (Some i) is declared_too = as_bytes f.kind g.kind i is plain keeps

    default_is_datum : IsDatum old f.kind (default_datum f.kind)
    default_is_datum = by (message_of_kind f.kind) refl
      where
        empty_body : (a : Kind) (i : ℕ) → message_of_kind a ≡ Some i → IsDatum old a (message (body no_fields []))
        empty_body (kind.Message j) i is = (tt, tt, tt, tt)
        empty_body (kind.Group j) i is = (tt, tt, tt, tt)
        empty_body a i is = absurd (cc)

        by : (o : Option ℕ) → message_of_kind f.kind ≡ o → IsDatum old f.kind (default_by f.kind o)
        by None is = IsOfKind-default_of f.kind is
        by (Some i) is = empty_body f.kind i is

    default_plain : (o : Option ℕ) → ValueHasNoUnknown (default_by f.kind o) × (levels_of (default_by f.kind o) ≤ 1)
    default_plain None = (tt, omega arith)
    default_plain (Some i) = ((refl, tt), omega arith)

    drops : DropsDefaults old new m n k f g
    drops = record {
      exact = exact;
      some = λ declared.
          let plain_one = default_plain (message_of_kind f.kind) in
          let shallow = plain_one.1 in
          let well : IsWellFormed old m (alone k (one (default_datum f.kind))) = record {
            parts = alone_parts old m k f found_f (one (default_datum f.kind)) (single_shaped f.shape set (default_datum f.kind)).0 default_is_datum declared;
            depth = omega (arith, shallow);
          } in (
            well,
            (exact (alone k (one (default_datum f.kind))) (default_datum f.kind) well (refl, (plain_one.0, tt)) (get_field-first k (one (default_datum f.kind)) no_fields)).1 (default_same declared),
          );
    }

  -- THE NEW FIELD ALONE RECORDS WHETHER IT IS SET

  module _ (unset : presence f.shape ≡ Some false) where
    implicit_old : f.shape ≡ shape.Implicit
    implicit_old = implicit_of f.shape unset

    plain_old : message_of_kind f.kind ≡ None
    plain_old = (implicit_default old m k f rules_old found_f (ap is_implicit implicit_old)).plain

    below_old : NothingBreaksIn old new m n k
    below_old = no_pair (inl plain_old)

    no_default : (h : Holding) (d : Datum) → IsOfShape shape.Implicit h → IsHeld old shape.Implicit f.kind h → HoldsSame old new f.kind g.kind g.shape h (Some (one d)) → is_default_datum d ≡ false
    no_default (one (scalar x)) (scalar y) shaped w same = same_default y x same ∙ shaped
    no_default (one (scalar x)) (message v) shaped w same = absurd same
    no_default (one (message v)) d shaped w same = absurd (no_message_of old f.kind v plain_old w)
    no_default (list ds) d shaped w same = absurd shaped
    no_default (map_of es) d shaped w same = absurd shaped

    holds_no_default : HoldsNoDefault old new m n k
    holds_no_default (body fs us) d w none is = by (get_field k fs) refl
      where
        clash : {x : Holding} {o : Option Holding} → o ≡ Some x → o ≡ None → ⊥
        clash p q = cc

        by : (o : Option Holding) → get_field k fs ≡ o → is_default_datum d ≡ false
        by None e = absurd (clash is (read_unset old new rules_old rules_new m n k f g found_f found_g kept below_old (body fs us) w none e))
        by (Some h) e =
            let at_set = set_at old m k f fs us h found_f w none e in
            no_default h d (subst (λ (s : Shape). IsOfShape s h) implicit_old at_set.shaped) (subst (λ (s : Shape). IsHeld old s f.kind h) implicit_old at_set.held)
            (subst (HoldsSame old new f.kind g.kind g.shape h) is (read_same old new rules_old rules_new m n k f g found_f found_g kept below_old (body fs us) h w none e))

  pub presence_changed : changes_presence (presence f.shape) (presence g.shape) ≡ true → IsPresenceChanged old new m n k
  presence_changed changes = by (presence f.shape) refl (presence g.shape) refl changes
    where
      made : NothingBreaksIn old new m n k → TurnsPresence old new m n k f g → IsPresenceChanged old new m n k
      made below turned = record {
        old_field = f;
        new_field = g;
        at = record { old_field = found_f; new_field = found_g };
        kept = is_kept_at old new rules_old rules_new m n k f g found_f found_g kept below;
        turned = turned;
      }

      by : (a : Option Bool) → presence f.shape ≡ a → (b : Option Bool) → presence g.shape ≡ b → changes_presence a b ≡ true → IsPresenceChanged old new m n k
      by (Some true) e (Some false) q h = made (below e q) (old_alone e q (drops e q))
      by (Some false) e (Some true) q h = made (below_old e) (new_alone e q (holds_no_default e))
      by (Some true) e (Some true) q h = absurd (cc)
      by (Some false) e (Some false) q h = absurd (cc)
      by (Some true) e None q h = absurd (cc)
      by (Some false) e None q h = absurd (cc)
      by None e b q h = absurd (cc)

pub presence_is_turned : (old new : Types) → IsPool old → IsPool new → PresenceIsTurned old new
presence_is_turned old new rules_old rules_new m n k h = by (reported old new m n k ChangesPresence refl h)
  where
    by : ((field_numbered k (message_fields new n) ≡ None) × (Loses ≡ ChangesPresence)) ⊎ IsChange old new m n k ChangesPresence → IsPresenceChanged old new m n k
    by (inl lost) = let e = lost.1 in absurd (cc)
    by (inr c) =
        let both = presence_by (keeps_field old new c.in_crowd c.from c.to) (changes_presence (presence c.from.shape) (presence c.to.shape)) (is_same_form c.from c.to) c.change in
        presence_changed old new rules_old rules_new m n k c.from c.to c.at.old_field c.at.new_field (kept_by old new m n k ChangesPresence c both.0) both.1
