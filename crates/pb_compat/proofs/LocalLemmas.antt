-- What a field of the new type holds of the canonical records of a message: it reads those of the old field of its number, whatever the others are.
use Rattle.std.proofs.Common.{◌≡◌, ◌≢◌, ℕ, List, [], ◌∷◌, ◌++◌, Bool, true, false, not, cond, ◌&&◌, ◌||◌, Option, Some, None, refl, sym, ◌∙◌, ap, subst, append-nil, inl, inr}
use Rattle.std.specs.Prelude.{filter, ◌⊎◌, ◌==◌}
use Rattle.std.specs.List.{AllByRecursion}
use Rattle.pb_wire.specs.Record.{Record, wire_type}
use Rattle.pb_schema.specs.declared.types.Shape.{Shape}
use Rattle.pb_schema.specs.declared.types.Shape.TheVariants as shape
use Rattle.pb_schema.specs.Types.{FieldView, Types, message_fields, field_numbered}
use Rattle.pb_schema.specs.Fits.{fits, fits_any, fits_shape}
use Rattle.pb_schema.specs.Oneofs.{is_member, members}
use Rattle.pb_schema.specs.Closed.{closed_of, is_undeclared, counts, known, settled}
use Rattle.pb_schema.specs.Rules.{IsPool}
use Rattle.pb_value.specs.Data.{Holding, Fields, no_fields, field, Message, get_field}
use Rattle.pb_value.specs.Value.{last_run, counting_as, counting, held, fields_held}
use Rattle.pb_value.specs.Canon.{canon_holding, canon_fields, by_field}
use Rattle.pb_value.specs.Oneof.{is_member_at}
use Rattle.pb_value.specs.WellFormed.{AreFields, RisesFrom, HasOneMemberEach}
use Rattle.pb_value.proofs.BodyBack.{numbers_differ}
use Rattle.pb_value.proofs.FieldBack.{AllNumbered, holding_numbered}
use Rattle.pb_value.proofs.FieldExtent.{get_field-first, get_field-later, equal_or_not}
use Rattle.pb_value.proofs.KnownLemmas.{known-append}
use Rattle.pb_value.proofs.ListLemmas.{all_filter, all_weaker}
use Rattle.pb_value.proofs.Lists.{AllPass, NonePasses, last_run-all, last_run-none}
use Rattle.pb_value.proofs.Numbers.{self_equal, not_equal, differ_by, found_number}
use Rattle.pb_value.proofs.StepLemmas.{held_at, get_field-fields_held, fits_members, fits_not}
use Rattle.pb_compat.specs.Oneofs.{is_crowded}
use Rattle.pb_compat.specs.Fields.{is_in_crowd}
use Rattle.pb_compat.specs.Agrees.{fields_only}
use Rattle.pb_compat.proofs.CrowdLemmas.{at_most_one_set}
use Rattle.pb_compat.proofs.OnlyLemmas.{EachField, each_all, each_only, each_weaker, single, get_only, only_number, only_one, records_by, filter_only, all_records}
use Rattle.pb_compat.proofs.ReadingLemmas.{AreAt, at_settled, counted, fits_own}

-- RECORDS OF A NUMBER THAT THE NEW TYPE LACKS

-- a record of such a number fits no field
pub fits_nothing : (k : ℕ) (r : Record) (gs : List FieldView) → r.number ≡ k → field_numbered k gs ≡ None → fits_any gs r ≡ false
fits_nothing k r [] e none = refl
fits_nothing k r (g ∷ gs) e none = by (g.number == k) refl none (fits_nothing k r gs e)
  where
    by : (b : Bool) → (g.number == k) ≡ b → cond b (Some g) (field_numbered k gs) ≡ None → (field_numbered k gs ≡ None → fits_any gs r ≡ false) → (fits g r || fits_any gs r) ≡ false
    by true q none later = absurd (cc)
    by false q none later =
        ap (λ (b : Bool). (b && fits_shape g.shape g.kind (wire_type r.payload)) || fits_any gs r) (not_equal r.number g.number (λ z. differ_by g.number k q (sym z ∙ e))) ∙ later none

pub counts_not : (new : Types) (gs : List FieldView) (k : ℕ) (r : Record) → field_numbered k gs ≡ None → r.number ≡ k → counts new gs r ≡ false
counts_not new gs k r none e = ap (λ (b : Bool). b && not (is_undeclared new (closed_of (field_numbered r.number gs)) r.payload)) (fits_nothing k r gs e none)

-- FIELDS THAT ARE NOT SET

-- no field that is set has the number of one that is not
unset_differs : (k : ℕ) (fs : Fields) → get_field k fs ≡ None → EachField (λ j h. (j == k) ≡ false) fs
unset_differs k no_fields e = tt
unset_differs k (field j h fs) e = by (equal_or_not k j) (unset_differs k fs)
  where
    clash : {x : Holding} {o : Option Holding} → o ≡ Some x → o ≡ None → ⊥
    clash p q = cc

    by : (k ≡ j) ⊎ (k ≢ j) → (get_field k fs ≡ None → EachField (λ i x. (i == k) ≡ false) fs) → EachField (λ i x. (i == k) ≡ false) (field j h fs)
    by (inl z) later = absurd (clash (ap (λ (i : ℕ). get_field i (field j h fs)) z ∙ get_field-first j h fs) e)
    by (inr d) later = (not_equal j k (λ z. d (sym z)), later (sym (get_field-later k j h fs d) ∙ e))

-- the records of a content have its number
pub content_numbered : (pool : Types) (all : List FieldView) (k : ℕ) (h : Holding) → AreAt k (by_field (field_numbered k all) (λ f. canon_holding pool f h))
unfolding AllNumbered
content_numbered pool all k h = by (field_numbered k all) refl
  where
    by : (o : Option FieldView) → field_numbered k all ≡ o → AreAt k (by_field o (λ f. canon_holding pool f h))
    by None e = tt
    by (Some f) e = subst (λ (i : ℕ). AreAt i (canon_holding pool f h)) (found_number k all f e) (holding_numbered pool f h)

module _ (old new : Types) (rules : IsPool new) (all : List FieldView) (n : ℕ) where
  abbrev gs : List FieldView
  gs = message_fields new n

  abbrev content_records : ℕ → Holding → List Record
  content_records k h = by_field (field_numbered k all) (λ f. canon_holding old f h)

  -- the records of a content that count
  abbrev pub known_at : ℕ → Holding → List Record
  known_at k h = known new gs (content_records k h)

  abbrev IsOwn : ℕ → Record → Type 0
  IsOwn k r = (r.number ≡ k) × (counts new gs r ≡ true)

  all_own : (k : ℕ) (h : Holding) → AllByRecursion (IsOwn k) (known_at k h)
  all_own k h = all_filter (λ r. r.number ≡ k) (counts new gs) (settled gs (content_records k h)) (at_settled gs k (content_records k h) (content_numbered old all k h))

  known_records : (fs : Fields) → known new gs (canon_fields old all fs) ≡ records_by known_at fs
  known_records no_fields = refl
  known_records (field k h fs) = known-append new gs (content_records k h) (canon_fields old all fs) ∙ ap (λ (l : List Record). known_at k h ++ l) (known_records fs)

  module _ (k : ℕ) (g : FieldView) (found : field_numbered k gs ≡ Some g) where
    own_fits : (r : Record) → IsOwn k r → fits g r ≡ true
    own_fits r own = fits_own new rules n k g found r (counted new rules n k g found r own.0 own.1)

    fits_one : (j : ℕ) (r : Record) → IsOwn j r → fits g r ≡ (j == k)
    fits_one j r own = by (equal_or_not j k)
      where
        by : (j ≡ k) ⊎ (j ≢ k) → fits g r ≡ (j == k)
        by (inl e) = own_fits r (own.0 ∙ e, own.1) ∙ sym (ap (λ (i : ℕ). i == k) e ∙ self_equal k)
        by (inr d) = fits_not g r (λ z. d (sym own.0 ∙ z ∙ found_number k gs g found)) ∙ sym (not_equal j k d)

    fits_at : (j : ℕ) (h : Holding) → AllByRecursion (λ (r : Record). fits g r ≡ (j == k)) (known_at j h)
    fits_at j h = all_weaker (IsOwn j) (λ r. fits g r ≡ (j == k)) (fits_one j) (known_at j h) (all_own j h)

    all_fit : (h : Holding) → AllPass (fits g) (known_at k h)
    all_fit h = all_weaker (IsOwn k) (λ r. fits g r ≡ true) own_fits (known_at k h) (all_own k h)

    -- of the records that count those that fit are those of its own number
    fitting_known : (fs : Fields) → RisesFrom 0 fs → filter (fits g) (records_by known_at fs) ≡ records_by known_at (single k (get_field k fs))
    fitting_known fs rises =
        filter_only known_at (fits g) (λ j. j == k) fs (each_all (λ j h. AllByRecursion (λ (r : Record). fits g r ≡ (j == k)) (known_at j h)) fits_at fs)
        ∙ ap (records_by known_at) (only_number k 0 fs rises)

    -- none does where the message does not set the field
    nothing_fits : (fs : Fields) → EachField (λ j h. (j == k) ≡ false) fs → NonePasses (fits g) (records_by known_at fs)
    nothing_fits fs differ =
        all_records known_at (λ r. fits g r ≡ false) fs
        (each_weaker (λ j h. (j == k) ≡ false) (λ j h. NonePasses (fits g) (known_at j h))
        (λ j h d. all_weaker (λ r. fits g r ≡ (j == k)) (λ r. fits g r ≡ false) (λ r e. e ∙ d) (known_at j h) (fits_at j h)) fs differ)

    -- ONEOFS

    fits_member : (o j : ℕ) (r : Record) → IsOwn j r → fits_any (members o gs) r ≡ is_member_at o (field_numbered j gs)
    fits_member o j r own = by (field_numbered j gs) refl
      where
        clash : {b : Bool} → b ≡ true → b ≡ false → ⊥
        clash p q = cc

        by : (x : Option FieldView) → field_numbered j gs ≡ x → fits_any (members o gs) r ≡ is_member_at o x
        by None e = absurd (clash own.1 (counts_not new gs j r e own.0))
        by (Some x) e =
            fits_members o x r gs (numbers_differ new n rules) (ap (λ (i : ℕ). field_numbered i gs) (found_number j gs x e) ∙ e)
            (fits_own new rules n j x e r (counted new rules n j x e r own.0 own.1))

    abbrev in_oneof : ℕ → ℕ → Bool
    in_oneof o j = is_member_at o (field_numbered j gs)

    members_known : (o : ℕ) (fs : Fields) → filter (fits_any (members o gs)) (records_by known_at fs) ≡ records_by known_at (fields_only (in_oneof o) fs)
    members_known o fs =
        filter_only known_at (fits_any (members o gs)) (in_oneof o) fs
        (each_all (λ j h. AllByRecursion (λ (r : Record). fits_any (members o gs) r ≡ in_oneof o j) (known_at j h))
        (λ j h. all_weaker (IsOwn j) (λ r. fits_any (members o gs) r ≡ in_oneof o j) (fits_member o j) (known_at j h) (all_own j h)) fs)

    -- of one field alone
    alone_run : (j : ℕ) (h : Holding) → last_run (fits g) (records_by known_at (field j h no_fields)) ≡ records_by known_at (single k (get_field k (field j h no_fields)))
    alone_run j h = ap (last_run (fits g)) (append-nil (known_at j h)) ∙ by (equal_or_not k j)
      where
        by : (k ≡ j) ⊎ (k ≢ j) → last_run (fits g) (known_at j h) ≡ records_by known_at (single k (get_field k (field j h no_fields)))
        by (inl e) =
            let here : get_field k (field j h no_fields) ≡ Some h = ap (λ (i : ℕ). get_field i (field j h no_fields)) e ∙ get_field-first j h no_fields in
            last_run-all (fits g) (known_at j h) (subst (λ (i : ℕ). AllPass (fits g) (known_at i h)) e (all_fit h))
            ∙ sym (ap (λ (o : Option Holding). records_by known_at (single k o)) here ∙ append-nil (known_at k h) ∙ ap (λ (i : ℕ). known_at i h) e)
        by (inr d) =
            last_run-none (fits g) (known_at j h) (all_weaker (λ r. fits g r ≡ (j == k)) (λ r. fits g r ≡ false) (λ r e. e ∙ not_equal j k (λ z. d (sym z))) (known_at j h) (fits_at j h))
            ∙ sym (ap (λ (o : Option Holding). records_by known_at (single k o)) (get_field-later k j h no_fields d))

    -- the member that is set, if one is
    member_run : (o : ℕ) (fs : Fields) → is_member o g.shape ≡ true → is_crowded all gs o ≡ false → RisesFrom 0 fs → AreFields old all fs → HasOneMemberEach all fs
        → last_run (fits g) (records_by known_at (fields_only (in_oneof o) fs)) ≡ records_by known_at (single k (get_field k fs))
    member_run o fs own calm rises w alone =
        by (fields_only (in_oneof o) fs) (only_one (in_oneof o) fs (at_most_one_set old all gs o calm 0 fs rises w alone))
        ∙ ap (λ (x : Option Holding). records_by known_at (single k x)) (get_only (in_oneof o) k fs (ap (is_member_at o) found ∙ own))
      where
        by : (ms : Fields) → (ms ≡ no_fields) ⊎ ((j : ℕ) × (h : Holding) × (ms ≡ field j h no_fields)) → last_run (fits g) (records_by known_at ms) ≡ records_by known_at (single k (get_field k ms))
        by ms (inl e) = subst (λ (x : Fields). last_run (fits g) (records_by known_at x) ≡ records_by known_at (single k (get_field k x))) (sym e) refl
        by ms (inr (j, h, e)) =
            subst (λ (x : Fields). last_run (fits g) (records_by known_at x) ≡ records_by known_at (single k (get_field k x))) (sym e) (alone_run j h)

    -- where the field is set, its oneof is not crowded
    abbrev pub IsCalm : Shape → Fields → Type 0
    IsCalm s fs = (h : Holding) → get_field k fs ≡ Some h → is_in_crowd (is_crowded all gs) s ≡ false

    counting_known : (inner : ℕ → List Record → Message) (s : Shape) (fs : Fields) → g.shape ≡ s → IsCalm s fs → RisesFrom 0 fs → AreFields old all fs → HasOneMemberEach all fs
        → counting_as inner s gs g (records_by known_at fs) ≡ records_by known_at (single k (get_field k fs))
    counting_known inner (shape.OneofMember o) fs e calm rises w alone = ap (last_run (fits g)) (members_known o fs) ∙ by (get_field k fs) refl
      where
        by : (x : Option Holding) → get_field k fs ≡ x → last_run (fits g) (records_by known_at (fields_only (in_oneof o) fs)) ≡ records_by known_at (single k (get_field k fs))
        by (Some h) q = member_run o fs (ap (is_member o) e ∙ self_equal o) (calm h q) rises w alone
        by None q =
            last_run-none (fits g) (records_by known_at (fields_only (in_oneof o) fs))
            (nothing_fits (fields_only (in_oneof o) fs) (each_only (λ j h. (j == k) ≡ false) (in_oneof o) fs (unset_differs k fs q)))
            ∙ sym (ap (λ (x : Option Holding). records_by known_at (single k x)) q)
    counting_known inner shape.Implicit fs e calm rises w alone = fitting_known fs rises
    counting_known inner shape.Explicit fs e calm rises w alone = fitting_known fs rises
    counting_known inner (shape.List q) fs e calm rises w alone = fitting_known fs rises
    counting_known inner (shape.Map key) fs e calm rises w alone = fitting_known fs rises

    -- what the field holds is what it reads of the content of its number
    pub held_locally : (inner : ℕ → List Record → Message) (fs : Fields) → IsCalm g.shape fs → RisesFrom 0 fs → AreFields old all fs → HasOneMemberEach all fs
        → get_field k (fields_held inner gs gs (known new gs (canon_fields old all fs))) ≡ held inner g (records_by known_at (single k (get_field k fs)))
    held_locally inner fs calm rises w alone =
        get_field-fields_held inner gs gs (known new gs (canon_fields old all fs)) k (numbers_differ new n rules) ∙ ap (held_at inner gs (known new gs (canon_fields old all fs))) found
        ∙ ap (λ (l : List Record). held inner g (counting inner gs g l)) (known_records fs)
        ∙ ap (held inner g) (counting_known inner g.shape fs refl calm rises w alone)
