-- What the new type reads of the canonical records of a message, one level: each field from the records of the old field of its number.
use Rattle.std.proofs.Common.{◌≡◌, ℕ, List, [], ◌∷◌, ◌++◌, Bool, true, false, not, cond, ◌&&◌, ◌||◌, Option, Some, None, refl, sym, ◌∙◌, ap, subst, append-nil}
use Rattle.std.specs.Prelude.{filter, ◌==◌, IfSome, is_some}
use Rattle.std.specs.List.{AllByRecursion}
use Rattle.pb_wire.specs.Record.{Payload, varint, Record, wire_type}
use Rattle.pb_schema.specs.Types.{FieldView, Types, message_fields, field_numbered}
use Rattle.pb_schema.specs.Rules.{IsPool}
use Rattle.pb_schema.specs.Fits.{fits, fits_any, fits_shape}
use Rattle.pb_schema.specs.Closed.{closed_of, is_undeclared, counts, known, unknown, settled}
use Rattle.pb_value.specs.Data.{Holding, Fields, no_fields, field, Message, get_field}
use Rattle.pb_value.specs.Value.{held, fields_held}
use Rattle.pb_value.specs.Canon.{canon_holding, canon_fields, by_field}
use Rattle.pb_value.specs.WellFormed.{AreFields, RisesFrom, HasOneMemberEach}
use Rattle.pb_value.proofs.Lists.{filter_all}
use Rattle.pb_value.proofs.HeldBack.{field_with, held_back-none}
use Rattle.pb_value.proofs.FieldBack.{AllNumbered}
use Rattle.pb_value.proofs.KnownLemmas.{IsUncut, settled-append, settled-same}
use Rattle.pb_value.proofs.ListLemmas.{all_weaker}
use Rattle.pb_value.proofs.Options.{if_some}
use Rattle.pb_value.proofs.StepLemmas.{held_at, get_field-fields_held}
use Rattle.pb_value.proofs.Numbers.{self_equal, found_number}
use Rattle.pb_value.proofs.BodyBack.{numbers_differ}
use Rattle.pb_compat.specs.Oneofs.{is_crowded}
use Rattle.pb_compat.specs.Fields.{is_in_crowd}
use Rattle.pb_compat.specs.Agrees.{has_number, undeclared, HoldsSame, FieldsAgree}
use Rattle.pb_compat.proofs.ContentLemmas.{IsCounted, opened_for, whole_of}
use Rattle.pb_compat.proofs.LocalLemmas.{counts_not, known_at, held_locally}
use Rattle.pb_compat.proofs.OnlyLemmas.{EachField, each_only, each_both, each_weaker, each_passes, each_found, single, records_by, canon_by, filter_only}

-- A FIELD

-- what fits a field that is found fits some
found_fits : (gs : List FieldView) (g : FieldView) (i : ℕ) (r : Record) → field_numbered i gs ≡ Some g → fits g r ≡ true → fits_any gs r ≡ true
found_fits [] g i r e f = absurd (cc)
found_fits (h ∷ gs) g i r e f = by (h.number == i) e (found_fits gs g i r)
  where
    or_true : (b : Bool) → (b || true) ≡ true
    or_true true = refl
    or_true false = refl

    by : (b : Bool) → cond b (Some h) (field_numbered i gs) ≡ Some g → (field_numbered i gs ≡ Some g → fits g r ≡ true → fits_any gs r ≡ true) → (fits h r || fits_any gs r) ≡ true
    by true e later = let same : h ≡ g = cc in ap (λ (x : FieldView). fits x r || fits_any gs r) same ∙ ap (λ (b : Bool). b || fits_any gs r) f
    by false e later = ap (λ (b : Bool). fits h r || b) (later e f) ∙ or_true (fits h r)

-- the old field as if its list were not packed, where the new field is a list of a closed enum
abbrev pub opened : FieldView → FieldView → FieldView
opened f g = field_with f.name f.number f.kind (opened_for g.shape g.kind f.shape)

-- what the content h of a field f of number k is for the new field g of the number
pub record FieldRead (old new : Types) (gs : List FieldView) (inner : ℕ → List Record → Message) (k : ℕ) (f g : FieldView) (h : Holding) : Type 0 where
  pub settles : settled gs (canon_holding old f h) ≡ canon_holding old (opened f g) h
  pub counted : AllByRecursion (IsCounted new k g.shape g.kind) (canon_holding old (opened f g) h)
  pub agrees : HoldsSame old new f.kind g.kind g.shape h (held inner g (canon_holding old (opened f g) h))

module _ (old new : Types) (all gs : List FieldView) (inner : ℕ → List Record → Message) where
  -- the same for each content, where the new type has a field of the number
  pub record IsReadAt (k : ℕ) (h : Holding) : Type 0 where
    pub own : FieldView
    pub found : field_numbered k all ≡ Some own
    pub numbered : AllNumbered k (canon_holding old own h)
    pub read : (g : FieldView) → field_numbered k gs ≡ Some g → FieldRead old new gs inner k own g h

  pub opened_records : Option FieldView → Option FieldView → Holding → List Record
  opened_records None g h = []
  opened_records (Some f) None h = canon_holding old f h
  opened_records (Some f) (Some g) h = canon_holding old (opened f g) h

  -- the records of a content, settled
  abbrev pub records_at : ℕ → Holding → List Record
  records_at k h = opened_records (field_numbered k all) (field_numbered k gs) h

  records_lost : (k : ℕ) (h : Holding) (f : FieldView) → field_numbered k all ≡ Some f → field_numbered k gs ≡ None → records_at k h ≡ canon_holding old f h
  unfolding opened_records
  records_lost k h f e d = ap (λ (o : Option FieldView). opened_records o (field_numbered k gs) h) e ∙ ap (λ (o : Option FieldView). opened_records (Some f) o h) d

  records_kept : (k : ℕ) (h : Holding) (f g : FieldView) → field_numbered k all ≡ Some f → field_numbered k gs ≡ Some g → records_at k h ≡ canon_holding old (opened f g) h
  unfolding opened_records
  records_kept k h f g e d = ap (λ (o : Option FieldView). opened_records o (field_numbered k gs) h) e ∙ ap (λ (o : Option FieldView). opened_records (Some f) o h) d

  -- SETTLED RECORDS

  -- a field that the new type lacks is not cut
  lost_whole : (k : ℕ) (rs : List Record) → field_numbered k gs ≡ None → AllNumbered k rs → settled gs rs ≡ rs
  lost_whole k rs none h = settled-same gs rs (whole_of gs k None rs none (λ p. uncut_nothing p) h)
    where
      uncut_nothing : (p : Payload) → IsUncut p false None
      uncut_nothing (varint i) = tt
      uncut_nothing p = tt

  settled_at : (k : ℕ) (h : Holding) → IsReadAt k h → settled gs (by_field (field_numbered k all) (λ f. canon_holding old f h)) ≡ records_at k h
  settled_at k h r = ap (λ (o : Option FieldView). settled gs (by_field o (λ f. canon_holding old f h))) r.found ∙ by (field_numbered k gs) refl
    where
      by : (o : Option FieldView) → field_numbered k gs ≡ o → settled gs (canon_holding old r.own h) ≡ records_at k h
      by None e = lost_whole k (canon_holding old r.own h) e r.numbered ∙ sym (records_lost k h r.own r.found e)
      by (Some g) e = (r.read g e).settles ∙ sym (records_kept k h r.own g r.found e)

  pub settled_fields : (fs : Fields) → EachField IsReadAt fs → settled gs (canon_fields old all fs) ≡ records_by records_at fs
  settled_fields no_fields w = refl
  settled_fields (field k h fs) w =
      settled-append gs (by_field (field_numbered k all) (λ f. canon_holding old f h)) (canon_fields old all fs)
      ∙ ap (λ (l : List Record). l ++ settled gs (canon_fields old all fs)) (settled_at k h w.0) ∙ ap (λ (l : List Record). records_at k h ++ l) (settled_fields fs w.1)

  -- KNOWN AND UNKNOWN RECORDS

  fits_own : (k : ℕ) (g : FieldView) (r : Record) → g.number ≡ k → IsCounted new k g.shape g.kind r → fits g r ≡ true
  fits_own k g r own c =
      ap (λ (n : ℕ). (n == g.number) && fits_shape g.shape g.kind (wire_type r.payload)) (c.0 ∙ sym own) ∙ ap (λ (b : Bool). b && fits_shape g.shape g.kind (wire_type r.payload)) (self_equal g.number) ∙ c.1

  counts_own : (k : ℕ) (g : FieldView) (r : Record) → field_numbered k gs ≡ Some g → IsCounted new k g.shape g.kind r → counts new gs r ≡ true
  counts_own k g r found c =
      ap (λ (b : Bool). b && not (is_undeclared new (closed_of (field_numbered r.number gs)) r.payload)) (found_fits gs g k r found (fits_own k g r (found_number k gs g found) c))
      ∙ ap (λ (n : ℕ). not (is_undeclared new (closed_of (field_numbered n gs)) r.payload)) c.0 ∙ ap (λ (o : Option FieldView). not (is_undeclared new (closed_of o) r.payload)) found ∙ ap not c.2

  all_lost : (k : ℕ) (rs : List Record) → field_numbered k gs ≡ None → AllNumbered k rs → AllByRecursion (λ (r : Record). counts new gs r ≡ false) rs
  unfolding AllNumbered
  all_lost k [] none h = tt
  all_lost k (r ∷ rs) none h = (counts_not new gs k r none h.0, all_lost k rs none h.1)

  counts_at : (k : ℕ) (h : Holding) → IsReadAt k h → AllByRecursion (λ (r : Record). counts new gs r ≡ has_number gs k) (records_at k h)
  counts_at k h x = by (field_numbered k gs) refl
    where
      by : (o : Option FieldView) → field_numbered k gs ≡ o → AllByRecursion (λ (r : Record). counts new gs r ≡ is_some (field_numbered k gs)) (records_at k h)
      by None e =
          subst (λ (o : Option FieldView). AllByRecursion (λ (r : Record). counts new gs r ≡ is_some o) (records_at k h)) (sym e)
          (subst (AllByRecursion (λ (r : Record). counts new gs r ≡ false)) (sym (records_lost k h x.own x.found e)) (all_lost k (canon_holding old x.own h) e x.numbered))
      by (Some g) e =
          subst (λ (o : Option FieldView). AllByRecursion (λ (r : Record). counts new gs r ≡ is_some o) (records_at k h)) (sym e)
          (subst (AllByRecursion (λ (r : Record). counts new gs r ≡ true)) (sym (records_kept k h x.own g x.found e))
          (all_weaker (IsCounted new k g.shape g.kind) (λ r. counts new gs r ≡ true) (λ r c. counts_own k g r e c) (canon_holding old (opened x.own g) h) (x.read g e).counted))

  not_counts_at : (k : ℕ) (h : Holding) → IsReadAt k h → AllByRecursion (λ (r : Record). not (counts new gs r) ≡ not (has_number gs k)) (records_at k h)
  not_counts_at k h x =
      all_weaker (λ r. counts new gs r ≡ has_number gs k) (λ r. not (counts new gs r) ≡ not (has_number gs k)) (λ r e. ap not e) (records_at k h) (counts_at k h x)

  lost_at : (k : ℕ) (h : Holding) → IsReadAt k h × (not (has_number gs k) ≡ true) → by_field (field_numbered k all) (λ f. canon_holding old f h) ≡ records_at k h
  lost_at k h x = ap (λ (o : Option FieldView). by_field o (λ f. canon_holding old f h)) x.0.found ∙ sym (records_lost k h x.0.own x.0.found (none (field_numbered k gs) x.1))
    where
      none : (o : Option FieldView) → not (is_some o) ≡ true → o ≡ None
      none None e = refl
      none (Some g) e = absurd (cc)

  pub unknown_fields : (fs : Fields) → EachField IsReadAt fs → unknown new gs (canon_fields old all fs) ≡ canon_fields old all (undeclared gs fs)
  unknown_fields fs w =
      let p : ℕ → Bool = λ k. not (has_number gs k) in
      ap (filter (λ r. not (counts new gs r))) (settled_fields fs w)
      ∙ filter_only records_at (λ r. not (counts new gs r)) p fs (each_weaker IsReadAt (λ k h. AllByRecursion (λ (r : Record). not (counts new gs r) ≡ not (has_number gs k)) (records_at k h)) not_counts_at fs w)
      ∙ sym (canon_by old all records_at (undeclared gs fs)
      (each_weaker (λ k h. IsReadAt k h × (not (has_number gs k) ≡ true)) (λ k h. by_field (field_numbered k all) (λ f. canon_holding old f h) ≡ records_at k h) lost_at (undeclared gs fs)
      (each_both IsReadAt (λ k h. not (has_number gs k) ≡ true) (undeclared gs fs) (each_only IsReadAt p fs w) (each_passes p fs))))

-- WHAT THE FIELDS HOLD

module _ (old new : Types) (rules : IsPool new) (all : List FieldView) (n : ℕ) (inner : ℕ → List Record → Message) (fs : Fields) (rises : RisesFrom 0 fs) (fields : AreFields old all fs) (alone : HasOneMemberEach all fs) where
  abbrev own : List FieldView
  own = message_fields new n

  abbrev pub new_fields : Fields
  new_fields = fields_held inner own own (known new own (canon_fields old all fs))

  -- what a field of the new type holds, where it reads what the one of its number holds
  pub held_there : (k : ℕ) (f g : FieldView) (h : Holding) → field_numbered k all ≡ Some f → field_numbered k own ≡ Some g → is_in_crowd (is_crowded all own) g.shape ≡ false
      → get_field k fs ≡ Some h → FieldRead old new own inner k f g h → get_field k new_fields ≡ held inner g (canon_holding old (opened f g) h)
  held_there k f g h found_f found_g calm e r =
      held_locally old new rules all n k g found_g inner fs (λ x q. calm) rises fields alone
      ∙ ap (λ (o : Option Holding). held inner g (records_by (known_at old new rules all n) (single k o))) e
      ∙ ap (held inner g) (append-nil (known_at old new rules all n k h) ∙ records)
    where
      records : known_at old new rules all n k h ≡ canon_holding old (opened f g) h
      records =
          ap (λ (o : Option FieldView). known new own (by_field o (λ x. canon_holding old x h))) found_f ∙ ap (filter (counts new own)) r.settles
          ∙ filter_all (counts new own) (canon_holding old (opened f g) h)
          (all_weaker (IsCounted new k g.shape g.kind) (λ x. counts new own x ≡ true) (λ x c. counts_own old new all own inner k g x found_g c) (canon_holding old (opened f g) h) r.counted)

  pub same_there : (k : ℕ) (f g : FieldView) (h : Holding) → field_numbered k all ≡ Some f → field_numbered k own ≡ Some g → is_in_crowd (is_crowded all own) g.shape ≡ false
      → get_field k fs ≡ Some h → FieldRead old new own inner k f g h → HoldsSame old new f.kind g.kind g.shape h (get_field k new_fields)
  same_there k f g h found_f found_g calm e r = subst (HoldsSame old new f.kind g.kind g.shape h) (sym (held_there k f g h found_f found_g calm e r)) r.agrees

  -- one that the message does not set holds nothing
  pub nothing_more : (k : ℕ) → get_field k fs ≡ None → get_field k new_fields ≡ None
  nothing_more k e = by (field_numbered k own) refl
    where
      clash : {x : Holding} {o : Option Holding} → o ≡ None → o ≡ Some x → ⊥
      clash p q = cc

      by : (o : Option FieldView) → field_numbered k own ≡ o → get_field k new_fields ≡ None
      by None none = get_field-fields_held inner own own (known new own (canon_fields old all fs)) k (numbers_differ new n rules) ∙ ap (held_at inner own (known new own (canon_fields old all fs))) none
      by (Some g) found =
          held_locally old new rules all n k g found inner fs (λ h q. absurd (clash e q)) rises fields alone
          ∙ ap (λ (o : Option Holding). held inner g (records_by (known_at old new rules all n) (single k o))) e ∙ held_back-none inner g.shape g.kind

  module _ (read : EachField (IsReadAt old new all own inner) fs)
      (calm : (k : ℕ) (f g : FieldView) → field_numbered k all ≡ Some f → field_numbered k own ≡ Some g → is_in_crowd (is_crowded all own) g.shape ≡ false) where
    agree_at : (k : ℕ) (h : Holding) → IsReadAt old new all own inner k h → get_field k fs ≡ Some h
        → IfSome (field_numbered k all) (λ f. IfSome (field_numbered k own) (λ g. HoldsSame old new f.kind g.kind g.shape h (get_field k new_fields)))
    agree_at k h x e =
        if_some (field_numbered k all) (λ f. IfSome (field_numbered k own) (λ g. HoldsSame old new f.kind g.kind g.shape h (get_field k new_fields)))
        (λ f ef. if_some (field_numbered k own) (λ g. HoldsSame old new f.kind g.kind g.shape h (get_field k new_fields))
        (λ g eg.
        let found = x.found in
        let same : x.own ≡ f = cc in
        same_there k f g h ef eg (calm k f g ef eg) e (subst (λ (y : FieldView). FieldRead old new own inner k y g h) same (x.read g eg))))

    pub fields_agree : FieldsAgree old new all own fs new_fields
    fields_agree = each fs (each_both (IsReadAt old new all own inner) (λ k h. get_field k fs ≡ Some h) fs read (each_found (λ k h. get_field k fs ≡ Some h) 0 fs rises (λ k h e. e)))
      where
        each : (xs : Fields) → EachField (λ k h. IsReadAt old new all own inner k h × (get_field k fs ≡ Some h)) xs → FieldsAgree old new all own xs new_fields
        each no_fields w = tt
        each (field k h xs) w = (agree_at k h w.0.0 w.0.1, each xs w.1)
