-- What a message of the new type holds in a field whose records are all known: all that they give.
use Rattle.std.proofs.Common.{◌≡◌, ℕ, suc, List, [], ◌∷◌, ◌++◌, Bool, true, false, not, ◌&&◌, Option, Some, None, refl, sym, ◌∙◌, ap, subst}
use Rattle.std.specs.Prelude.{filter, ◌==◌, if◌then◌else◌}
use Rattle.std.specs.List.{AllByRecursion}
use Rattle.pb_wire.specs.Record.{Payload, varint, fixed64, len, group, fixed32, Record, wire_type}
use Rattle.pb_schema.specs.declared.types.Shape.{Shape}
use Rattle.pb_schema.specs.declared.types.Shape.TheVariants as shape
use Rattle.pb_schema.specs.Types.{FieldView, Types, message_fields, field_numbered}
use Rattle.pb_schema.specs.Fits.{fits, fits_any, fits_shape}
use Rattle.pb_schema.specs.Oneofs.{members, is_member}
use Rattle.pb_schema.specs.Closed.{closed_of, closed_shaped, is_undeclared, is_list_field, cut_as, cut_at, numbered, settled, counts, known, unknown}
use Rattle.pb_schema.specs.Rules.{IsPool}
use Rattle.pb_value.specs.Data.{Message, fields_of, unknown_of, get_field}
use Rattle.pb_value.specs.Value.{held, held_as, counting, counting_as, last_run, value_within}
use Rattle.pb_value.proofs.BodyBack.{numbers_differ}
use Rattle.pb_value.proofs.JudgeLemmas.{fits_any-found}
use Rattle.pb_value.proofs.ListLemmas.{all_weaker}
use Rattle.pb_value.proofs.Lists.{AllPass, filter_all, last_run-all}
use Rattle.pb_value.proofs.Numbers.{self_equal, found_number}
use Rattle.pb_value.proofs.StepLemmas.{held_at, get_field-fields_held, fits_members}
use Rattle.pb_compat.proofs.ContentLemmas.{IsCounted}
use Rattle.pb_compat.proofs.FieldLemmas.{and_both}

-- LISTS

-- where nothing fails a test, all pass
none_fails : {X : Type 0} (p : X → Bool) (xs : List X) → filter (λ x. not (p x)) xs ≡ [] → AllPass p xs
none_fails p [] e = tt
none_fails {X} p (x ∷ xs) e = by (p x) refl e (λ z. none_fails p xs z)
  where
    by : (b : Bool) → p x ≡ b → filter (λ y. not (p y)) (x ∷ xs) ≡ [] → (filter (λ y. not (p y)) xs ≡ [] → AllPass p xs) → AllPass p (x ∷ xs)
    by true q e later = (q, later (ap (λ (b : Bool). if not b then x ∷ filter (λ y. not (p y)) xs else filter (λ y. not (p y)) xs) (sym q) ∙ e))
    by false q e later = absurd (let z : x ∷ filter (λ y. not (p y)) xs ≡ [] = ap (λ (b : Bool). if not b then x ∷ filter (λ y. not (p y)) xs else filter (λ y. not (p y)) xs) (sym q) ∙ e in cc)

-- RECORDS OF ONE NUMBER

abbrev pub AreAt : ℕ → List Record → Type 0
AreAt k rs = AllByRecursion (λ (r : Record). r.number ≡ k) rs

at_numbered : (k : ℕ) (ps : List Payload) → AreAt k (numbered k ps)
at_numbered k [] = tt
at_numbered k (p ∷ ps) = (refl, at_numbered k ps)

at_cut : (b : Bool) (e : Option ℕ) (k : ℕ) (p : Payload) → AreAt k (cut_as b e k p)
at_cut true (Some e) k (len s) = at_numbered k _
at_cut true (Some e) k (varint i) = (refl, tt)
at_cut true (Some e) k (fixed64 i) = (refl, tt)
at_cut true (Some e) k (group g) = (refl, tt)
at_cut true (Some e) k (fixed32 i) = (refl, tt)
at_cut true None k p = (refl, tt)
at_cut false e k p = (refl, tt)

at_append : (k : ℕ) (xs ys : List Record) → AreAt k xs → AreAt k ys → AreAt k (xs ++ ys)
at_append k [] ys h g = g
at_append k (x ∷ xs) ys h g = (h.0, at_append k xs ys h.1 g)

pub at_settled : (gs : List FieldView) (k : ℕ) (rs : List Record) → AreAt k rs → AreAt k (settled gs rs)
at_settled gs k [] h = tt
at_settled gs k (r ∷ rs) h =
    at_append k (cut_at (field_numbered r.number gs) r) (settled gs rs)
    (subst (λ (i : ℕ). AreAt i (cut_at (field_numbered r.number gs) r)) h.0 (at_cut (is_list_field (field_numbered r.number gs)) (closed_of (field_numbered r.number gs)) r.number r.payload))
    (at_settled gs k rs h.1)

-- WHAT THE FIELD HOLDS

module _ (new : Types) (rules : IsPool new) (n k : ℕ) (g : FieldView) (found : field_numbered k (message_fields new n) ≡ Some g) where
  abbrev gs : List FieldView
  gs = message_fields new n

  -- a record of the number that counts fits the field, and has no number that its closed enum does not declare
  pub counted : (r : Record) → r.number ≡ k → counts new gs r ≡ true → IsCounted new k g.shape g.kind r
  counted r own c =
      let there : field_numbered r.number gs ≡ Some g = ap (λ (i : ℕ). field_numbered i gs) own ∙ found in
      let parts = and_both (fits_any gs r) (not (is_undeclared new (closed_of (field_numbered r.number gs)) r.payload)) c in (
        own,
        sym (fits_any-found new n r g rules there) ∙ parts.0,
        turned (is_undeclared new (closed_shaped g.shape g.kind) r.payload) (ap (λ (o : Option FieldView). not (is_undeclared new (closed_of o) r.payload)) (sym there) ∙ parts.1),
      )
    where
      turned : (b : Bool) → not b ≡ true → b ≡ false
      turned true e = absurd (cc)
      turned false e = refl

  all_counted : (rs : List Record) → AreAt k rs → AllPass (counts new gs) rs → AllByRecursion (IsCounted new k g.shape g.kind) rs
  all_counted [] h c = tt
  all_counted (r ∷ rs) h c = (counted r h.0 c.0, all_counted rs h.1 c.1)

  pub fits_own : (r : Record) → IsCounted new k g.shape g.kind r → fits g r ≡ true
  fits_own r c =
      ap (λ (i : ℕ). (i == g.number) && fits_shape g.shape g.kind (wire_type r.payload)) (c.0 ∙ sym (found_number k gs g found))
      ∙ ap (λ (b : Bool). b && fits_shape g.shape g.kind (wire_type r.payload)) (self_equal g.number) ∙ c.1

  counting_all : (inner : ℕ → List Record → Message) (rs : List Record) → AllByRecursion (IsCounted new k g.shape g.kind) rs → counting inner gs g rs ≡ rs
  counting_all inner rs c = by g.shape refl
    where
      all_fit : AllPass (fits g) rs
      all_fit = all_weaker (IsCounted new k g.shape g.kind) (λ r. fits g r ≡ true) fits_own rs c

      own : field_numbered g.number gs ≡ Some g
      own = ap (λ (i : ℕ). field_numbered i gs) (found_number k gs g found) ∙ found

      by : (s : Shape) → g.shape ≡ s → counting_as inner s gs g rs ≡ rs
      by shape.Implicit e = filter_all (fits g) rs all_fit
      by shape.Explicit e = filter_all (fits g) rs all_fit
      by (shape.List p) e = filter_all (fits g) rs all_fit
      by (shape.Map key) e = filter_all (fits g) rs all_fit
      by (shape.OneofMember o) e =
          ap (last_run (fits g)) (filter_all (fits_any (members o gs)) rs
          (all_weaker (IsCounted new k g.shape g.kind) (λ r. fits_any (members o gs) r ≡ true)
          (λ r x. fits_members o g r gs (numbers_differ new n rules) own (fits_own r x) ∙ ap (is_member o) e ∙ self_equal o) rs c))
          ∙ last_run-all (fits g) rs all_fit

  -- where no record is unknown
  pub record IsReadWhole (levels : ℕ) (rs : List Record) (w : Message) : Type 0 where
    pub counted : AllByRecursion (IsCounted new k g.shape g.kind) (settled (message_fields new n) rs)
    pub holds : get_field k (fields_of w) ≡ held_as (value_within new levels) g.shape g.kind (settled (message_fields new n) rs)

  pub read_whole : (levels : ℕ) (rs : List Record) (w : Message) → AreAt k rs → w ≡ value_within new (suc levels) n rs → unknown_of w ≡ [] → IsReadWhole levels rs w
  unfolding value_within
  read_whole levels rs w at same none =
      let inner : ℕ → List Record → Message = value_within new levels in
      let nothing : unknown new gs rs ≡ [] = ap unknown_of (sym same) ∙ none in
      let pass = none_fails (counts new gs) (settled gs rs) nothing in
      let c = all_counted (settled gs rs) (at_settled gs k rs at) pass in
      record {
        counted = c;
        holds =
            ap (λ (x : Message). get_field k (fields_of x)) same
            ∙ get_field-fields_held inner gs gs (known new gs rs) k (numbers_differ new n rules) ∙ ap (held_at inner gs (known new gs rs)) found
            ∙ ap (λ (l : List Record). held inner g (counting inner gs g l)) (filter_all (counts new gs) (settled gs rs) pass)
            ∙ ap (held inner g) (counting_all inner (settled gs rs) c);
      }
