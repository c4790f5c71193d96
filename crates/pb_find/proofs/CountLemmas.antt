-- The records that count for a field of one value, after one more record.
use Rattle.std.proofs.Common.{◌≡◌, ◌≢◌, ℕ, List, [], ◌∷◌, ◌++◌, append-nil, refl, sym, ap, ◌∙◌, subst, Option, Some, None}
use Rattle.std.proofs.lemmas.List.Elements.{filter-append}
use Rattle.std.specs.Prelude.{Bool, true, false, not, ◌&&◌, ◌==◌, filter, if◌then◌else◌}
use Rattle.pb_wire.specs.Record.{Payload, varint, fixed64, len, group, fixed32, Record, wire_type}
use Rattle.pb_schema.specs.declared.types.Shape.{Shape}
use Rattle.pb_schema.specs.declared.types.Shape.TheVariants as shape
use Rattle.pb_schema.specs.Types.{FieldView, Types, message_fields, field_numbered}
use Rattle.pb_schema.specs.Rules.{IsPool}
use Rattle.pb_schema.specs.Oneofs.{is_member, members}
use Rattle.pb_schema.specs.Fits.{fits, fits_type, fits_any}
use Rattle.pb_schema.specs.Packed.{numbers_of}
use Rattle.pb_schema.specs.Closed.{closed_of, is_list, is_list_field, is_undeclared, numbered, cut_as, settled, counts, known}
use Rattle.pb_value.specs.Data.{Message}
use Rattle.pb_value.specs.Value.{last_run, counting, counting_as}
use Rattle.pb_value.proofs.BytesLemmas.{both}
use Rattle.pb_value.proofs.BodyBack.{numbers_differ, all_found, can_pack}
use Rattle.pb_value.proofs.FieldBack.{AllNumbered, fits-other}
use Rattle.pb_value.proofs.FittingLemmas.{same_number}
use Rattle.pb_value.proofs.JudgeLemmas.{fits_any-found, fits_any-none}
use Rattle.pb_value.proofs.KnownLemmas.{IsUncut, IsWhole, known-append, known-one, known-none}
use Rattle.pb_value.proofs.ListLemmas.{all_filter, all_weaker}
use Rattle.pb_value.proofs.Lists.{NonePasses, filter_none}
use Rattle.pb_value.proofs.Numbers.{self_equal, found_number}
use Rattle.pb_value.proofs.OneofBack.{none_of_member}
use Rattle.pb_value.proofs.StepLemmas.{filter-passes, filter-fails, last_run-passes, last_run-fails, fits_members, fits_some}
use Rattle.pb_find.specs.Found.{is_single, shares_oneof, counts_for, is_rival}

-- ---- shapes of one value

pub not_list : (s : Shape) → is_single s ≡ true → is_list s ≡ false
not_list shape.Implicit e = refl
not_list shape.Explicit e = refl
not_list (shape.OneofMember o) e = refl
not_list (shape.List p) e = absurd (cc)
not_list (shape.Map key) e = absurd (cc)

-- a list is a member of no oneof
list_no_member : (o : ℕ) (s : Shape) → is_list s ≡ true → is_member o s ≡ false
list_no_member o shape.Implicit e = absurd (cc)
list_no_member o shape.Explicit e = absurd (cc)
list_no_member o (shape.OneofMember p) e = absurd (cc)
list_no_member o (shape.List p) e = refl
list_no_member o (shape.Map key) e = absurd (cc)

list_no_fellow : (s : Shape) (g : FieldView) → is_list g.shape ≡ true → shares_oneof s (Some g) ≡ false
list_no_fellow shape.Implicit g e = refl
list_no_fellow shape.Explicit g e = refl
list_no_fellow (shape.OneofMember o) g e = list_no_member o g.shape e
list_no_fellow (shape.List p) g e = refl
list_no_fellow (shape.Map key) g e = refl

-- ---- records that stay whole, and those of lists that are cut

uncut_alone : (p : Payload) (e : Option ℕ) → IsUncut p false e
uncut_alone (varint n) e = tt
uncut_alone (fixed64 n) e = tt
uncut_alone (len s) e = tt
uncut_alone (group g) e = tt
uncut_alone (fixed32 n) e = tt

whole_alone : (fs : List FieldView) (r : Record) → is_list_field (field_numbered r.number fs) ≡ false → IsWhole fs r
whole_alone fs r e = subst (λ (b : Bool). IsUncut r.payload b (closed_of (field_numbered r.number fs))) (sym e) (uncut_alone r.payload (closed_of (field_numbered r.number fs)))

numbered_all : (n : ℕ) (ps : List Payload) → AllNumbered n (numbered n ps)
unfolding AllNumbered
numbered_all n [] = tt
numbered_all n (p ∷ ps) = (refl, numbered_all n ps)

cut_numbered : (b : Bool) (e : Option ℕ) (n : ℕ) (p : Payload) → AllNumbered n (cut_as b e n p ++ [])
unfolding AllNumbered
cut_numbered true (Some e) n (len s) = subst (AllNumbered n) (sym (append-nil (numbered n (numbers_of 0 s)))) (numbered_all n (numbers_of 0 s))
cut_numbered true (Some e) n (varint i) = (refl, tt)
cut_numbered true (Some e) n (fixed64 i) = (refl, tt)
cut_numbered true (Some e) n (group g) = (refl, tt)
cut_numbered true (Some e) n (fixed32 i) = (refl, tt)
cut_numbered true None n p = (refl, tt)
cut_numbered false e n p = (refl, tt)

-- the records that one counts as have its number
known_numbered : (pool : Types) (fs : List FieldView) (r : Record) → AllNumbered r.number (known pool fs (r ∷ []))
unfolding AllNumbered
known_numbered pool fs r =
    all_weaker _ (λ (y : Record). y.number ≡ r.number) (λ y w. w.0) (known pool fs (r ∷ []))
    (all_filter (λ (y : Record). y.number ≡ r.number) (counts pool fs) (settled fs (r ∷ [])) (cut_numbered (is_list_field (field_numbered r.number fs)) (closed_of (field_numbered r.number fs)) r.number r.payload))

-- ---- one more record

and_false : (b : Bool) → (b && false) ≡ false
and_false true = refl
and_false false = refl

module _ (inner : ℕ → List Record → Message) (all : List FieldView) (f : FieldView) where
  counts_on : (s : Shape) → is_single s ≡ true → (ks : List Record) (r : Record) → fits f r ≡ true → ((o : ℕ) → s ≡ shape.OneofMember o → fits_any (members o all) r ≡ true)
      → counting_as inner s all f (ks ++ r ∷ []) ≡ counting_as inner s all f ks ++ r ∷ []
  counts_on (shape.OneofMember o) single ks r e any =
      ap (last_run (fits f)) (filter-passes (fits_any (members o all)) ks r (any o refl)) ∙ last_run-passes (fits f) (filter (fits_any (members o all)) ks) r e
  counts_on shape.Implicit single ks r e any = filter-passes (fits f) ks r e
  counts_on shape.Explicit single ks r e any = filter-passes (fits f) ks r e
  counts_on (shape.List p) single ks r e any = absurd (cc)
  counts_on (shape.Map key) single ks r e any = absurd (cc)

  -- a record that counts for another field g
  counts_other : (s : Shape) → is_single s ≡ true → (ks : List Record) (r : Record) (g : FieldView) → fits f r ≡ false → ((o : ℕ) → fits_any (members o all) r ≡ is_member o g.shape)
      → counting_as inner s all f (ks ++ r ∷ []) ≡ (if shares_oneof s (Some g) then [] else counting_as inner s all f ks)
  counts_other (shape.OneofMember o) single ks r g e any = by_test (is_member o g.shape) (any o)
    where
      by_test : (b : Bool) → fits_any (members o all) r ≡ b → last_run (fits f) (filter (fits_any (members o all)) (ks ++ r ∷ [])) ≡ (if b then [] else last_run (fits f) (filter (fits_any (members o all)) ks))
      by_test true q = ap (last_run (fits f)) (filter-passes (fits_any (members o all)) ks r q) ∙ last_run-fails (fits f) (filter (fits_any (members o all)) ks) r e
      by_test false q = ap (last_run (fits f)) (filter-fails (fits_any (members o all)) ks r q)
  counts_other shape.Implicit single ks r g e any = filter-fails (fits f) ks r e
  counts_other shape.Explicit single ks r g e any = filter-fails (fits f) ks r e
  counts_other (shape.List p) single ks r g e any = absurd (cc)
  counts_other (shape.Map key) single ks r g e any = absurd (cc)

  filter_apart : (p : Record → Bool) (ks ys : List Record) → NonePasses p ys → filter p (ks ++ ys) ≡ filter p ks
  filter_apart p ks ys none = filter-append p ks ys ∙ ap (λ (l : List Record). filter p ks ++ l) (filter_none p ys none) ∙ append-nil (filter p ks)

  -- records of which none fits the field, and none a member of its oneof
  counts_apart : (s : Shape) → is_single s ≡ true → (ks ys : List Record) → NonePasses (fits f) ys → ((o : ℕ) → NonePasses (fits_any (members o all)) ys)
      → counting_as inner s all f (ks ++ ys) ≡ counting_as inner s all f ks
  counts_apart (shape.OneofMember o) single ks ys none apart = ap (last_run (fits f)) (filter_apart (fits_any (members o all)) ks ys (apart o))
  counts_apart shape.Implicit single ks ys none apart = filter_apart (fits f) ks ys none
  counts_apart shape.Explicit single ks ys none apart = filter_apart (fits f) ks ys none
  counts_apart (shape.List p) single ks ys none apart = absurd (cc)
  counts_apart (shape.Map key) single ks ys none apart = absurd (cc)

-- the records that count for the field
abbrev pub counted : Types → (ℕ → List Record → Message) → List FieldView → FieldView → List Record → List Record
counted pool inner all f rs = counting inner all f (known pool all rs)

module _ (pool : Types) (rules : IsPool pool) (m : ℕ) (inner : ℕ → List Record → Message) (f : FieldView) (found : field_numbered f.number (message_fields pool m) ≡ Some f)
    (single : is_single f.shape ≡ true) (rs : List Record) (r : Record) where
  abbrev all : List FieldView
  all = message_fields pool m

  abbrev ks : List Record
  ks = known pool (message_fields pool m) rs

  -- what is the same for one more record that doesn't count
  not_known : IsWhole all r → counts pool all r ≡ false → counted pool inner all f (rs ++ r ∷ []) ≡ counted pool inner all f rs
  not_known whole none = ap (counting inner all f) (known-none pool all rs r whole none)

  -- a record that fits the field
  module _ (e : fits f r ≡ true) where
    here : field_numbered r.number (message_fields pool m) ≡ Some f
    here = ap (λ (n : ℕ). field_numbered n (message_fields pool m)) (same_number f r e) ∙ found

    whole_own : IsWhole (message_fields pool m) r
    whole_own = whole_alone (message_fields pool m) r (ap is_list_field here ∙ not_list f.shape single)

    counts_own : counts pool (message_fields pool m) r ≡ not (is_undeclared pool (closed_of (Some f)) r.payload)
    counts_own =
        ap (λ (b : Bool). b && not (is_undeclared pool (closed_of (field_numbered r.number (message_fields pool m))) r.payload)) (fits_some f r (message_fields pool m) found e)
        ∙ ap (λ (o : Option FieldView). not (is_undeclared pool (closed_of o) r.payload)) here

    counts_for_own : counts_for pool f r ≡ not (is_undeclared pool (closed_of (Some f)) r.payload)
    counts_for_own = ap (λ (b : Bool). b && not (is_undeclared pool (closed_of (Some f)) r.payload)) e

    any_own : (o : ℕ) → f.shape ≡ shape.OneofMember o → fits_any (members o (message_fields pool m)) r ≡ true
    any_own o q = fits_members o f r (message_fields pool m) (numbers_differ pool m rules) found e ∙ ap (is_member o) q ∙ self_equal o

  -- it counts for the field, and is one more of those that do
  pub counted_own : counts_for pool f r ≡ true → counted pool inner (message_fields pool m) f (rs ++ r ∷ []) ≡ counted pool inner (message_fields pool m) f rs ++ r ∷ []
  counted_own q =
      let e : fits f r ≡ true = (both (fits f r) (not (is_undeclared pool (closed_of (Some f)) r.payload)) q).0 in
      ap (counting inner all f) (known-one pool all rs r (whole_own e) (counts_own e ∙ sym (counts_for_own e) ∙ q))
      ∙ counts_on inner all f f.shape single ks r e (any_own e)

  -- it doesn't, and leaves those that do, or none of them where it counts for another member of the oneof
  pub counted_other : counts_for pool f r ≡ false
      → counted pool inner (message_fields pool m) f (rs ++ r ∷ []) ≡ (if is_rival pool (message_fields pool m) f r then [] else counted pool inner (message_fields pool m) f rs)
  counted_other q = by_fit (fits f r) refl
    where
      kept_all : is_rival pool all f r ≡ false → counted pool inner all f (rs ++ r ∷ []) ≡ counted pool inner all f rs
          → counted pool inner all f (rs ++ r ∷ []) ≡ (if is_rival pool all f r then [] else counted pool inner all f rs)
      kept_all none same = same ∙ sym (ap (λ (b : Bool). if b then [] else counted pool inner all f rs) none)

      -- where it doesn't count at all
      none_known : IsWhole all r → counts pool all r ≡ false → counted pool inner all f (rs ++ r ∷ []) ≡ (if is_rival pool all f r then [] else counted pool inner all f rs)
      none_known whole none =
          kept_all (ap (λ (b : Bool). shares_oneof f.shape (field_numbered r.number all) && b) none ∙ and_false (shares_oneof f.shape (field_numbered r.number all))) (not_known whole none)

      by_field : (o : Option FieldView) → field_numbered r.number all ≡ o → fits f r ≡ false
          → counted pool inner all f (rs ++ r ∷ []) ≡ (if is_rival pool all f r then [] else counted pool inner all f rs)
      by_field None at e =
          none_known (whole_alone all r (ap is_list_field at))
          (ap (λ (b : Bool). b && not (is_undeclared pool (closed_of (field_numbered r.number all)) r.payload)) (fits_any-none pool m r rules at))
      by_field (Some g) at e = by_list (is_list g.shape) refl
        where
          number : g.number ≡ r.number
          number = found_number r.number all g at

          by_counts : (b : Bool) → counts pool all r ≡ b → is_list g.shape ≡ false → counted pool inner all f (rs ++ r ∷ []) ≡ (if is_rival pool all f r then [] else counted pool inner all f rs)
          by_counts false none alone = none_known (whole_alone all r (ap is_list_field at ∙ alone)) none
          by_counts true some alone =
              let any : fits_any all r ≡ true = (both (fits_any all r) (not (is_undeclared pool (closed_of (field_numbered r.number all)) r.payload)) some).0 in
              let typed : fits_type g (wire_type r.payload) ≡ true = sym (fits_any-found pool m r g rules at) ∙ any in
              let own : fits g r ≡ true = ap (λ (n : ℕ). (n == g.number) && fits_type g (wire_type r.payload)) (sym number) ∙ ap (λ (b : Bool). b && fits_type g (wire_type r.payload)) (self_equal g.number) ∙ typed in
              let g_found : field_numbered g.number all ≡ Some g = ap (λ (n : ℕ). field_numbered n all) number ∙ at in
              let rival : is_rival pool all f r ≡ shares_oneof f.shape (Some g) =
              ap (λ (b : Bool). shares_oneof f.shape (field_numbered r.number all) && b) some ∙ and_true (shares_oneof f.shape (field_numbered r.number all)) ∙ ap (shares_oneof f.shape) at in
              ap (counting inner all f) (known-one pool all rs r (whole_alone all r (ap is_list_field at ∙ alone)) some)
              ∙ counts_other inner all f f.shape single ks r g e (λ o. fits_members o g r all (numbers_differ pool m rules) g_found own)
              ∙ sym (ap (λ (b : Bool). if b then [] else counted pool inner all f rs) rival)
            where
              and_true : (b : Bool) → (b && true) ≡ b
              and_true true = refl
              and_true false = refl

          by_list : (b : Bool) → is_list g.shape ≡ b → counted pool inner all f (rs ++ r ∷ []) ≡ (if is_rival pool all f r then [] else counted pool inner all f rs)
          by_list false alone = by_counts (counts pool all r) refl alone
          by_list true listed =
              kept_all
              (ap (λ (b : Bool). b && counts pool all r) (ap (shares_oneof f.shape) at ∙ list_no_fellow f.shape g listed))
              (ap (counting inner all f) (known-append pool all rs (r ∷ []))
              ∙ counts_apart inner all f f.shape single ks (known pool all (r ∷ [])) (fits-other f r.number (known pool all (r ∷ [])) differ (known_numbered pool all r))
              (λ o. none_of_member pool all (can_pack pool m rules) (all_found pool m rules) o r.number g (known pool all (r ∷ [])) at (list_no_member o g.shape listed) (known_numbered pool all r)))
            where
              differ : f.number ≢ r.number
              differ w =
                  let there : field_numbered r.number all ≡ Some f = ap (λ (n : ℕ). field_numbered n all) (sym w) ∙ found in
                  let same : f ≡ g = cc in
                  let alone : is_list g.shape ≡ false = ap (λ (h : FieldView). is_list h.shape) (sym same) ∙ not_list f.shape single in cc

      by_fit : (b : Bool) → fits f r ≡ b → counted pool inner all f (rs ++ r ∷ []) ≡ (if is_rival pool all f r then [] else counted pool inner all f rs)
      by_fit true e = none_known (whole_own e) (counts_own e ∙ sym (counts_for_own e) ∙ q)
      by_fit false e = by_field (field_numbered r.number all) refl e
