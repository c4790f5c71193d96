-- Fields that a message may set together, and that the new type has in one oneof: there is such a partner exactly where the oneof is crowded.
use Rattle.std.proofs.Common.{◌≡◌, ◌≢◌, ⊎_elim, ℕ, List, [], ◌∷◌, map, Bool, true, false, not, cond, ◌&&◌, Option, Some, None, refl, sym, ◌∙◌, ap, subst, inl, inr}
use Rattle.std.specs.Prelude.{◌==◌, ◌⊎◌, find, is_some, option_map, if◌then◌else◌}
use Rattle.std.specs.List.{AllByRecursion, list_all, cons_option}
use Rattle.pb_schema.specs.declared.types.Shape.{Shape}
use Rattle.pb_schema.specs.declared.types.Shape.TheVariants as shape
use Rattle.pb_schema.specs.Names.{AllDiffer}
use Rattle.pb_schema.specs.Oneofs.{is_member, members, member_numbers}
use Rattle.pb_schema.specs.Types.{FieldView, field_numbered}
use Rattle.pb_value.specs.Oneof.{is_member_at}
use Rattle.pb_value.proofs.Numbers.{numbers, self_equal, number_is, found_number, found_each}
use Rattle.pb_compat.specs.Fields.{is_in_crowd}
use Rattle.pb_compat.specs.Oneofs.{share_oneof, at_most_one, shapes_of, is_crowded}
use Rattle.pb_compat.specs.Witness.{may_be_beside, fields_at, partner_of}
use Rattle.pb_compat.proofs.CrowdLemmas.{Share, share_both, share_three, share_turned, two_share, member_listed}

-- SHARING

share_is : (s t : Shape) → Share s t → share_oneof s t ≡ true
share_is (shape.OneofMember a) (shape.OneofMember b) h = let one = h.1 in let two = h.2 in let same : a ≡ b = cc in ap (λ (i : ℕ). a == i) (sym same) ∙ self_equal a
share_is (shape.OneofMember a) shape.Implicit h = let e = h.2 in absurd (cc)
share_is (shape.OneofMember a) shape.Explicit h = let e = h.2 in absurd (cc)
share_is (shape.OneofMember a) (shape.List p) h = let e = h.2 in absurd (cc)
share_is (shape.OneofMember a) (shape.Map key) h = let e = h.2 in absurd (cc)
share_is shape.Implicit t h = let e = h.1 in absurd (cc)
share_is shape.Explicit t h = let e = h.1 in absurd (cc)
share_is (shape.List p) t h = let e = h.1 in absurd (cc)
share_is (shape.Map key) t h = let e = h.1 in absurd (cc)

-- a field that may not be set beside another is itself, or shares its oneof
not_beside : (f p : FieldView) → may_be_beside f p ≡ false → (f.number ≡ p.number) ⊎ Share f.shape p.shape
not_beside f p e = by (f.number == p.number) refl (share_oneof f.shape p.shape) refl e
  where
    by : (b : Bool) → (f.number == p.number) ≡ b → (c : Bool) → share_oneof f.shape p.shape ≡ c → (not b && not c) ≡ false → (f.number ≡ p.number) ⊎ Share f.shape p.shape
    by true q c s e = inl (number_is f.number p.number q)
    by false q true s e = inr (share_both f.shape p.shape s)
    by false q false s e = absurd (cc)

-- THE FIELD THAT IS FOUND

pub record IsPartner (fs : List FieldView) (P : FieldView → Type 0) (o : ℕ) (f p : FieldView) : Type 0 where
  pub beside : FieldView
  pub there : P beside
  pub member : is_member o beside.shape ≡ true
  pub found : field_numbered beside.number fs ≡ Some p
  pub apart : may_be_beside f p ≡ true

partner_found : (fs : List FieldView) (P : FieldView → Type 0) (o : ℕ) (f p : FieldView) (hs : List FieldView) → AllByRecursion P hs → find (may_be_beside f) (fields_at fs (member_numbers o hs)) ≡ Some p → IsPartner fs P o f p
partner_found fs P o f p [] all e = absurd (cc)
partner_found fs P o f p (h ∷ hs) all e = by (is_member o h.shape) refl (field_numbered h.number fs) refl e (partner_found fs P o f p hs all.1)
  where
    same : {x : FieldView} → ◌≡◌ {A = Option FieldView} (Some x) (Some p) → x ≡ p
    same e = cc

    tested : (x : FieldView) → field_numbered h.number fs ≡ Some x → is_member o h.shape ≡ true → (b : Bool) → may_be_beside f x ≡ b → cond b (Some x) (find (may_be_beside f) (fields_at fs (member_numbers o hs))) ≡ Some p
        → (find (may_be_beside f) (fields_at fs (member_numbers o hs)) ≡ Some p → IsPartner fs P o f p) → IsPartner fs P o f p
    tested x at own true t e later = record {
      beside = h;
      there = all.0;
      member = own;
      found = at ∙ ap Some (same e);
      apart = subst (λ (y : FieldView). may_be_beside f y ≡ true) (same e) t;
    }
    tested x at own false t e later = later e

    by : (b : Bool) → is_member o h.shape ≡ b → (x : Option FieldView) → field_numbered h.number fs ≡ x
        → find (may_be_beside f) (fields_at fs (map (λ (g : FieldView). g.number) (if is_member o h.shape then h ∷ members o hs else members o hs))) ≡ Some p
        → (find (may_be_beside f) (fields_at fs (member_numbers o hs)) ≡ Some p → IsPartner fs P o f p) → IsPartner fs P o f p
    by false own x at e later =
        later (ap (λ (b : Bool). find (may_be_beside f) (fields_at fs (map (λ (g : FieldView). g.number) (if b then h ∷ members o hs else members o hs)))) (sym own) ∙ e)
    by true own None at e later =
        later
        (ap (λ (x : Option FieldView). find (may_be_beside f) (cons_option x (fields_at fs (member_numbers o hs)))) (sym at)
        ∙ ap (λ (b : Bool). find (may_be_beside f) (fields_at fs (map (λ (g : FieldView). g.number) (if b then h ∷ members o hs else members o hs)))) (sym own) ∙ e)
    by true own (Some x) at e later =
        tested x at own (may_be_beside f x) refl
        (ap (λ (x : Option FieldView). find (may_be_beside f) (cons_option x (fields_at fs (member_numbers o hs)))) (sym at)
        ∙ ap (λ (b : Bool). find (may_be_beside f) (fields_at fs (map (λ (g : FieldView). g.number) (if b then h ∷ members o hs else members o hs)))) (sym own) ∙ e) later

pub partner_is : (fs gs : List FieldView) (o : ℕ) (f p : FieldView) → AllDiffer (numbers gs) → find (may_be_beside f) (fields_at fs (member_numbers o gs)) ≡ Some p → IsPartner fs (λ q. field_numbered q.number gs ≡ Some q) o f p
partner_is fs gs o f p differ e = partner_found fs (λ q. field_numbered q.number gs ≡ Some q) o f p gs (found_each gs differ) e

-- WHERE NONE IS FOUND

module _ (fs : List FieldView) (f : FieldView) (own : field_numbered f.number fs ≡ Some f) where
  some_same : {x : FieldView} {o : Option FieldView} → o ≡ Some x → o ≡ Some f → x ≡ f
  some_same p q = cc

  -- what a list begins with is no partner, nor is one later
  none_first : (x : FieldView) (xs : List FieldView) → find (may_be_beside f) (x ∷ xs) ≡ None → (may_be_beside f x ≡ false) × (find (may_be_beside f) xs ≡ None)
  none_first x xs e = by (may_be_beside f x) refl e
    where
      by : (b : Bool) → may_be_beside f x ≡ b → cond b (Some x) (find (may_be_beside f) xs) ≡ None → (may_be_beside f x ≡ false) × (find (may_be_beside f) xs ≡ None)
      by true t e = absurd (cc)
      by false t e = (t, e)

  both_true : (a b : Bool) → a ≡ true → b ≡ true → (a && b) ≡ true
  both_true true b e h = h
  both_true false b e h = e

  -- all share a oneof with what shares one with f
  all_share : (s : Shape) (ns : List ℕ) → Share f.shape s → find (may_be_beside f) (fields_at fs ns) ≡ None → list_all (share_oneof s) (shapes_of fs ns) ≡ true
  all_share s [] with_f none = refl
  all_share s (n ∷ ns) with_f none = by (field_numbered n fs) refl none (λ q. all_share s ns with_f q)
    where
      by : (x : Option FieldView) → field_numbered n fs ≡ x → find (may_be_beside f) (cons_option (field_numbered n fs) (fields_at fs ns)) ≡ None
          → (find (may_be_beside f) (fields_at fs ns) ≡ None → list_all (share_oneof s) (shapes_of fs ns) ≡ true)
          → list_all (share_oneof s) (cons_option (option_map (λ p. p.shape) (field_numbered n fs)) (shapes_of fs ns)) ≡ true
      by None at none later =
          ap (λ (x : Option FieldView). list_all (share_oneof s) (cons_option (option_map (λ p. p.shape) x) (shapes_of fs ns))) at
          ∙ later (ap (λ (x : Option FieldView). find (may_be_beside f) (cons_option x (fields_at fs ns))) (sym at) ∙ none)
      by (Some p) at none later =
          let parts = none_first p (fields_at fs ns) (ap (λ (x : Option FieldView). find (may_be_beside f) (cons_option x (fields_at fs ns))) (sym at) ∙ none) in
          ap (λ (x : Option FieldView). list_all (share_oneof s) (cons_option (option_map (λ p. p.shape) x) (shapes_of fs ns))) at
          ∙ both_true (share_oneof s p.shape) (list_all (share_oneof s) (shapes_of fs ns))
          (⊎_elim
          (λ (same : f.number ≡ p.number).
          let is : p ≡ f = some_same (ap (λ (i : ℕ). field_numbered i fs) (same ∙ found_number n fs p at) ∙ at) own in
          share_is s p.shape (subst (λ (q : FieldView). Share s q.shape) (sym is) (share_turned f.shape s with_f)))
          (λ (share : Share f.shape p.shape). share_is s p.shape (share_three f.shape s p.shape with_f share)) (not_beside f p parts.0))
          (later parts.1)

  -- all other fields share one with f
  others_share : (ns : List ℕ) → AllByRecursion (λ n. f.number ≢ n) ns → find (may_be_beside f) (fields_at fs ns) ≡ None → list_all (share_oneof f.shape) (shapes_of fs ns) ≡ true
  others_share [] differ none = refl
  others_share (n ∷ ns) differ none = by (field_numbered n fs) refl none (λ q. others_share ns differ.1 q)
    where
      by : (x : Option FieldView) → field_numbered n fs ≡ x → find (may_be_beside f) (cons_option (field_numbered n fs) (fields_at fs ns)) ≡ None
          → (find (may_be_beside f) (fields_at fs ns) ≡ None → list_all (share_oneof f.shape) (shapes_of fs ns) ≡ true)
          → list_all (share_oneof f.shape) (cons_option (option_map (λ p. p.shape) (field_numbered n fs)) (shapes_of fs ns)) ≡ true
      by None at none later =
          ap (λ (x : Option FieldView). list_all (share_oneof f.shape) (cons_option (option_map (λ p. p.shape) x) (shapes_of fs ns))) at
          ∙ later (ap (λ (x : Option FieldView). find (may_be_beside f) (cons_option x (fields_at fs ns))) (sym at) ∙ none)
      by (Some p) at none later =
          let parts = none_first p (fields_at fs ns) (ap (λ (x : Option FieldView). find (may_be_beside f) (cons_option x (fields_at fs ns))) (sym at) ∙ none) in
          ap (λ (x : Option FieldView). list_all (share_oneof f.shape) (cons_option (option_map (λ p. p.shape) x) (shapes_of fs ns))) at
          ∙ both_true (share_oneof f.shape p.shape) (list_all (share_oneof f.shape) (shapes_of fs ns))
          (⊎_elim (λ (same : f.number ≡ p.number). absurd (differ.0 (same ∙ found_number n fs p at))) (λ (share : Share f.shape p.shape). share_is f.shape p.shape share) (not_beside f p parts.0))
          (later parts.1)

  none_crowds : (ns : List ℕ) → AllDiffer ns → find (may_be_beside f) (fields_at fs ns) ≡ None → at_most_one (shapes_of fs ns) ≡ true
  none_crowds [] differ none = refl
  none_crowds (n ∷ ns) differ none = by (field_numbered n fs) refl none (λ q. none_crowds ns differ.1 q)
    where
      by : (x : Option FieldView) → field_numbered n fs ≡ x → find (may_be_beside f) (cons_option (field_numbered n fs) (fields_at fs ns)) ≡ None → (find (may_be_beside f) (fields_at fs ns) ≡ None → at_most_one (shapes_of fs ns) ≡ true)
          → at_most_one (cons_option (option_map (λ p. p.shape) (field_numbered n fs)) (shapes_of fs ns)) ≡ true
      by None at none later =
          ap (λ (x : Option FieldView). at_most_one (cons_option (option_map (λ p. p.shape) x) (shapes_of fs ns))) at
          ∙ later (ap (λ (x : Option FieldView). find (may_be_beside f) (cons_option x (fields_at fs ns))) (sym at) ∙ none)
      by (Some p) at none later =
          let parts = none_first p (fields_at fs ns) (ap (λ (x : Option FieldView). find (may_be_beside f) (cons_option x (fields_at fs ns))) (sym at) ∙ none) in
          let number : p.number ≡ n = found_number n fs p at in
          ap (λ (x : Option FieldView). at_most_one (cons_option (option_map (λ p. p.shape) x) (shapes_of fs ns))) at
          ∙ ⊎_elim
          (λ (same : f.number ≡ p.number).
          let is : p ≡ f = some_same (ap (λ (i : ℕ). field_numbered i fs) (same ∙ number) ∙ at) own in
          subst (λ (q : FieldView). list_all (share_oneof q.shape) (shapes_of fs ns) ≡ true) (sym is)
          (others_share ns (subst (λ (i : ℕ). AllByRecursion (λ j. i ≢ j) ns) (sym (same ∙ number)) differ.0) parts.1))
          (λ (share : Share f.shape p.shape). all_share p.shape ns share parts.1) (not_beside f p parts.0)

-- MEMBERS OF A ONEOF

all_members : (P : ℕ → Type 0) (o : ℕ) (gs : List FieldView) → AllByRecursion P (numbers gs) → AllByRecursion P (member_numbers o gs)
all_members P o [] h = tt
all_members P o (g ∷ gs) h = by (is_member o g.shape) (all_members P o gs h.1)
  where
    by : (b : Bool) → AllByRecursion P (member_numbers o gs) → AllByRecursion P (map (λ (f : FieldView). f.number) (if b then g ∷ members o gs else members o gs))
    by true rest = (h.0, rest)
    by false rest = rest

members_differ : (o : ℕ) (gs : List FieldView) → AllDiffer (numbers gs) → AllDiffer (member_numbers o gs)
members_differ o [] h = tt
members_differ o (g ∷ gs) h = by (is_member o g.shape) (members_differ o gs h.1)
  where
    by : (b : Bool) → AllDiffer (member_numbers o gs) → AllDiffer (map (λ (f : FieldView). f.number) (if b then g ∷ members o gs else members o gs))
    by true rest = (all_members (λ n. g.number ≢ n) o gs h.0, rest)
    by false rest = rest

-- A CROWDED ONEOF

module _ (fs gs : List FieldView) (k : ℕ) (f g : FieldView) (differ : AllDiffer (numbers gs)) (found_f : field_numbered k fs ≡ Some f) (found_g : field_numbered k gs ≡ Some g) where
  number : f.number ≡ k
  number = found_number k fs f found_f

  own : field_numbered f.number fs ≡ Some f
  own = ap (λ (i : ℕ). field_numbered i fs) number ∙ found_f

  partner_crowds : (o : ℕ) (p : FieldView) → g.shape ≡ shape.OneofMember o → find (may_be_beside f) (fields_at fs (member_numbers o gs)) ≡ Some p → is_crowded fs gs o ≡ true
  partner_crowds o p here e = by (at_most_one (shapes_of fs (member_numbers o gs))) refl
    where
      partner : IsPartner fs (λ q. field_numbered q.number gs ≡ Some q) o f p
      partner = partner_is fs gs o f p differ e

      split : (a b : Bool) → (not a && not b) ≡ true → (a ≡ false) × (b ≡ false)
      split true b e = absurd (cc)
      split false true e = absurd (cc)
      split false false e = (refl, refl)

      clash : true ≡ false → ⊥
      clash e = cc

      by : (b : Bool) → at_most_one (shapes_of fs (member_numbers o gs)) ≡ b → not (at_most_one (shapes_of fs (member_numbers o gs))) ≡ true
      by false q = ap not q
      by true q =
          let apart = split (f.number == p.number) (share_oneof f.shape p.shape) partner.apart in
          let other : p.number ≡ partner.beside.number = found_number partner.beside.number fs p partner.found in
          let differs : k ≢ partner.beside.number = λ e. clash (sym (ap (λ (i : ℕ). f.number == i) (other ∙ sym e ∙ sym number) ∙ self_equal f.number) ∙ apart.0) in
          let share =
          two_share fs (member_numbers o gs) k partner.beside.number f p q
          (member_listed o k gs (ap (is_member_at o) found_g ∙ ap (is_member o) here ∙ self_equal o)) (member_listed o partner.beside.number gs (ap (is_member_at o) partner.there ∙ partner.member)) differs found_f partner.found in
          absurd (clash (sym (share_is f.shape p.shape share) ∙ apart.1))

  calm_without : (o : ℕ) → find (may_be_beside f) (fields_at fs (member_numbers o gs)) ≡ None → is_crowded fs gs o ≡ false
  calm_without o e = ap not (none_crowds fs f own (member_numbers o gs) (members_differ o gs differ) e)

  -- there is a partner exactly where the oneof is crowded
  pub partner_exact : is_some (partner_of fs gs f g.shape) ≡ is_in_crowd (is_crowded fs gs) g.shape
  partner_exact = by g.shape refl
    where
      by : (s : Shape) → g.shape ≡ s → is_some (partner_of fs gs f s) ≡ is_in_crowd (is_crowded fs gs) s
      by shape.Implicit e = refl
      by shape.Explicit e = refl
      by (shape.List p) e = refl
      by (shape.Map key) e = refl
      by (shape.OneofMember o) e = found (find (may_be_beside f) (fields_at fs (member_numbers o gs))) refl
        where
          found : (x : Option FieldView) → find (may_be_beside f) (fields_at fs (member_numbers o gs)) ≡ x → is_some (find (may_be_beside f) (fields_at fs (member_numbers o gs))) ≡ is_crowded fs gs o
          found None q = ap is_some q ∙ sym (calm_without o q)
          found (Some p) q = ap is_some q ∙ sym (partner_crowds o p e q)
