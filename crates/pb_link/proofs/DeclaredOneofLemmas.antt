-- The oneofs that a pool's messages are declared with meet their rule: real ones stand first, and after them one for each optional field, in
-- the order of those fields.
use Rattle.std.proofs.Common.{◌≡◌, ◌≢◌, ℕ, zero, suc, ◌+◌, ◌<◌, ◌≤◌, ◌⊎◌, inl, inr, List, [], ◌∷◌, take, length, Bool, true, false, ◌&&◌, ◌||◌, ◌==◌, not, cond, refl, sym, ap, ◌∙◌, subst, arith, Option, Some, None}
use Rattle.std.specs.Prelude.{ℤ, pos, slice_get, filter, nat_lt, is_none}
use Rattle.std.specs.List.{AllByRecursion, list_any, enumerate_from}
use Rattle.std.specs.Ordering.{int_eq}
use Rattle.std.proofs.lemmas.Bool.{cases_eq, cases_lt}
use Rattle.std.proofs.lemmas.Bool.Decides.{nat_tests, Decides-eqb, Decides-int_eq}
use Rattle.std.proofs.lemmas.List.{length-map, length-append}
use Rattle.std.proofs.lemmas.Option.{none-some, slice_get_within}
use Rattle.pb_schema.specs.declared.types.Kind.{Kind}
use Rattle.pb_schema.specs.declared.types.Shape.{Shape}
use Rattle.pb_schema.specs.declared.types.Shape.TheVariants as shape
use Rattle.pb_schema.specs.Kinds.{message_of_kind}
use Rattle.pb_schema.specs.Names.{message_names, name_at}
use Rattle.pb_schema.specs.Types.{FieldView, MessageView, Types, is_proto2}
use Rattle.pb_schema.specs.Rules.{IsPool, NamesOneof, IsMemberOf, HasMember, EachOneofHasMember}
use Rattle.pb_declarations.specs.Decls.{DeclaredField, MessageHead}
use Rattle.pb_link_names.specs.Declarations.{is_member_of, is_synthetic}
use Rattle.pb_link_names.specs.MarkRules.{same_oneof, how_many, oneof_of_field_is_right, oneof_is_right}
use Rattle.pb_link.specs.ToDecls.{is_repeated_shape, is_optional_field, oneof_of_field, declared_field, declared_fields, is_optional_view, synthetic_names, declared_head}
use Rattle.pb_link.proofs.FlatLemmas.{Stands}
use Rattle.pb_link.proofs.WholeLemmas.{all_at}

some_same : {A : Type 0} (a b : A) → Some a ≡ Some b → a ≡ b
some_same a b h = cc

-- THE ONEOF OF A FIELD

data OneofCase (two : Bool) (s : Shape) (k : Kind) : Type 0 where
  optional : is_repeated_shape s ≡ false → is_optional_field two s k ≡ true → ((r : ℕ) → oneof_of_field two r s k ≡ Some (pos r)) → OneofCase two s k
  member : (o : ℕ) → s ≡ shape.OneofMember o → is_repeated_shape s ≡ false → is_optional_field two s k ≡ false → ((r : ℕ) → oneof_of_field two r s k ≡ Some (pos o)) → OneofCase two s k
  plain : is_optional_field two s k ≡ false → ((r : ℕ) → oneof_of_field two r s k ≡ None) → OneofCase two s k

the_case : (two : Bool) (s : Shape) (k : Kind) → OneofCase two s k
the_case two shape.Explicit k = by (not two && is_none (message_of_kind k)) refl
  where
    by : (b : Bool) → (not two && is_none (message_of_kind k)) ≡ b → OneofCase two shape.Explicit k
    by true is = optional refl is (λ r. ap (λ c. cond c (Some (pos r)) None) is)
    by false is = plain is (λ r. ap (λ c. cond c (Some (pos r)) None) is)
the_case two shape.Implicit k = plain refl (λ r. refl)
the_case two (shape.OneofMember o) k = member o refl refl refl (λ r. refl)
the_case two (shape.List packed) k = plain refl (λ r. refl)
the_case two (shape.Map key) k = plain refl (λ r. refl)

below : (n o : ℕ) (s : Shape) → NamesOneof n s → s ≡ shape.OneofMember o → o < n
below n o s h e = subst (NamesOneof n) e h

true_false : ◌≡◌ {A = Bool} true false → ⊥
true_false e = cc

other_pos : (a b : ℕ) → a ≢ b → int_eq (pos a) (pos b) ≡ false
other_pos a b ne = by (int_eq (pos a) (pos b)) (Decides-int_eq (pos a) (pos b)).0
  where
    plain_same : pos a ≡ pos b → a ≡ b
    plain_same e = cc

    by : (t : Bool) → (t ≡ true → pos a ≡ pos b) → t ≡ false
    by true is = absurd (ne (plain_same (is refl)))
    by false is = refl

other_nat : (a b : ℕ) → a ≢ b → (a == b) ≡ false
other_nat a b ne = by (a == b) (Decides-eqb a b).0
  where
    by : (t : Bool) → (t ≡ true → a ≡ b) → t ≡ false
    by true is = absurd (ne (is refl))
    by false is = refl

less_true : (a b : ℕ) → a < b → nat_lt a b ≡ true
less_true a b h = grind (arith, nat_tests)

both_true : (a b : Bool) → a ≡ true → b ≡ true → (a && b) ≡ true
both_true a b first second = ap (λ x. x && b) first ∙ second

or_false : (a b : Bool) → a ≡ false → b ≡ false → (a || b) ≡ false
or_false a b first second = ap (λ x. x || b) first ∙ second

or_first : (a b : Bool) → a ≡ true → (a || b) ≡ true
or_first a b first = ap (λ x. x || b) first

or_second : (a b : Bool) → b ≡ true → (a || b) ≡ true
or_second true b second = refl
or_second false b second = second

module _ (two : Bool) (ts : Types) (scope : List ℕ) where
  abbrev next : ℕ → FieldView → ℕ
  next s x = cond (is_optional_view two x) (s + 1) s

  next_least : (s : ℕ) (x : FieldView) → s ≤ next s x
  next_least s x = by (is_optional_view two x)
    where
      by : (b : Bool) → s ≤ cond b (s + 1) s
      by true = omega arith
      by false = omega arith

  next_optional : (s : ℕ) (x : FieldView) → is_optional_view two x ≡ true → next s x ≡ s + 1
  next_optional s x is = ap (λ b. cond b (s + 1) s) is

  next_other : (s : ℕ) (x : FieldView) → is_optional_view two x ≡ false → next s x ≡ s
  next_other s x is = ap (λ b. cond b (s + 1) s) is

  -- the index that the synthetic oneof of a field would have
  abbrev pub index_at : ℕ → List FieldView → ℕ → ℕ
  index_at s [] i = s
  index_at s (x ∷ fs) zero = s
  index_at s (x ∷ fs) (suc i) = index_at (next s x) fs i

  index_least : (s : ℕ) (fs : List FieldView) (i : ℕ) → s ≤ index_at s fs i
  index_least s [] i = omega arith
  index_least s (x ∷ fs) zero = omega arith
  index_least s (x ∷ fs) (suc i) = let a = next_least s x in let b = index_least (next s x) fs i in omega (arith, a, b)

  pub declared_with : (s : ℕ) (fs : List FieldView) (i : ℕ) (f : DeclaredField) → slice_get (declared_fields two ts scope s fs) i ≡ Some f → (g : FieldView) × (slice_get fs i ≡ Some g) × (f ≡ declared_field two ts scope (index_at s fs i) g)
  declared_with s [] i f h = absurd (none-some f h)
  declared_with s (g ∷ fs) zero f h = (g, refl, sym (some_same (declared_field two ts scope s g) f h))
  declared_with s (g ∷ fs) (suc i) f h = declared_with (next s g) fs i f h

  abbrev Optionals : List FieldView → ℕ
  Optionals fs = length (filter (is_optional_view two) fs)

  index_bound : (s : ℕ) (fs : List FieldView) (i : ℕ) (g : FieldView) → slice_get fs i ≡ Some g → is_optional_view two g ≡ true → index_at s fs i < s + Optionals fs
  index_bound s [] i g h is = absurd (none-some g h)
  index_bound s (x ∷ fs) zero g h is = counted (ap (is_optional_view two) (some_same x g h) ∙ is)
    where
      counted : is_optional_view two x ≡ true → s < s + length (cond (is_optional_view two x) (x ∷ filter (is_optional_view two) fs) (filter (is_optional_view two) fs))
      counted e =
          let h : s < s + length (x ∷ filter (is_optional_view two) fs) = omega arith in
          subst (λ b. s < s + length (cond b (x ∷ filter (is_optional_view two) fs) (filter (is_optional_view two) fs))) (sym e) h
  index_bound s (x ∷ fs) (suc i) g h is = by (is_optional_view two x) (λ t. index_bound t fs i g h is)
    where
      by : (b : Bool) → ((t : ℕ) → index_at t fs i < t + Optionals fs) → index_at (cond b (s + 1) s) fs i < s + length (cond b (x ∷ filter (is_optional_view two) fs) (filter (is_optional_view two) fs))
      by true again = let h = again (s + 1) in omega (arith, h)
      by false again = again s

  -- COUNTING MEMBERS

  abbrev Shares : ℕ → DeclaredField → Bool
  Shares r h = same_oneof (Some (pos r)) h.oneof

  misses : (r s n : ℕ) (x : FieldView) → NamesOneof n x.shape → n ≤ r → (is_optional_view two x ≡ true → r ≢ s) → Shares r (declared_field two ts scope s x) ≡ false
  misses r s n x named least differ = by (the_case two x.shape x.kind)
    where
      by : OneofCase two x.shape x.kind → same_oneof (Some (pos r)) (oneof_of_field two s x.shape x.kind) ≡ false
      by (optional single is one) = ap (same_oneof (Some (pos r))) (one s) ∙ other_pos r s (differ is)
      by (member o e single is one) = ap (same_oneof (Some (pos r))) (one s) ∙ other_pos r o (λ same. let h = below n o x.shape named e in omega (arith, h, same, least))
      by (plain is none) = ap (same_oneof (Some (pos r))) (none s)

  count_none : (r s n : ℕ) (fs : List FieldView) → AllByRecursion (λ x. NamesOneof n x.shape) fs → n ≤ r → r < s → how_many (Shares r) (declared_fields two ts scope s fs) ≡ 0
  count_none r s n [] named least less = refl
  count_none r s n (x ∷ fs) named least less =
      let rest : how_many (Shares r) (declared_fields two ts scope (next s x) fs) ≡ 0 = count_none r (next s x) n fs named.1 least (let h = next_least s x in omega (arith, h, less)) in
      ap (λ b. cond b 1 0 + how_many (Shares r) (declared_fields two ts scope (next s x) fs)) (misses r s n x named.0 least (λ is. λ same. omega (arith, same, less)))
      ∙ ap (λ m. 0 + m) rest

  count_one : (s n : ℕ) (fs : List FieldView) (i : ℕ) (g : FieldView) → AllByRecursion (λ x. NamesOneof n x.shape) fs → n ≤ s → slice_get fs i ≡ Some g → is_optional_view two g ≡ true → how_many (Shares (index_at s fs i)) (declared_fields two ts scope s fs) ≡ 1
  count_one s n [] i g named least h is = absurd (none-some g h)
  count_one s n (x ∷ fs) zero g named least h is =
      let here : is_optional_view two x ≡ true = ap (is_optional_view two) (some_same x g h) ∙ is in
      ap (λ b. cond b 1 0 + how_many (Shares s) (declared_fields two ts scope (next s x) fs)) (hits here)
      ∙ ap (λ m. 1 + m) (count_none s (next s x) n fs named.1 least (let e = next_optional s x here in omega (arith, e)))
    where
      hits : is_optional_view two x ≡ true → Shares s (declared_field two ts scope s x) ≡ true
      hits here = by (the_case two x.shape x.kind)
        where
          by : OneofCase two x.shape x.kind → same_oneof (Some (pos s)) (oneof_of_field two s x.shape x.kind) ≡ true
          by (optional single so one) = ap (same_oneof (Some (pos s))) (one s) ∙ (Decides-int_eq (pos s) (pos s)).1 refl
          by (member o e single never one) = absurd (true_false (sym here ∙ never))
          by (plain never none) = absurd (true_false (sym here ∙ never))
  count_one s n (x ∷ fs) (suc i) g named least h is =
      let r = index_at (next s x) fs i in
      let low = index_least (next s x) fs i in
      let up = next_least s x in
      ap (λ b. cond b 1 0 + how_many (Shares r) (declared_fields two ts scope (next s x) fs)) (misses r s n x named.0 (omega (arith, low, up, least)) (λ so. λ same. let e = next_optional s x so in omega (arith, e, low, same)))
      ∙ ap (λ m. 0 + m) (count_one (next s x) n fs i g named.1 (omega (arith, up, least)) h is)

  -- SYNTHETIC ONEOFS

  abbrev Synthetic : ℕ → DeclaredField → Bool
  Synthetic o f = f.is_optional && is_member_of o f

  real_apart : (q s : ℕ) (fs : List FieldView) → q < s → list_any (Synthetic q) (declared_fields two ts scope s fs) ≡ false
  real_apart q s [] less = refl
  real_apart q s (x ∷ fs) less =
      or_false (Synthetic q (declared_field two ts scope s x)) (list_any (Synthetic q) (declared_fields two ts scope (next s x) fs)) (by (the_case two x.shape x.kind)) (real_apart q (next s x) fs (let h = next_least s x in omega (arith, h, less)))
    where
      by : OneofCase two x.shape x.kind → Synthetic q (declared_field two ts scope s x) ≡ false
      by (optional single is one) = ap (λ b. b && is_member_of q (declared_field two ts scope s x)) is ∙ ap (λ o. is_member_of q (record (declared_field two ts scope s x) { oneof = o })) (one s) ∙ other_nat s q (λ same. omega (arith, same, less))
      by (member o e single is one) = ap (λ b. b && is_member_of q (declared_field two ts scope s x)) is
      by (plain is none) = ap (λ b. b && is_member_of q (declared_field two ts scope s x)) is

  abbrev Made : ℕ → List FieldView → ℕ → Bool
  Made o fs s = list_any (Synthetic o) (declared_fields two ts scope s fs)

  made_there : (s : ℕ) (fs : List FieldView) (o : ℕ) → s ≤ o → o < s + Optionals fs → list_any (Synthetic o) (declared_fields two ts scope s fs) ≡ true
  made_there s [] o low high = absurd (omega (arith, low, high))
  made_there s (x ∷ fs) o low high = by (the_case two x.shape x.kind) (cases_eq s o) (λ t. made_there t fs o)
    where
      other : is_optional_view two x ≡ false → ((t : ℕ) → t ≤ o → o < t + Optionals fs → Made o fs t ≡ true) → (Synthetic o (declared_field two ts scope s x) || Made o fs (next s x)) ≡ true
      other never again = or_second (Synthetic o (declared_field two ts scope s x)) (Made o fs (next s x)) (ap (Made o fs) (next_other s x never) ∙ again s low (subst (λ b. o < s + length (cond b (x ∷ filter (is_optional_view two) fs) (filter (is_optional_view two) fs))) never high))

      by : OneofCase two x.shape x.kind → (s ≡ o) ⊎ (s ≢ o) → ((t : ℕ) → t ≤ o → o < t + Optionals fs → Made o fs t ≡ true) → (Synthetic o (declared_field two ts scope s x) || Made o fs (next s x)) ≡ true
      by (optional single is one) (inl same) again = or_first (Synthetic o (declared_field two ts scope s x)) (Made o fs (next s x)) (ap (λ b. b && is_member_of o (declared_field two ts scope s x)) is ∙ ap (λ z. is_member_of o (record (declared_field two ts scope s x) { oneof = z })) (one s) ∙ (Decides-eqb s o).1 same)
      by (optional single is one) (inr differ) again =
          let most : o < s + length (x ∷ filter (is_optional_view two) fs) = subst (λ b. o < s + length (cond b (x ∷ filter (is_optional_view two) fs) (filter (is_optional_view two) fs))) is high in
          or_second (Synthetic o (declared_field two ts scope s x)) (Made o fs (next s x)) (ap (Made o fs) (next_optional s x is) ∙ again (s + 1) (omega (arith, low, differ)) (omega (arith, most)))
      by (member p e single never one) eq again = other never again
      by (plain never none) eq again = other never again

  -- a member of a oneof that is declared
  has_member : (s o : ℕ) (fs : List FieldView) → HasMember o fs → list_any (is_member_of o) (declared_fields two ts scope s fs) ≡ true
  has_member s o [] h = absurd h
  has_member s o (x ∷ fs) (inl here) = or_first (is_member_of o (declared_field two ts scope s x)) (list_any (is_member_of o) (declared_fields two ts scope (next s x) fs)) (by x.shape here)
    where
      by : (t : Shape) → IsMemberOf o t → is_member_of o (declared_field two ts scope s (record x { shape = t })) ≡ true
      by (shape.OneofMember p) same = (Decides-eqb p o).1 (sym same)
      by shape.Implicit same = absurd same
      by shape.Explicit same = absurd same
      by (shape.List packed) same = absurd same
      by (shape.Map key) same = absurd same
  has_member s o (x ∷ fs) (inr later) = or_second (is_member_of o (declared_field two ts scope s x)) (list_any (is_member_of o) (declared_fields two ts scope (next s x) fs)) (has_member (next s x) o fs later)

synthetic_member : (o : ℕ) (fs : List DeclaredField) → list_any (λ f. f.is_optional && is_member_of o f) fs ≡ true → list_any (is_member_of o) fs ≡ true
synthetic_member o [] h = h
synthetic_member o (f ∷ fs) h = by f.is_optional (is_member_of o f) h (synthetic_member o fs)
  where
    by : (a b : Bool) → ((a && b) || list_any (λ g. g.is_optional && is_member_of o g) fs) ≡ true → (list_any (λ g. g.is_optional && is_member_of o g) fs ≡ true → list_any (is_member_of o) fs ≡ true) → (b || list_any (is_member_of o) fs) ≡ true
    by true true k again = refl
    by true false k again = again k
    by false true k again = refl
    by false false k again = again k

-- of the indexes below a number none passes a test
none_of_first : (t : ℕ → Bool) (o k : ℕ) (xs : List (List ℕ)) → ((q : ℕ) → q < k + o → t q ≡ false) → list_any (λ e. t e.0) (take o (enumerate_from k xs)) ≡ false
none_of_first t zero k xs none = refl
none_of_first t (suc o) k [] none = refl
none_of_first t (suc o) k (x ∷ xs) none = or_false (t k) (list_any (λ e. t e.0) (take o (enumerate_from (k + 1) xs))) (none k (omega arith)) (none_of_first t o (k + 1) xs (λ q less. none q (omega (arith, less))))

-- THE RULE

rule_of : (head : MessageHead) (f : DeclaredField) (o : Option ℤ) (b : Bool) → f.oneof ≡ o → f.is_optional ≡ b → oneof_of_field_is_right head (record f { oneof = o; is_optional = b }) ≡ true → oneof_of_field_is_right head f ≡ true
rule_of head f o b one is h = ap (λ x. oneof_of_field_is_right head (record f { oneof = x })) one ∙ ap (λ x. oneof_of_field_is_right head (record f { oneof = o; is_optional = x })) is ∙ h

module _ (ts : Types) (pool : IsPool ts) (m : ℕ × MessageView) (there : Stands ts m) where
  abbrev Scope : List ℕ
  Scope = name_at (message_names ts) m.0

  abbrev Two : Bool
  Two = is_proto2 ts.files m.1.file

  abbrev Real : ℕ
  Real = length m.1.oneofs

  named : AllByRecursion (λ x. NamesOneof (length m.1.oneofs) x.shape) m.1.fields
  named = all_at (λ t. AllByRecursion (λ x. NamesOneof (length t.oneofs) x.shape) t.fields) ts.messages m.0 m.1 pool.indexes.members there

  many : length (declared_head ts m.0 m.1).oneofs ≡ Real + length (filter (is_optional_view Two) m.1.fields)
  many = length-append m.1.oneofs (synthetic_names Two m.1.fields) ∙ ap (λ k. Real + k) (length-map (filter (is_optional_view Two) m.1.fields) (λ f. 95 ∷ f.name))

  pub field_oneof : (i : ℕ) (f : DeclaredField) → slice_get (declared_head ts m.0 m.1).fields i ≡ Some f → oneof_of_field_is_right (declared_head ts m.0 m.1) f ≡ true
  field_oneof i f at =
      let from = declared_with Two ts Scope Real m.1.fields i f at in
      subst (λ h. oneof_of_field_is_right (declared_head ts m.0 m.1) h ≡ true) (sym from.2) (by from.0 from.1 (the_case Two from.0.shape from.0.kind))
    where
      by : (g : FieldView) → slice_get m.1.fields i ≡ Some g → OneofCase Two g.shape g.kind → oneof_of_field_is_right (declared_head ts m.0 m.1) (declared_field Two ts Scope (index_at Two ts Scope Real m.1.fields i) g) ≡ true
      by g h (optional single is one) =
          let r = index_at Two ts Scope Real m.1.fields i in
          let less = index_bound Two ts Scope Real m.1.fields i g h is in
          let size = many in
          rule_of (declared_head ts m.0 m.1) (declared_field Two ts Scope r g) (Some (pos r)) true (one r) is
          (both_true (nat_lt r (length (declared_head ts m.0 m.1).oneofs) && not (is_repeated_shape g.shape)) (how_many (Shares Two ts Scope r) (declared_head ts m.0 m.1).fields == 1)
          (both_true (nat_lt r (length (declared_head ts m.0 m.1).oneofs)) (not (is_repeated_shape g.shape)) (less_true r (length (declared_head ts m.0 m.1).oneofs) (omega (arith, less, size))) (ap not single))
          ((Decides-eqb (how_many (Shares Two ts Scope r) (declared_head ts m.0 m.1).fields) 1).1 (count_one Two ts Scope Real Real m.1.fields i g named (omega arith) h is)))
      by g h (member o e single never one) =
          let r = index_at Two ts Scope Real m.1.fields i in
          let less = below Real o g.shape (all_at (λ x. NamesOneof (length m.1.oneofs) x.shape) m.1.fields i g named h) e in
          let size = many in
          rule_of (declared_head ts m.0 m.1) (declared_field Two ts Scope r g) (Some (pos o)) false (one r) never
          (both_true (nat_lt o (length (declared_head ts m.0 m.1).oneofs) && not (is_repeated_shape g.shape)) true
          (both_true (nat_lt o (length (declared_head ts m.0 m.1).oneofs)) (not (is_repeated_shape g.shape)) (less_true o (length (declared_head ts m.0 m.1).oneofs) (omega (arith, less, size))) (ap not single))
          refl)
      by g h (plain never none) =
          let r = index_at Two ts Scope Real m.1.fields i in
          rule_of (declared_head ts m.0 m.1) (declared_field Two ts Scope r g) None false (none r) never refl

  pub oneof_right : (o : ℕ) (name : List ℕ) → slice_get (declared_head ts m.0 m.1).oneofs o ≡ Some name → oneof_is_right (declared_head ts m.0 m.1) o ≡ true
  oneof_right o name at = by (cases_lt o Real)
    where
      by : (o < Real) ⊎ (Real ≤ o) → oneof_is_right (declared_head ts m.0 m.1) o ≡ true
      by (inl real) =
          both_true (list_any (is_member_of o) (declared_head ts m.0 m.1).fields) (is_synthetic (declared_head ts m.0 m.1) o || not (list_any (λ e. is_synthetic (declared_head ts m.0 m.1) e.0) (take o (enumerate_from 0 (declared_head ts m.0 m.1).oneofs))))
          (has_member Two ts Scope Real o m.1.fields (all_at EachOneofHasMember ts.messages m.0 m.1 pool.fields.oneofs there o real))
          (or_second (is_synthetic (declared_head ts m.0 m.1) o) (not (list_any (λ e. is_synthetic (declared_head ts m.0 m.1) e.0) (take o (enumerate_from 0 (declared_head ts m.0 m.1).oneofs))))
          (ap not (none_of_first (is_synthetic (declared_head ts m.0 m.1)) o 0 (declared_head ts m.0 m.1).oneofs (λ q less. real_apart Two ts Scope q Real m.1.fields (omega (arith, less, real))))))
      by (inr made) =
          let size = many in
          let within = slice_get_within (declared_head ts m.0 m.1).oneofs o name at in
          let is : is_synthetic (declared_head ts m.0 m.1) o ≡ true = made_there Two ts Scope Real m.1.fields o made (omega (arith, size, within)) in
          both_true (list_any (is_member_of o) (declared_head ts m.0 m.1).fields) (is_synthetic (declared_head ts m.0 m.1) o || not (list_any (λ e. is_synthetic (declared_head ts m.0 m.1) e.0) (take o (enumerate_from 0 (declared_head ts m.0 m.1).oneofs))))
          (synthetic_member o (declared_head ts m.0 m.1).fields is)
          (or_first (is_synthetic (declared_head ts m.0 m.1) o) (not (list_any (λ e. is_synthetic (declared_head ts m.0 m.1) e.0) (take o (enumerate_from 0 (declared_head ts m.0 m.1).oneofs)))) is)

  -- a oneof of the message is not synthetic, and each after those is
  pub real_oneof : (o : ℕ) → o < length m.1.oneofs → is_synthetic (declared_head ts m.0 m.1) o ≡ false
  real_oneof o real = real_apart Two ts Scope o Real m.1.fields real

  pub made_oneof : (o : ℕ) → length m.1.oneofs ≤ o → o < length (declared_head ts m.0 m.1).oneofs → is_synthetic (declared_head ts m.0 m.1) o ≡ true
  made_oneof o made within = let size = many in made_there Two ts Scope Real m.1.fields o made (omega (arith, size, within))
