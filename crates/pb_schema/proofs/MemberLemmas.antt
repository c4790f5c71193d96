-- The members of oneofs.
use Rattle.std.proofs.Common.{◌≡◌, ℕ, zero, suc, ◌+◌, ◌<◌, ◌≤◌, ◌⊎◌, inl, inr, ⊎_elim, List, [], ◌∷◌, ◌++◌, map, length, take, get_or, Option, Some, option_map, Vec, Global, Bool, true, false, ◌==◌, if◌then◌else◌, refl, sym, ◌∙◌, ap, subst, arith}
use Rattle.std.specs.Prelude.{slice_get, filter}
use Rattle.std.specs.List.{AllByRecursion}
use Rattle.std.proofs.lemmas.List.{take_more, map-append}
use Rattle.pb_schema.specs.declared.types.Shape.{Shape}
use Rattle.pb_schema.specs.declared.types.Shape.TheVariants as shape
use Rattle.pb_schema.specs.declared.types.Field.{Field}
use Rattle.pb_schema.specs.View.{field_view}
use Rattle.pb_schema.specs.Types.{FieldView, MessageView, Types, message_fields, fields_of_message}
use Rattle.pb_schema.specs.Oneofs.{is_member, members, member_numbers}
use Rattle.pb_schema.specs.Loops.Members.{AddsMember}
use Rattle.pb_schema.specs.Tables.{IsMemberTable, AreMemberTables}
use Rattle.pb_schema.specs.Rules.{NamesOneof, IsPool}
use Rattle.pb_schema.proofs.TableLemmas.{found_table}
use Rattle.pb_schema.proofs.LookupLemmas.{at_message}

-- a list with one more at its end
get_push : {X : Type 0} (xs : List X) (x : X) (o : ℕ) → o < suc (length xs) → ((o < length xs) × (slice_get (xs ++ x ∷ []) o ≡ slice_get xs o)) ⊎ ((o ≡ length xs) × (slice_get (xs ++ x ∷ []) o ≡ Some x))
get_push [] x zero h = inr (refl, refl)
get_push [] x (suc o) h = absurd (omega (arith, h))
get_push (y ∷ ys) x zero h = inl (omega arith, refl)
get_push (y ∷ ys) x (suc o) h =
    ⊎_elim (λ l. inl (let e = l.0 in omega arith, l.1)) (λ r. inr (ap suc r.0, r.1)) (get_push ys x o (omega (arith, h)))

pub no_members-more : (n : ℕ) (table : List (Vec ℕ Global)) (v : Vec ℕ Global) → IsMemberTable n [] table → v.items ≡ [] → (length (table ++ v ∷ []) ≡ suc (length table)) → IsMemberTable (n + 1) [] (table ++ v ∷ [])
no_members-more n table v was none size = record {
  size = omega (arith, size, was.size);
  exact = λ o h. at o (get_push table v o (omega (arith, h, was.size)));
}
  where
    at : (o : ℕ) → ((o < length table) × (slice_get (table ++ v ∷ []) o ≡ slice_get table o)) ⊎ ((o ≡ length table) × (slice_get (table ++ v ∷ []) o ≡ Some v)) → option_map (λ (w : Vec ℕ Global). w.items) (slice_get (table ++ v ∷ []) o) ≡ Some []
    at o (inl l) = ap (option_map (λ (w : Vec ℕ Global). w.items)) l.1 ∙ was.exact o (let e = l.0 in omega (arith, was.size, e))
    at o (inr r) = ap (option_map (λ (w : Vec ℕ Global). w.items)) r.1 ∙ ap (λ ns. Some ns) none

-- one more field
chosen_push : (p : FieldView → Bool) (fs : List FieldView) (f : FieldView) → map (λ (g : FieldView). g.number) (filter p (fs ++ f ∷ [])) ≡ (if p f then map (λ (g : FieldView). g.number) (filter p fs) ++ f.number ∷ [] else map (λ (g : FieldView). g.number) (filter p fs))
chosen_push p [] f = by_test (p f)
  where
    by_test : (b : Bool) → map (λ (g : FieldView). g.number) (if b then f ∷ [] else []) ≡ (if b then [] ++ f.number ∷ [] else [])
    by_test true = refl
    by_test false = refl
chosen_push p (g ∷ gs) f = by_tests (p g) (p f) (chosen_push p gs f)
  where
    rest : List ℕ
    rest = map (λ (h : FieldView). h.number) (filter p gs)

    more : List FieldView
    more = filter p (gs ++ f ∷ [])

    by_tests : (a b : Bool) → map (λ (h : FieldView). h.number) more ≡ (if b then rest ++ f.number ∷ [] else rest) → map (λ (h : FieldView). h.number) (if a then g ∷ more else more) ≡ (if b then map (λ (h : FieldView). h.number) (if a then g ∷ filter p gs else filter p gs) ++ f.number ∷ [] else map (λ (h : FieldView). h.number) (if a then g ∷ filter p gs else filter p gs))
    by_tests true true e = ap (λ l. g.number ∷ l) e
    by_tests true false e = ap (λ l. g.number ∷ l) e
    by_tests false true e = e
    by_tests false false e = e

IsMemberTable-push : (n : ℕ) (fs : List FieldView) (f : FieldView) (a b : List (Vec ℕ Global)) → IsMemberTable n fs a → AddsMember f a b → IsMemberTable n (fs ++ f ∷ []) b
IsMemberTable-push n fs f a b was adds = record {
  size = adds.size ∙ was.size;
  exact = λ o h. adds.exact o (member_numbers o fs) (was.exact o h) ∙ ap (λ ns. Some ns) (sym (chosen_push (λ (g : FieldView). is_member o g.shape) fs f));
}

pub IsMemberTable-more : (n : ℕ) (xs : List Field) (i : ℕ) (x : Field) (a b : List (Vec ℕ Global)) → i < length xs → x ≡ get_or xs i x → IsMemberTable n (map field_view (take i xs)) a → AddsMember (field_view x) a b → IsMemberTable n (map field_view (take (i + 1) xs)) b
IsMemberTable-more n xs i x a b h is was adds =
    let one_more : take (i + 1) xs ≡ take i xs ++ x ∷ [] = take_more xs i x h ∙ ap (λ y. take i xs ++ y ∷ []) (sym is) in
    let e : map field_view (take (i + 1) xs) ≡ map field_view (take i xs) ++ field_view x ∷ [] = ap (map field_view) one_more ∙ map-append field_view (take i xs) (x ∷ []) in
    subst (λ l. IsMemberTable n l b) (sym e) (IsMemberTable-push n (map field_view (take i xs)) (field_view x) a b was adds)

-- a oneof that no field names has no members
no_member : (o n : ℕ) (s : Shape) → NamesOneof n s → n ≤ o → is_member o s ≡ false
no_member o n (shape.OneofMember p) h l = apart (o == p) refl
  where
    apart : (b : Bool) → (o == p) ≡ b → (o == p) ≡ false
    apart true e = absurd (let same : o ≡ p = grind (arith, e) in omega (arith, h, l, same))
    apart false e = e
no_member o n shape.Implicit h l = refl
no_member o n shape.Explicit h l = refl
no_member o n (shape.List p) h l = refl
no_member o n (shape.Map k) h l = refl

pub no_such_oneof : (o n : ℕ) (fs : List FieldView) → AllByRecursion (λ f. NamesOneof n f.shape) fs → n ≤ o → member_numbers o fs ≡ []
no_such_oneof o n [] all l = refl
no_such_oneof o n (f ∷ fs) all l = ap (λ b. map (λ (g : FieldView). g.number) (if b then f ∷ members o fs else members o fs)) (no_member o n f.shape all.0 l) ∙ no_such_oneof o n fs all.1 l

slice_get-get_or : {X : Type 0} (xs : List X) (i : ℕ) (x : X) → i < length xs → x ≡ get_or xs i x → slice_get xs i ≡ Some x
slice_get-get_or [] i x h is = absurd (omega (arith, h))
slice_get-get_or (y ∷ ys) zero x h is = ap Some (sym is)
slice_get-get_or (y ∷ ys) (suc i) x h is = slice_get-get_or ys i x (omega (arith, h)) is

some_same : {X : Type 0} {x y : X} → ◌≡◌ {A = Option X} (Some x) (Some y) → x ≡ y
some_same p = cc

-- the members at a place of a table
pub members_at : (n : ℕ) (fs : List FieldView) (table : List (Vec ℕ Global)) (o : ℕ) (v : Vec ℕ Global) → IsMemberTable n fs table → o < length table → v ≡ get_or table o v → v.items ≡ member_numbers o fs
members_at n fs table o v is h at =
    some_same (ap (option_map (λ (w : Vec ℕ Global). w.items)) (sym (slice_get-get_or table o v h at)) ∙ is.exact o (omega (arith, h, is.size)))

-- what a look-up of a oneof's members finds
of_message : (ts : Types) (m o : ℕ) (t : MessageView) → slice_get ts.messages m ≡ Some t → member_numbers o t.fields ≡ member_numbers o (message_fields ts m)
of_message ts m o t at = ap (λ r. member_numbers o (fields_of_message r)) (sym at)

pub found_members : (ts : Types) (m o : ℕ) (tables : List (Vec (Vec ℕ Global) Global)) (table : Vec (Vec ℕ Global) Global) (v : Vec ℕ Global) → AreMemberTables ts.messages tables → m < length ts.messages → table ≡ get_or tables m table → o < length table.items → v ≡ get_or table.items o v → v.items ≡ member_numbers o (message_fields ts m)
found_members ts m o tables table v are within at h is =
    let t = found_table (λ (s : MessageView) (n : Vec (Vec ℕ Global) Global). IsMemberTable (length s.oneofs) s.fields n.items) ts.messages tables m table are within at in
    members_at (length t.0.oneofs) t.0.fields table.items o v t.2 h is ∙ of_message ts m o t.0 t.1

pub found_no_oneof : (ts : Types) (m o : ℕ) (tables : List (Vec (Vec ℕ Global) Global)) (table : Vec (Vec ℕ Global) Global) → IsPool ts → AreMemberTables ts.messages tables → m < length ts.messages → table ≡ get_or tables m table → length table.items ≤ o → [] ≡ member_numbers o (message_fields ts m)
found_no_oneof ts m o tables table ok are within at h =
    let t = found_table (λ (s : MessageView) (n : Vec (Vec ℕ Global) Global). IsMemberTable (length s.oneofs) s.fields n.items) ts.messages tables m table are within at in
    let none = no_such_oneof o (length t.0.oneofs) t.0.fields (at_message (λ (s : MessageView). AllByRecursion (λ f. NamesOneof (length s.oneofs) f.shape) s.fields) ts.messages m t.0 ok.indexes.members t.1) (let size = t.2.size in omega (arith, h, size)) in
    sym none ∙ of_message ts m o t.0 t.1
