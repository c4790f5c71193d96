-- What the proofs of look-ups use.
use Rattle.std.proofs.Common.{◌≡◌, ◌≢◌, ℕ, zero, suc, ◌+◌, ◌<◌, ◌≤◌, get_or, MatchOption, List, [], ◌∷◌, Bool, true, false, cond, map, length, refl, sym, ◌∙◌, ap, subst, arith, nat_lt, eqb, Option, Some, None, option_map, IfSome, find, position, Bor}
use Rattle.std.specs.Prelude.{slice_get}
use Rattle.std.specs.List.{AllByRecursion, flat_map, position_or_len, prefix_len, HoldsAt}
use Rattle.std.specs.Str.{bytes_eq}
use Rattle.std.proofs.lemmas.Bool.Decides.{Decides-eqb}
use Rattle.std.proofs.lemmas.Slice.Eq.{bytes_eq-Decides}
use Rattle.std.proofs.lemmas.List.{length-map}
use Rattle.std.proofs.lemmas.List.Folds.{find_at}
use Rattle.pb_schema.specs.declared.types.Field.{Field}
use Rattle.pb_schema.specs.View.{field_view}
use Rattle.pb_schema.specs.Types.{FieldView, MessageView, EnumView, Types, message_fields, fields_of_message, field_numbered}
use Rattle.pb_names.specs.NameSets.{names_in}
use Rattle.pb_schema.specs.declared.names.set.AddedNames.{AddedNames}
use Rattle.pb_schema.specs.Nesting.{ParentsStandBefore}
use Rattle.pb_schema.specs.Names.{AllDiffer, in_scope, scope_of, scope_by_names, message_name, enum_name, message_names, enum_names, names_in_message, declared_by_message, declared_by_enum}
use Rattle.pb_schema.specs.Names.Set.{IsSetOf}
use Rattle.pb_schema.specs.Tables.{IsNumbered, place_of, field_named}
use Rattle.pb_schema.specs.Rules.{IsPool, IsFieldOf, NamesOneof}
use Rattle.pb_schema.proofs.NameSetLemmas.{all_back, AllDiffer-front, AllDiffer-back}
use Rattle.pb_schema.proofs.NameLemmas.{scope_of-names}
use Rattle.pb_schema.proofs.OrderLemmas.{parents_before}

some_same : {X : Type 0} {x y : X} {o : Option X} → o ≡ Some x → o ≡ Some y → x ≡ y
some_same p q = cc

none_some : {X : Type 0} {x : X} → ◌≡◌ {A = Option X} None (Some x) → ⊥
none_some p = cc

-- NUMBERS

all_get : {X Y : Type 0} (P : Y → Type 0) (h : X → Y) (xs : List X) (i : ℕ) (x : X) → AllByRecursion P (map h xs) → slice_get xs i ≡ Some x → P (h x)
all_get P h [] i x all e = absurd (none_some e)
all_get P h (y ∷ ys) zero x all e = subst (λ z. P (h z)) (some_same refl e) all.0
all_get P h (y ∷ ys) (suc i) x all e = all_get P h ys i x all.1 e

test_true : (m n : ℕ) → m ≡ n → eqb m n ≡ true
test_true m n e = (Decides-eqb m n).1 e

test_false : (b : Bool) → (b ≡ true → ⊥) → b ≡ false
test_false true h = absurd (h refl)
test_false false h = refl

pub found_at : (n : ℕ) (fs : List FieldView) (i : ℕ) (f : FieldView) → AllDiffer (map (λ g. g.number) fs) → slice_get fs i ≡ Some f → f.number ≡ n → field_numbered n fs ≡ Some f
found_at n [] i f differ at is = absurd (none_some at)
found_at n (g ∷ gs) zero f differ at is =
    let same : g ≡ f = some_same refl at in
    ap (λ b. cond b (Some g) (field_numbered n gs)) (test_true g.number n (ap (λ (x : FieldView). x.number) same ∙ is)) ∙ at
found_at n (g ∷ gs) (suc i) f differ at is =
    let other : g.number ≢ f.number = all_get (λ m. g.number ≢ m) (λ (x : FieldView). x.number) gs i f differ.0 at in
    ap (λ b. cond b (Some g) (field_numbered n gs)) (test_false (eqb g.number n) (λ t. other ((Decides-eqb g.number n).0 t ∙ sym is))) ∙ found_at n gs i f differ.1 at is

pub found_none : (n : ℕ) (fs : List FieldView) → ((i : ℕ) → ¬ IsNumbered fs n i) → field_numbered n fs ≡ None
found_none n [] none = refl
found_none n (g ∷ gs) none =
    ap (λ b. cond b (Some g) (field_numbered n gs)) (test_false (eqb g.number n) (λ t. none zero (ap Some ((Decides-eqb g.number n).0 t)))) ∙ found_none n gs (λ i h. none (suc i) h)

pub get_viewed : {X Y : Type 0} (view : X → Y) (xs : List X) (i : ℕ) (x : X) → i < length xs → x ≡ get_or xs i x → slice_get (map view xs) i ≡ Some (view x)
get_viewed view [] i x h is = absurd (omega (arith, h))
get_viewed view (y ∷ ys) zero x h is = ap (λ z. Some (view z)) (sym is)
get_viewed view (y ∷ ys) (suc i) x h is = get_viewed view ys i x (omega (arith, h)) is

pub get_map : (fs : List Field) (i : ℕ) (f : Field) → i < length fs → f ≡ get_or fs i f → slice_get (map field_view fs) i ≡ Some (field_view f)
get_map fs i f h is = get_viewed field_view fs i f h is

get_past : (fs : List Field) (i : ℕ) → length fs ≤ i → slice_get (map field_view fs) i ≡ None
get_past [] i h = refl
get_past (g ∷ gs) zero h = absurd (omega (arith, h))
get_past (g ∷ gs) (suc i) h = get_past gs i (omega (arith, h))

pub place_read : (fs : List Field) (i : ℕ) (r : Option (Bor Field)) → MatchOption r (length fs ≤ i) (λ x. (i < length fs) × HoldsAt (λ y. x.now ≡ y) fs i) → MatchOption r (length fs ≤ i) (λ x. (i < length fs) × (x.now ≡ get_or fs i x.now))
place_read fs i None h = h
place_read fs i (Some x) h = (h.0, h.1 x.now)

-- what a read at the place of a number gives
pub found_place : (n : ℕ) (fs : List Field) (i : ℕ) (r : Option (Bor Field)) → AllDiffer (map (λ (g : FieldView). g.number) (map field_view fs)) → IsNumbered (map field_view fs) n i → MatchOption r (length fs ≤ i) (λ x. (i < length fs) × (x.now ≡ get_or fs i x.now)) → field_numbered n (map field_view fs) ≡ option_map (λ f. field_view f.now) r
found_place n fs i None differ has past = absurd (none_some (ap (λ o. option_map (λ (f : FieldView). f.number) o) (sym (get_past fs i past)) ∙ has))
found_place n fs i (Some x) differ has here =
    let at = get_map fs i x.now here.0 here.1 in
    let number : x.now.number ≡ n = some_same refl (ap (λ o. option_map (λ (f : FieldView). f.number) o) (sym at) ∙ has) in
    found_at n (map field_view fs) i (field_view x.now) differ at number

-- RULES OF A FIELD THAT WAS FOUND

all_found : (P : FieldView → Type 0) (test : FieldView → Bool) (fs : List FieldView) (f : FieldView) → AllByRecursion P fs → find test fs ≡ Some f → P f
all_found P test [] f all e = absurd (none_some e)
all_found P test (g ∷ gs) f all e = by_test (test g) (all_found P test gs f all.1) e
  where
    by_test : (b : Bool) → (find test gs ≡ Some f → P f) → cond b (Some g) (find test gs) ≡ Some f → P f
    by_test true later e = subst P (some_same refl e) all.0
    by_test false later e = later e

pub at_message : (P : MessageView → Type 0) (ms : List MessageView) (m : ℕ) (t : MessageView) → AllByRecursion P ms → slice_get ms m ≡ Some t → P t
at_message P [] m t all e = absurd (none_some e)
at_message P (s ∷ ss) zero t all e = subst P (some_same refl e) all.0
at_message P (s ∷ ss) (suc m) t all e = at_message P ss m t all.1 e

pub found_field : (ts : Types) (m : ℕ) (test : FieldView → Bool) (f : FieldView) → IsPool ts → find test (message_fields ts m) ≡ Some f → IsFieldOf ts m f
found_field ts m test f ok e = by_message (slice_get ts.messages m) refl
  where
    by_message : (o : Option MessageView) → slice_get ts.messages m ≡ o → IsFieldOf ts m f
    by_message None is = absurd (none_some (ap (λ o. find test (fields_of_message o)) (sym is) ∙ e))
    by_message (Some t) is =
        let here : find test t.fields ≡ Some f = ap (λ o. find test (fields_of_message o)) (sym is) ∙ e in
        record {
          number = all_found _ test t.fields f (at_message _ ts.messages m t ok.fields.shapes.numbers is) here;
          kind = all_found _ test t.fields f (at_message _ ts.messages m t ok.indexes.kinds is) here;
          oneof = subst (λ o. IfSome o (λ s. NamesOneof (length s.oneofs) f.shape)) (sym is) (all_found (λ g. NamesOneof (length t.oneofs) g.shape) test t.fields f (at_message _ ts.messages m t ok.indexes.members is) here);
          key = all_found _ test t.fields f (at_message _ ts.messages m t ok.fields.shapes.keys is) here;
          packed = all_found _ test t.fields f (at_message _ ts.messages m t ok.fields.shapes.packed is) here;
          implicit = all_found _ test t.fields f (at_message _ ts.messages m t ok.fields.shapes.implicit is) here;
          value = all_found _ test t.fields f (at_message _ ts.messages m t ok.fields.shapes.values is) here;
        }

pub found_rules : (ts : Types) (m : ℕ) (test : FieldView → Bool) (r : Option (Bor Field)) → IsPool ts → option_map (λ f. field_view f.now) r ≡ find test (message_fields ts m) → IfSome r (λ f. IsFieldOf ts m (field_view f.now))
found_rules ts m test None ok e = tt
found_rules ts m test (Some f) ok e = found_field ts m test (field_view f.now) ok (sym e)

-- NAMES

all_firsts : {X Y : Type 0} (P : Y → Type 0) (f : X → Y) (g : X → List Y) (xs : List X) → AllByRecursion P (flat_map (λ x. f x ∷ g x) xs) → AllByRecursion P (map f xs)
all_firsts P f g [] all = tt
all_firsts P f g (x ∷ xs) all = (all.0, all_firsts P f g xs (all_back P (g x) (flat_map (λ y. f y ∷ g y) xs) all.1))

pub AllDiffer-firsts : {X Y : Type 0} (f : X → Y) (g : X → List Y) (xs : List X) → AllDiffer (flat_map (λ x. f x ∷ g x) xs) → AllDiffer (map f xs)
AllDiffer-firsts f g [] all = tt
AllDiffer-firsts f g (x ∷ xs) all =
    (all_firsts (λ y. f x ≢ y) f g xs (all_back (λ y. f x ≢ y) (g x) (flat_map (λ y. f y ∷ g y) xs) all.0), AllDiffer-firsts f g xs (AllDiffer-back (g x) (flat_map (λ y. f y ∷ g y) xs) all.1))

-- TABLES

pub pool_message_names : (ts : Types) → IsPool ts → AllDiffer (message_names ts)
pool_message_names ts ok =
    AllDiffer-firsts (message_name ts.files ts.messages) (λ t. map (in_scope (message_name ts.files ts.messages t)) (names_in_message t)) ts.messages (AllDiffer-front (flat_map (declared_by_message ts.files ts.messages) ts.messages) (flat_map (declared_by_enum ts.files ts.messages) ts.enums) ok.names.names_differ)

pub pool_enum_names : (ts : Types) → IsPool ts → AllDiffer (enum_names ts)
pool_enum_names ts ok =
    AllDiffer-firsts (enum_name ts.files ts.messages) (λ (e : EnumView). map (in_scope (scope_of ts.files ts.messages e.file e.parent)) (map (λ v. v.0) e.values)) ts.enums (AllDiffer-back (flat_map (declared_by_message ts.files ts.messages) ts.messages) (flat_map (declared_by_enum ts.files ts.messages) ts.enums) ok.names.names_differ)

pub pool_parents : (ts : Types) (n : ℕ) → IsPool ts → ParentsStandBefore ts.messages n
pool_parents ts n ok = parents_before ts.messages n (λ i _. ok.messages_in_order.1 i)

pub enum_names_by : (ts : Types) (names : List (List ℕ)) → IsPool ts → names ≡ message_names ts → map (λ e. in_scope (scope_by_names ts.files names e.file e.parent) e.name) ts.enums ≡ enum_names ts
enum_names_by ts names ok same = each ts.enums
  where
    one : (e : EnumView) → in_scope (scope_by_names ts.files names e.file e.parent) e.name ≡ enum_name ts.files ts.messages e
    one e = ap (λ s. in_scope s e.name) (ap (λ l. scope_by_names ts.files l e.file e.parent) same ∙ sym (scope_of-names ts.files ts.messages e.file e.parent (pool_parents ts (length ts.messages) ok)))

    each : (es : List EnumView) → map (λ e. in_scope (scope_by_names ts.files names e.file e.parent) e.name) es ≡ map (enum_name ts.files ts.messages) es
    each [] = refl
    each (e ∷ es) = ap (λ n. n ∷ map (λ d. in_scope (scope_by_names ts.files names d.file d.parent) d.name) es) (one e) ∙ ap (λ l. enum_name ts.files ts.messages e ∷ l) (each es)

-- NAMES IN SETS

pub set_of_messages : (ts : Types) (names : List (List ℕ)) (added : AddedNames) → IsPool ts → names ≡ message_names ts → IsSetOf names added → names_in added.set ≡ message_names ts
set_of_messages ts names added ok same is = is.ordered (is.differ.1 (subst AllDiffer (sym same) (pool_message_names ts ok))) ∙ same

pub set_of_enums : (ts : Types) (names : List (List ℕ)) (added : AddedNames) → IsPool ts → names ≡ enum_names ts → IsSetOf names added → names_in added.set ≡ enum_names ts
set_of_enums ts names added ok same is = is.ordered (is.differ.1 (subst AllDiffer (sym same) (pool_enum_names ts ok))) ∙ same

-- FIELDS BY NAME

both_ways : (a b : Bool) → (a ≡ true → b ≡ true) → (b ≡ true → a ≡ true) → a ≡ b
both_ways true b there back = sym (there refl)
both_ways false b there back = sym (test_false b (λ h. bool_differ (back h)))
  where
    bool_differ : false ≡ true → ⊥
    bool_differ e = cc

bytes_eq-sym : (xs ys : List ℕ) → bytes_eq xs ys ≡ bytes_eq ys xs
bytes_eq-sym xs ys = both_ways (bytes_eq xs ys) (bytes_eq ys xs) (λ e. (bytes_eq-Decides ys xs).1 (sym ((bytes_eq-Decides xs ys).0 e))) (λ e. (bytes_eq-Decides xs ys).1 (sym ((bytes_eq-Decides ys xs).0 e)))

flipped : (name : List ℕ) (fs : List FieldView) → field_named name fs ≡ find (λ f. bytes_eq name f.name) fs
flipped name [] = refl
flipped name (f ∷ fs) = ap (λ b. cond b (Some f) (field_named name fs)) (bytes_eq-sym f.name name) ∙ ap (λ o. cond (bytes_eq name f.name) (Some f) o) (flipped name fs)

-- a field is found at the place of its name
pub named_at : (name : List ℕ) (fs : List FieldView) → field_named name fs ≡ slice_get fs (position_or_len (λ f. bytes_eq name f.name) fs)
named_at name fs = flipped name fs ∙ find_at (λ (f : FieldView). bytes_eq name f.name) fs

pub place_some : {X : Type 0} (t : X → Bool) (xs : List X) (i : ℕ) → position t xs ≡ Some i → position_or_len t xs ≡ i
place_some t xs i e = by_test (nat_lt (position_or_len t xs) (length xs)) e
  where
    by_test : (b : Bool) → cond b (Some (position_or_len t xs)) None ≡ Some i → position_or_len t xs ≡ i
    by_test true e = some_same refl e
    by_test false e = absurd (none_some e)

pub place_none : {X : Type 0} (t : X → Bool) (xs : List X) → position t xs ≡ None → length xs ≤ position_or_len t xs
place_none t xs e = by_test (nat_lt (position_or_len t xs) (length xs)) refl e
  where
    by_test : (b : Bool) → nat_lt (position_or_len t xs) (length xs) ≡ b → cond b (Some (position_or_len t xs)) None ≡ None → length xs ≤ position_or_len t xs
    by_test true is e = absurd (none_some (sym e))
    by_test false is e = grind arith

-- what a read at the place of a name gives
pub read_named : (name : List ℕ) (fs : List Field) (n : ℕ) (r : Option (Bor Field)) → position_or_len (λ f. bytes_eq name f.name) (map field_view fs) ≡ n → MatchOption r (length fs ≤ n) (λ x. (n < length fs) × (x.now ≡ get_or fs n x.now)) → option_map (λ f. field_view f.now) r ≡ field_named name (map field_view fs)
read_named name fs n None at past = sym (named_at name (map field_view fs) ∙ ap (slice_get (map field_view fs)) at ∙ get_past fs n past)
read_named name fs n (Some x) at here = sym (named_at name (map field_view fs) ∙ ap (slice_get (map field_view fs)) at ∙ get_map fs n x.now here.0 here.1)

prefix_len-map : {A B : Type 0} (t : B → Bool) (f : A → B) (xs : List A) → prefix_len t (map f xs) ≡ prefix_len (λ x. t (f x)) xs
prefix_len-map t f [] = refl
prefix_len-map t f (x ∷ xs) = ap (λ n. cond (t (f x)) (1 + n) 0) (prefix_len-map t f xs)

position-map : {A B : Type 0} (t : B → Bool) (f : A → B) (xs : List A) → position t (map f xs) ≡ position (λ x. t (f x)) xs
position-map t f xs = simp (prefix_len-map, length-map)

-- the place of a name is that of its field
pub place_by_name : (name : List ℕ) (fs : List FieldView) (names : List (List ℕ)) → names ≡ map (λ f. f.name) fs → position (bytes_eq name) names ≡ position (λ (f : FieldView). bytes_eq name f.name) fs
place_by_name name fs names same = ap (place_of name) same ∙ position-map (bytes_eq name) (λ (f : FieldView). f.name) fs

pub unnamed : (name : List ℕ) (fs : List FieldView) → position (λ (f : FieldView). bytes_eq name f.name) fs ≡ None → field_named name fs ≡ None
unnamed name fs e = named_at name fs ∙ get_outside fs (position_or_len (λ (f : FieldView). bytes_eq name f.name) fs) (place_none (λ (f : FieldView). bytes_eq name f.name) fs e)
  where
    get_outside : (gs : List FieldView) (i : ℕ) → length gs ≤ i → slice_get gs i ≡ None
    get_outside [] i h = refl
    get_outside (g ∷ gs) zero h = absurd (omega (arith, h))
    get_outside (g ∷ gs) (suc i) h = get_outside gs i (omega (arith, h))
