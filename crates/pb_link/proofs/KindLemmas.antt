-- Where no rule fails: the types of fields are types of the pool, which are seen, and keys are of key kinds.
use Rattle.std.proofs.Common.{◌≡◌, ℕ, ℤ, pos, negsuc, zero, suc, ◌+◌, ◌<◌, ⊎_elim, List, [], ◌∷◌, Bool, true, false, not, ◌&&◌, ◌==◌, length, refl, sym, ap, ◌∙◌, subst, arith, Option, Some, None, IfSome}
use Rattle.std.specs.Prelude.{slice_get, filter, filter_map, nat_lt, if◌then◌else◌, cond, take, position, option_and_then, is_some}
use Rattle.std.specs.List.{AllByRecursion, cons_option, position_or_len}
use Rattle.std.specs.Option.{option_map_or}
use Rattle.std.proofs.lemmas.Bool.{false≢true}
use Rattle.std.proofs.lemmas.Bool.Decides.{nat_tests}
use Rattle.std.proofs.lemmas.Option.{none-some}
use Rattle.pb_schema.specs.declared.types.Kind.{Kind}
use Rattle.pb_schema.specs.declared.types.Kind.TheVariants as kind
use Rattle.pb_schema.specs.Kinds.{is_key_kind}
use Rattle.pb_schema.specs.Imports.{IsSeen}
use Rattle.pb_schema.specs.Types.{FieldView, MessageView, EnumView, Types}
use Rattle.pb_schema.specs.Rules.{KindsNameTypes, NamesType, TypesAreSeen, TypeIsSeen, KeysAreKeyKinds, HasKeyKind}
use Rattle.pb_declarations.specs.declared.decl.TypeCode.{TypeCode}
use Rattle.pb_declarations.specs.declared.decl.TypeCode.TheVariants as code
use Rattle.pb_declarations.specs.Decls.{DeclaredField, DeclaredEnum, MessageHead, DeclaredMessages, DeclaredFile}
use Rattle.pb_link_names.specs.Sees.{files_of}
use Rattle.pb_link_names.specs.Declarations.{Item, a_file, a_message, a_field, an_enum, Declaration, full_name, is_type, has_name}
use Rattle.pb_link_names.specs.Lookup.{Found, found, not_found, not_visible, not_a_type, looked_up, type_found, type_named, decided_name, unless_found, every_file, is_no_type}
use Rattle.pb_link_rules.specs.Rules.{World, item_of, is_entry, is_enum, is_field, place_found, is_key_code, is_no_entry, passes, is_message_type, is_two, is_group}
use Rattle.pb_link_rules.specs.Link.{NothingFails, IsWorldOf}
use Rattle.pb_link.specs.PoolOf.{message_type, enum_type, message_index, enum_index, kind_of_code, kind_by_item, message_of_head, parent_type, type_place, kind_by_place, kind_of_field, entry_of, entry_declared, entry_by_item, field_type, field_by_entry, list_shape, singular_shape, pool_of, kind_at, kind_declared, enum_kind, group_of, grouped}
use Rattle.pb_link_names.proofs.BehindLemmas.{StandsBehind}
use Rattle.pb_link_rules.proofs.ThereLemmas.{built, some_same, and_left, and_right, all_mapped, field_there}
use Rattle.pb_link.proofs.TypeLemmas.{each_message}
use Rattle.pb_link.proofs.SeenLemmas.{seen-reached}
use Rattle.pb_schema.specs.Names.{in_scope}
use Rattle.pb_link.proofs.EntryLemmas.{told_if, UsesEntry, entry_used, HasParts, right_entry}

-- LOOKING UP

abbrev PassesAt : {X : Type 0} → (X → Bool) → List X → ℕ → Type 0
PassesAt {X = X} p xs q = (x : X) × (slice_get xs q ≡ Some x) × (p x ≡ true)

first_or_later : {X : Type 0} (p : X → Bool) (y : X) (ys : List X) (n : ℕ) (b : Bool) → p y ≡ b → (n < length ys → PassesAt p ys n) → cond (not b) (1 + n) 0 < length (y ∷ ys) → PassesAt p (y ∷ ys) (cond (not b) (1 + n) 0)
first_or_later p y ys n true same later less = (y, refl, same)
first_or_later p y ys n false same later less =
    let more : 1 + n ≡ suc n = omega arith in
    let rest = later (omega (arith, less)) in
    (rest.0, ap (slice_get (y ∷ ys)) more ∙ rest.1, rest.2)

position_at : {X : Type 0} (p : X → Bool) (xs : List X) → position_or_len p xs < length xs → PassesAt p xs (position_or_len p xs)
position_at p [] less = absurd (omega (arith, less))
position_at p (y ∷ ys) less = first_or_later p y ys (position_or_len p ys) (p y) refl (position_at p ys) less

-- the position of an element is of one that passes
position_passes : {X : Type 0} (p : X → Bool) (xs : List X) (q : ℕ) → position p xs ≡ Some q → PassesAt p xs q
position_passes {X = X} p xs q h = by_test (position_or_len p xs) (nat_lt (position_or_len p xs) (length xs)) refl (position_at p xs) h
  where
    below : (a b : ℕ) → nat_lt a b ≡ true → a < b
    below a b e = grind (arith, nat_tests)

    by_test : (n : ℕ) (b : Bool) → nat_lt n (length xs) ≡ b → (n < length xs → PassesAt p xs n) → cond b (Some n) None ≡ Some q → PassesAt p xs q
    by_test n false less at h = absurd (none-some q h)
    by_test n true less at h = subst (PassesAt p xs) (some_same n q h) (at (below n (length xs) less))

-- what a file sees of a type's name is a seen type
pub record IsFound (w : World) (file q : ℕ) : Type 0 where
  pub declared : Declaration
  pub there : slice_get w.declared q ≡ Some declared
  pub is_type : is_type declared.item ≡ true
  pub seen : w.sight.sees file declared.file ≡ true

pub found_type : (w : World) (file : ℕ) (scope : List ℕ) (f : DeclaredField) (q : ℕ) → type_place w file scope f ≡ Some q → IsFound w file q
found_type w file scope f q h = by_name f.type_name h
  where
    by_decided : (o : Option (List ℕ)) → option_and_then (type_named w.declared (w.sight.sees file)) o ≡ Some q → IsFound w file q
    by_decided None h = absurd (none-some q h)
    by_decided (Some name) h =
        let at = position_passes (λ d. is_type d.item && w.sight.sees file d.file && has_name name d) w.declared q h in
        let front = and_left (is_type at.0.item && w.sight.sees file at.0.file) (has_name name at.0) at.2 in
        record { declared = at.0; there = at.1; is_type = and_left (is_type at.0.item) (w.sight.sees file at.0.file) front; seen = and_right (is_type at.0.item) (w.sight.sees file at.0.file) front }

    by_found : (name : List ℕ) (o : Option ℕ) (a b : Bool) → type_found w.declared (w.sight.sees file) scope name ≡ o → place_found (unless_found o (if a then not_visible else (if b then not_a_type else not_found))) ≡ Some q → IsFound w file q
    by_found name (Some p) a b is h = by_decided (decided_name w.declared (w.sight.sees file) scope name) (is ∙ h)
    by_found name None true b is h = absurd (none-some q h)
    by_found name None false true is h = absurd (none-some q h)
    by_found name None false false is h = absurd (none-some q h)

    by_name : (o : Option (List ℕ)) → type_place w file scope (record f { type_name = o }) ≡ Some q → IsFound w file q
    by_name None h = absurd (none-some q h)
    by_name (Some name) h = by_found name (type_found w.declared (w.sight.sees file) scope name) (is_some (type_found w.declared every_file scope name)) (is_no_type w.declared (w.sight.sees file) scope name) refl h

-- INDEXES OF TYPES

-- what a list gives at an element comes after as much as elements before it give
pub index_there : {X Y : Type 0} (t : X → Bool) (h : X → Option Y) → ((x : X) → t x ≡ is_some (h x)) → (xs : List X) (p : ℕ) (x : X) (y : Y) → slice_get xs p ≡ Some x → h x ≡ Some y → slice_get (filter_map h xs) (length (filter t (take p xs))) ≡ Some y
index_there t h agree [] p x y there gives = absurd (none-some x there)
index_there t h agree (z ∷ zs) zero x y there gives = ap (λ o. slice_get (cons_option o (filter_map h zs)) 0) (ap h (some_same z x there) ∙ gives)
index_there {Y = Y} t h agree (z ∷ zs) (suc p) x y there gives = step (t z) (h z) (agree z) (index_there t h agree zs p x y there gives)
  where
    step : (b : Bool) (o : Option Y) → b ≡ is_some o → slice_get (filter_map h zs) (length (filter t (take p zs))) ≡ Some y → slice_get (cons_option o (filter_map h zs)) (length (cond b (z ∷ filter t (take p zs)) (filter t (take p zs)))) ≡ Some y
    step true (Some v) same rest = rest
    step true None same rest = absurd (false≢true (sym same))
    step false (Some v) same rest = absurd (false≢true same)
    step false None same rest = rest

get-less : {X : Type 0} (xs : List X) (i : ℕ) (x : X) → slice_get xs i ≡ Some x → i < length xs
get-less [] i x h = absurd (none-some x h)
get-less (y ∷ xs) zero x h = omega arith
get-less (y ∷ xs) (suc i) x h = omega (arith, get-less xs i x h)

pub is_a_message : (w : World) (d : Declaration) → is_message_type d.item ≡ is_some (message_type w d)
is_a_message w d = by_item d.item
  where
    by_item : (it : Item) → is_message_type it ≡ is_some (message_type w (record d { item = it }))
    by_item (a_message head inner) = by_mark (message_of_head w (record d { item = a_message head inner }) head) head.is_entry
      where
        by_mark : (m : MessageView) (b : Bool) → not b ≡ is_some (if b then None else Some m)
        by_mark m true = refl
        by_mark m false = refl
    by_item (a_file f) = refl
    by_item it = refl

pub an_enum_type : (w : World) (d : Declaration) → is_enum d.item ≡ is_some (enum_type w d)
an_enum_type w d = by_item d.item
  where
    by_item : (it : Item) → is_enum it ≡ is_some (enum_type w (record d { item = it }))
    by_item (an_enum e) = refl
    by_item (a_file f) = refl
    by_item it = refl

-- the message at a place, no entry, is the type at its index, and of its file
pub message_there : (files : List DeclaredFile) (w : World) (q file parent : ℕ) (scope : List ℕ) (head : MessageHead) (inner : DeclaredMessages) → slice_get w.declared q ≡ Some (record { file = file; parent = parent; scope = scope; item = a_message head inner }) → head.is_entry ≡ false → (t : MessageView) × (slice_get (pool_of files w).messages (message_index w q) ≡ Some t) × (t.file ≡ file)
message_there files w q file parent scope head inner there plain =
    let d : Declaration = record { file = file; parent = parent; scope = scope; item = a_message head inner } in
    let t : MessageView = message_of_head w d head in
    (t, index_there (λ x. is_message_type x.item) (message_type w) (is_a_message w) w.declared q d t there (ap (λ b. if b then None else Some t) plain), refl)

pub enum_there : (files : List DeclaredFile) (w : World) (q file parent : ℕ) (scope : List ℕ) (e : DeclaredEnum) → slice_get w.declared q ≡ Some (record { file = file; parent = parent; scope = scope; item = an_enum e }) → (t : EnumView) × (slice_get (pool_of files w).enums (enum_index w q) ≡ Some t) × (t.file ≡ file)
enum_there files w q file parent scope e there =
    let d : Declaration = record { file = file; parent = parent; scope = scope; item = an_enum e } in
    let t : EnumView = record { name = e.name; file = file; parent = parent_type w parent; values = e.values } in
    (t, index_there (λ x. is_enum x.item) (enum_type w) (an_enum_type w) w.declared q d t there refl, refl)

-- KINDS

-- the kind names a type, which is seen from a file
pub record IsRightKind (ts : Types) (file : ℕ) (k : Kind) : Type 0 where
  pub names : NamesType (length ts.messages) (length ts.enums) k
  pub seen : TypeIsSeen ts file k

some_seen : {T : Type 0} (P : T → Type 0) (o : Option T) (t : T) → o ≡ Some t → P t → IfSome o P
some_seen P None t h p = absurd (none-some t h)
some_seen P (Some u) t h p = subst P (sym (some_same u t h)) p

right_code : (ts : Types) (file : ℕ) (c : TypeCode) → IsRightKind ts file (kind_of_code c)
right_code ts file code.Double = record { names = tt; seen = tt }
right_code ts file c = record { names = tt; seen = tt }

right_scalar : (ts : Types) (file : ℕ) (o : Option TypeCode) → IsRightKind ts file (option_map_or kind_of_code o kind.Bool)
right_scalar ts file None = record { names = tt; seen = tt }
right_scalar ts file (Some c) = right_code ts file c

-- the kind of a field whose type is no entry
pub right_kind : (files : List DeclaredFile) (w : World) → IsWorldOf files w → (file : ℕ) (scope : List ℕ) (f : DeclaredField) → ((q : ℕ) (d : Declaration) → type_place w file scope f ≡ Some q → slice_get w.declared q ≡ Some d → is_entry d.item ≡ false) → IsRightKind (pool_of files w) file (kind_of_field w file scope f)
right_kind files w world file scope f plain = by_place (type_place w file scope f) refl
  where
    enum_right : (b : Bool) (n : ℕ) → n < length (pool_of files w).enums → IfSome (slice_get (pool_of files w).enums n) (λ t. IsSeen (files_of files) file t.file) → IsRightKind (pool_of files w) file (enum_kind b n)
    enum_right true n less seen = record { names = less; seen = seen }
    enum_right false n less seen = record { names = less; seen = seen }

    group_right : (k : Kind) → IsRightKind (pool_of files w) file k → IsRightKind (pool_of files w) file (group_of k)
    group_right (kind.Message m) right = record { names = right.names; seen = right.seen }
    group_right k right = right

    grouped_right : (b : Bool) (k : Kind) → IsRightKind (pool_of files w) file k → IsRightKind (pool_of files w) file (grouped b k)
    grouped_right true k right = group_right k right
    grouped_right false k right = right

    by_item : (q dfile parent : ℕ) (dscope : List ℕ) (it : Item) → slice_get w.declared q ≡ Some (record { file = dfile; parent = parent; scope = dscope; item = it }) → is_entry it ≡ false → IsSeen (files_of files) file dfile → IsRightKind (pool_of files w) file (kind_by_item w dfile q it)
    by_item q dfile parent dscope (a_message head inner) there none seen =
        let t = message_there files w q dfile parent dscope head inner there none in
        record { names = get-less (pool_of files w).messages (message_index w q) t.0 t.1; seen = some_seen (λ t. IsSeen (files_of files) file t.file) (slice_get (pool_of files w).messages (message_index w q)) t.0 t.1 (subst (λ i. IsSeen (files_of files) file i) (sym t.2) seen) }
    by_item q dfile parent dscope (an_enum e) there none seen =
        let t = enum_there files w q dfile parent dscope e there in
        enum_right (is_two w.files dfile) (enum_index w q) (get-less (pool_of files w).enums (enum_index w q) t.0 t.1)
        (some_seen (λ t. IsSeen (files_of files) file t.file) (slice_get (pool_of files w).enums (enum_index w q)) t.0 t.1 (subst (λ i. IsSeen (files_of files) file i) (sym t.2) seen))
    by_item q dfile parent dscope (a_file g) there none seen = record { names = tt; seen = tt }
    by_item q dfile parent dscope it there none seen = record { names = tt; seen = tt }

    by_place : (o : Option ℕ) → type_place w file scope f ≡ o → IsRightKind (pool_of files w) file (kind_by_place w f o)
    by_place None is = right_scalar (pool_of files w) file f.type_code
    by_place (Some q) is =
        let at = found_type w file scope f q is in
        let d = at.declared in
        grouped_right (is_group f.type_code) (kind_at w q)
        (subst (λ o. IsRightKind (pool_of files w) file (kind_declared w q o)) (sym at.there) (by_item q d.file d.parent d.scope d.item at.there (plain q d is at.there) (seen-reached files file d.file ((world.sight.sees file d.file).0 at.seen))))

-- FIELDS

-- what is no file stands in something before it
pub stands_behind : (files : List DeclaredFile) (w : World) → IsWorldOf files w → (k : ℕ) (d : Declaration) → slice_get w.declared k ≡ Some d → ((f : DeclaredFile) → d.item ≡ a_file f → ⊥) → StandsBehind 0 w.declared k d
stands_behind files w world k d there no_file = ⊎_elim (λ is. absurd (no_file is.0 is.1)) (λ h. h) ((built files w world).around k d there)

-- what has one parent has one file
pub same_file : (files : List DeclaredFile) (w : World) → IsWorldOf files w → (k l : ℕ) (d e : Declaration) → slice_get w.declared k ≡ Some d → slice_get w.declared l ≡ Some e → ((f : DeclaredFile) → d.item ≡ a_file f → ⊥) → ((f : DeclaredFile) → e.item ≡ a_file f → ⊥) → d.parent ≡ e.parent → d.file ≡ e.file
same_file files w world k l d e at_d at_e no_d no_e same =
    let of_d = stands_behind files w world k d at_d no_d in
    let of_e = stands_behind files w world l e at_e no_e in
    let places : of_d.0 ≡ of_e.0 = omega (arith, of_d.4.0, of_e.4.0, same) in
    let around : of_d.1 ≡ of_e.1 = some_same of_d.1 of_e.1 (sym of_d.3 ∙ ap (slice_get w.declared) places ∙ of_e.3) in
    of_d.4.1.file ∙ ap (λ o. o.file) around ∙ sym of_e.4.1.file

no_entry_there : (w : World) (file : ℕ) (scope : List ℕ) (f : DeclaredField) → entry_of w file scope f ≡ None → (q : ℕ) (d : Declaration) → type_place w file scope f ≡ Some q → slice_get w.declared q ≡ Some d → is_entry d.item ≡ false
no_entry_there w file scope f none q d at there = by_item d.item (sym (ap (λ o. option_and_then (λ place. option_and_then entry_declared (slice_get w.declared place)) o) at ∙ ap (λ o. option_and_then entry_declared o) there) ∙ none)
  where
    by_mark : (b : Bool) (head : MessageHead) (name : List ℕ) → told_if b head name ≡ None → b ≡ false
    by_mark true head name h = absurd (none-some (told head name) (sym h))
      where
        told : MessageHead → List ℕ → MessageHead × List ℕ
        told a b = (a, b)
    by_mark false head name h = refl

    by_item : (it : Item) → entry_by_item d it ≡ None → is_entry it ≡ false
    by_item (a_message head inner) h = by_mark head.is_entry head (full_name d) h
    by_item (a_file g) h = refl
    by_item it h = refl

value_plain : (w : World) (entry : Declaration) (file : ℕ) (v : DeclaredField) → option_map_or (is_no_entry w entry) v.type_name true ≡ true → entry.file ≡ file → (q : ℕ) (d : Declaration) → type_place w file (full_name entry) v ≡ Some q → slice_get w.declared q ≡ Some d → is_entry d.item ≡ false
value_plain w entry file v right same q d at there = by_name v.type_name right at
  where
    turned : (b : Bool) → not b ≡ true → b ≡ false
    turned true h = absurd (false≢true h)
    turned false h = refl

    by_item : (o : Option Declaration) → o ≡ Some d → option_map_or (λ i. not (is_entry i)) (item_of o) true ≡ true → is_entry d.item ≡ false
    by_item None h r = absurd (none-some d h)
    by_item (Some e) h r = turned (is_entry d.item) (subst (λ x. not (is_entry x.item) ≡ true) (some_same e d h) r)

    by_found : (r : Found) → passes w (λ i. not (is_entry i)) r ≡ true → place_found r ≡ Some q → is_entry d.item ≡ false
    by_found (found p) right at = by_item (slice_get w.declared p) (ap (slice_get w.declared) (some_same p q at) ∙ there) right
    by_found not_found right at = absurd (none-some q at)
    by_found not_visible right at = absurd (none-some q at)
    by_found not_a_type right at = absurd (none-some q at)

    by_name : (o : Option (List ℕ)) → option_map_or (is_no_entry w entry) o true ≡ true → type_place w file (full_name entry) (record v { type_name = o }) ≡ Some q → is_entry d.item ≡ false
    by_name None right at = absurd (none-some q at)
    by_name (Some n) right at = by_found (looked_up w.declared (w.sight.sees file) (full_name entry) n) (subst (λ i. passes w (λ x. not (is_entry x)) (looked_up w.declared (w.sight.sees i) (full_name entry) n) ≡ true) same right) at

-- what the rules say of a field's kind and of its key
pub record IsRightField (ts : Types) (file : ℕ) (f : FieldView) : Type 0 where
  pub kind : IsRightKind ts file f.kind
  pub key : HasKeyKind f.shape

plain_key : (two : Bool) (f : DeclaredField) (k : Kind) (b : Bool) → HasKeyKind (if b then list_shape two k f else singular_shape two k f)
plain_key two f k true = tt
plain_key two f k false = by_mark f.is_optional f.oneof
  where
    by_mark : (b : Bool) (o : Option ℤ) → HasKeyKind (singular_shape two k (record f { is_optional = b; oneof = o }))
    by_mark true o = tt
    by_mark false (Some (pos o)) = tt
    by_mark false (Some (negsuc o)) = kinds two k
      where
        kinds : (b : Bool) (v : Kind) → HasKeyKind (singular_shape b v (record f { is_optional = false; oneof = Some (negsuc o) }))
        kinds true v = tt
        kinds false (kind.Message m) = tt
        kinds false (kind.Group m) = tt
        kinds false v = tt
    by_mark false None = kinds two k
      where
        kinds : (b : Bool) (v : Kind) → HasKeyKind (singular_shape b v (record f { is_optional = false; oneof = None }))
        kinds true v = tt
        kinds false (kind.Message m) = tt
        kinds false (kind.Group m) = tt
        kinds false v = tt

key_code : (c : TypeCode) → is_key_code c ≡ true → is_key_kind (kind_of_code c) ≡ true
key_code code.Double h = absurd (false≢true h)
key_code code.Float h = absurd (false≢true h)
key_code code.Group h = absurd (false≢true h)
key_code code.Message h = absurd (false≢true h)
key_code code.Bytes h = absurd (false≢true h)
key_code code.Enum h = absurd (false≢true h)
key_code c h = refl

key_right : (o : Option TypeCode) → option_map_or is_key_code o false ≡ true → is_key_kind (option_map_or kind_of_code o kind.Bool) ≡ true
key_right None h = absurd (false≢true h)
key_right (Some c) h = key_code c h

pub right_field : (files : List DeclaredFile) (w : World) → IsWorldOf files w → NothingFails w → (k file parent : ℕ) (scope : List ℕ) (head : MessageHead) (j : ℕ) (f : DeclaredField) → slice_get w.declared k ≡ Some (record { file = file; parent = parent; scope = scope; item = a_field head j f }) → IsRightField (pool_of files w) file (field_by_entry w file scope f (entry_of w file scope f))
right_field files w world nothing k file parent scope head j f there = by_entry (entry_of w file scope f) refl
  where
    by_uses : (h : MessageHead) (name : List ℕ) (u : UsesEntry w (record { file = file; parent = parent; scope = scope; item = a_field head j f }) h name) → HasParts w u.entry h → IsRightField (pool_of files w) file (field_by_entry w file scope f (Some (h, name)))
    by_uses h name u parts =
        let ts = pool_of files w in
        let same : u.entry.file ≡ file = sym (same_file files w world k u.place (record { file = file; parent = parent; scope = scope; item = a_field head j f }) u.entry there u.there (λ g is. false≢true (sym (ap is_field is))) (λ g is. false≢true (ap is_a_head (sym is ∙ u.item))) (eq_of parent u.entry.parent (and_left (parent == u.entry.parent) _ u.is_map))) in
        let plain : (q : ℕ) (d : Declaration) → type_place w file name parts.value ≡ Some q → slice_get w.declared q ≡ Some d → is_entry d.item ≡ false = λ q d at gets. value_plain w u.entry file parts.value parts.value_type same q d (ap (λ n. type_place w file n parts.value) (sym u.full) ∙ at) gets in
        record {
          kind = subst (λ o. IsRightKind ts file (option_map_or (kind_of_field w file name) o kind.Bool)) (sym parts.value_found) (right_kind files w world file name parts.value plain);
          key = subst (λ o. is_key_kind (option_map_or (λ x. option_map_or kind_of_code x.type_code kind.Bool) o kind.Bool) ≡ true) (sym parts.key_found) (key_right parts.key.type_code parts.key_kind);
        }
      where
        eq_of : (a b : ℕ) → (a == b) ≡ true → a ≡ b
        eq_of a b e = grind (arith, nat_tests)

        is_a_head : Item → Bool
        is_a_head (a_message h i) = true
        is_a_head _ = false

    by_entry : (o : Option (MessageHead × List ℕ)) → entry_of w file scope f ≡ o → IsRightField (pool_of files w) file (field_by_entry w file scope f o)
    by_entry None is = record { kind = right_kind files w world file scope f (no_entry_there w file scope f is); key = plain_key (is_two w.files file) f (kind_of_field w file scope f) f.is_repeated }
    by_entry (Some (h, name)) is =
        let u = entry_used w nothing k file parent scope head j f there h name is in
        by_uses h name u (right_entry w nothing u.place u.entry h u.inner u.there u.item u.is_entry).parts

each_right : (files : List DeclaredFile) (w : World) → IsWorldOf files w → NothingFails w → (P : ℕ → FieldView → Type 0) → ((file : ℕ) (f : FieldView) → IsRightField (pool_of files w) file f → P file f) → AllByRecursion (λ t. AllByRecursion (P t.file) t.fields) (pool_of files w).messages
each_right files w world nothing P says = each_message w (λ t. AllByRecursion (P t.file) t.fields) (λ k file parent scope head inner there plain. all_mapped (P file) (field_type w file (in_scope scope head.name)) head.fields (λ j f at. says file (field_type w file (in_scope scope head.name) f) (right_field files w world nothing (k + 1 + j) file k (in_scope scope head.name) head j f (field_there files w world k file parent scope head inner there j f at))))

pub kinds_name_types : (files : List DeclaredFile) (w : World) → IsWorldOf files w → NothingFails w → KindsNameTypes (pool_of files w).messages (pool_of files w).enums
kinds_name_types files w world nothing = each_right files w world nothing (λ file f. NamesType (length (pool_of files w).messages) (length (pool_of files w).enums) f.kind) (λ file f right. right.kind.names)

pub types_seen : (files : List DeclaredFile) (w : World) → IsWorldOf files w → NothingFails w → TypesAreSeen (pool_of files w)
types_seen files w world nothing = each_right files w world nothing (λ file f. TypeIsSeen (pool_of files w) file f.kind) (λ file f right. right.kind.seen)

pub keys_right : (files : List DeclaredFile) (w : World) → IsWorldOf files w → NothingFails w → KeysAreKeyKinds (pool_of files w).messages
keys_right files w world nothing = each_right files w world nothing (λ file f. HasKeyKind f.shape) (λ file f right. right.key)
