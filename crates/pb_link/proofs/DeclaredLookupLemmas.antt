-- Where the types of a pool stand among their declarations, and that their full names are found there.
use Rattle.std.proofs.Common.{◌≡◌, ℕ, zero, suc, ◌+◌, List, ◌∷◌, [], Bool, true, false, not, cond, map, refl, sym, ap, ◌∙◌, subst, arith, Option, Some, None}
use Rattle.std.specs.Prelude.{slice_get, filter_map, is_some}
use Rattle.std.specs.List.{enumerate_from}
use Rattle.std.proofs.lemmas.Option.{none-some}
use Rattle.pb_schema.specs.declared.types.Kind.{Kind}
use Rattle.pb_schema.specs.declared.types.Shape.TheVariants as shape
use Rattle.pb_schema.specs.Names.{message_names, enum_names, enum_name, name_at, entry_name, in_scope, AllDiffer}
use Rattle.pb_schema.specs.Types.{FieldView, MessageView, EnumView, Types}
use Rattle.pb_schema.specs.Rules.{IsPool}
use Rattle.pb_schema.proofs.NameTreeLemmas.{name_at-get}
use Rattle.pb_declarations.specs.Decls.{DeclaredEnum, MessageHead, DeclaredMessages}
use Rattle.pb_link_names.specs.Declarations.{Item, a_file, a_message, a_field, a_oneof, an_enum, a_value, a_service, a_method, item_of_message, Declaration, simple_name, is_named, is_type, full_name}
use Rattle.pb_link_names.specs.Lookup.{found, looked_up}
use Rattle.pb_link_rules.specs.Rules.{World, is_enum, is_message_type}
use Rattle.pb_link_rules.specs.Link.{IsWorldOf}
use Rattle.pb_link.specs.PoolOf.{message_index, enum_index}
use Rattle.pb_link.specs.ToDecls.{declared_head, declared_enum, entry_message, decls_of}
use Rattle.pb_link.proofs.EachDeclaredLemmas.{Name, Scope}
use Rattle.pb_link.proofs.DeclaredNamesLemmas.{names_of}
use Rattle.pb_link.proofs.NamesApartLemmas.{names_differ, scope_is}
use Rattle.pb_link.proofs.TypeRowsLemmas.{message_row, message_at, enum_row, enum_at, message_shown, enum_shown, message_rows, enum_rows, row_placed}
use Rattle.pb_link.proofs.EntryThereLemmas.{has_entry}
use Rattle.pb_link.proofs.OneNameLemmas.{is_found}

-- from where a file sees the type's, its full name after a dot means the place
abbrev pub IsFoundAt : World → ℕ → ℕ → List ℕ → Type 0
IsFoundAt w place of_file name = (file : ℕ) (scope : List ℕ) → w.sight.sees file of_file ≡ true → looked_up w.declared (w.sight.sees file) scope (46 ∷ name) ≡ found place

-- the place of the message of an index
pub record MessagePlaced (ts : Types) (w : World) (i : ℕ) (t : MessageView) : Type 0 where
  pub place : ℕ
  pub declared : Declaration
  pub there : slice_get w.declared place ≡ Some declared
  pub inner : DeclaredMessages
  pub item : declared.item ≡ a_message (declared_head ts i t) inner
  pub file : declared.file ≡ t.file
  pub full : full_name declared ≡ name_at (message_names ts) i
  pub index : message_index w place ≡ i
  pub looked : IsFoundAt w place t.file (name_at (message_names ts) i)

-- the place of the enum of an index
pub record EnumPlaced (ts : Types) (w : World) (k : ℕ) (e : EnumView) : Type 0 where
  pub place : ℕ
  pub declared : Declaration
  pub there : slice_get w.declared place ≡ Some declared
  pub item : declared.item ≡ an_enum (declared_enum e)
  pub file : declared.file ≡ e.file
  pub full : full_name declared ≡ name_at (enum_names ts) k
  pub index : enum_index w place ≡ k
  pub looked : IsFoundAt w place e.file (name_at (enum_names ts) k)

-- the place of the entry message of a map field of the message of an index
pub record EntryPlaced (ts : Types) (w : World) (i : ℕ) (t : MessageView) (f : FieldView) (key : Kind) : Type 0 where
  pub place : ℕ
  pub declared : Declaration
  pub there : slice_get w.declared place ≡ Some declared
  pub item : declared.item ≡ item_of_message (entry_message ts f.name key f.kind)
  pub file : declared.file ≡ t.file
  pub scope : declared.scope ≡ name_at (message_names ts) i
  pub looked : IsFoundAt w place t.file (in_scope (name_at (message_names ts) i) (entry_name f.name))

some_same : {A : Type 0} (a b : A) → Some a ≡ Some b → a ≡ b
some_same a b h = cc

-- full names differ in a world too
pub world_differs : (ts : Types) → IsPool ts → (w : World) → IsWorldOf (decls_of ts) w → AllDiffer (names_of w.declared)
world_differs ts pool w world = subst (λ ds. AllDiffer (names_of ds)) (sym world.declared) (names_differ ts pool)

-- ROWS

get_shown : {X Y : Type 0} (g : ℕ × X → Y) (k : ℕ) (xs : List X) (i : ℕ) (x : X) → slice_get xs i ≡ Some x → slice_get (map g (enumerate_from k xs)) i ≡ Some (g (k + i, x))
get_shown g k [] i x there = absurd (none-some x there)
get_shown g k (y ∷ xs) zero x there = let e : k ≡ k + 0 = omega arith in ap (λ z. Some (g (k, z))) (some_same y x there) ∙ ap (λ n. Some (g (n, x))) e
get_shown g k (y ∷ xs) (suc i) x there = let e : k + 1 + i ≡ k + suc i = omega arith in get_shown g (k + 1) xs i x there ∙ ap (λ n. Some (g (n, x))) e

zero_plus : (n : ℕ) → 0 + n ≡ n
zero_plus n = omega arith

full_is : (d : Declaration) (it : Item) (scope : List ℕ) → d.item ≡ it → d.scope ≡ scope → full_name d ≡ in_scope scope (simple_name it)
full_is d it scope is at = ap (λ s. in_scope s (simple_name d.item)) at ∙ ap (λ x. in_scope scope (simple_name x)) is

message_same : (d : Declaration) (it : Item) → d.item ≡ it → is_some (message_at d) ≡ is_message_type d.item
message_same d it is = ap (λ x. is_some (message_row d.file d.scope x)) is ∙ by it ∙ ap is_message_type (sym is)
  where
    by : (x : Item) → is_some (message_row d.file d.scope x) ≡ is_message_type x
    by (a_message head inner) = flag head.is_entry
      where
        flag : (b : Bool) → is_some {T = ℕ × (List ℕ × MessageHead)} (cond {A = Option (ℕ × (List ℕ × MessageHead))} b None (Some (d.file, (in_scope d.scope head.name, head)))) ≡ not b
        flag true = refl
        flag false = refl
    by (a_file f) = refl
    by (a_field head i f) = refl
    by (a_oneof head i name) = refl
    by (an_enum e) = refl
    by (a_value e i v) = refl
    by (a_service s) = refl
    by (a_method m) = refl

enum_same : (d : Declaration) (it : Item) → d.item ≡ it → is_some (enum_at d) ≡ is_enum d.item
enum_same d it is = ap (λ x. is_some (enum_row d.file d.scope x)) is ∙ by it ∙ ap is_enum (sym is)
  where
    by : (x : Item) → is_some (enum_row d.file d.scope x) ≡ is_enum x
    by (an_enum e) = refl
    by (a_message head inner) = refl
    by (a_file f) = refl
    by (a_field head i f) = refl
    by (a_oneof head i name) = refl
    by (a_value e i v) = refl
    by (a_service s) = refl
    by (a_method m) = refl

-- what a row tells of a declaration
message_told : (d : Declaration) (it : Item) (file : ℕ) (name : List ℕ) (head : MessageHead) → d.item ≡ it → message_row d.file d.scope it ≡ Some (file, (name, head)) → (inner : DeclaredMessages) × (d.item ≡ a_message head inner) × (d.file ≡ file) × (full_name d ≡ name)
message_told d (a_message h inner) file name head is row = by h.is_entry row
  where
    by : (b : Bool) → cond {A = Option (ℕ × (List ℕ × MessageHead))} b None (Some (d.file, (in_scope d.scope h.name, h))) ≡ Some (file, (name, head)) → (i : DeclaredMessages) × (d.item ≡ a_message head i) × (d.file ≡ file) × (full_name d ≡ name)
    by true same = absurd (none-some (file, (name, head)) same)
    by false same =
        let e = some_same (d.file, (in_scope d.scope h.name, h)) (file, (name, head)) same in
        (inner, is ∙ ap (λ x. a_message x.1.1 inner) e, ap (λ x. x.0) e, full_is d (a_message h inner) d.scope is refl ∙ ap (λ x. x.1.0) e)
message_told d (a_file f) file name head is row = absurd (none-some (file, (name, head)) row)
message_told d (a_field h i f) file name head is row = absurd (none-some (file, (name, head)) row)
message_told d (a_oneof h i n) file name head is row = absurd (none-some (file, (name, head)) row)
message_told d (an_enum e) file name head is row = absurd (none-some (file, (name, head)) row)
message_told d (a_value e i v) file name head is row = absurd (none-some (file, (name, head)) row)
message_told d (a_service s) file name head is row = absurd (none-some (file, (name, head)) row)
message_told d (a_method m) file name head is row = absurd (none-some (file, (name, head)) row)

enum_told : (d : Declaration) (it : Item) (file : ℕ) (scope : List ℕ) (e : DeclaredEnum) → d.item ≡ it → enum_row d.file d.scope it ≡ Some (file, (scope, e)) → (d.item ≡ an_enum e) × (d.file ≡ file) × (d.scope ≡ scope)
enum_told d (an_enum x) file scope e is row =
    let same = some_same (d.file, (d.scope, x)) (file, (scope, e)) row in
    (is ∙ ap (λ y. an_enum y.1.1) same, ap (λ y. y.0) same, ap (λ y. y.1.0) same)
enum_told d (a_message h inner) file scope e is row = absurd (none-some (file, (scope, e)) row)
enum_told d (a_file f) file scope e is row = absurd (none-some (file, (scope, e)) row)
enum_told d (a_field h i f) file scope e is row = absurd (none-some (file, (scope, e)) row)
enum_told d (a_oneof h i n) file scope e is row = absurd (none-some (file, (scope, e)) row)
enum_told d (a_value x i v) file scope e is row = absurd (none-some (file, (scope, e)) row)
enum_told d (a_service s) file scope e is row = absurd (none-some (file, (scope, e)) row)
enum_told d (a_method m) file scope e is row = absurd (none-some (file, (scope, e)) row)

-- what is found where
looked_at : (ts : Types) → IsPool ts → (w : World) → IsWorldOf (decls_of ts) w → (place of_file : ℕ) (name : List ℕ) (d : Declaration) (it : Item) → slice_get w.declared place ≡ Some d → d.item ≡ it → is_type it ≡ true → is_named it ≡ true → d.file ≡ of_file → full_name d ≡ name → IsFoundAt w place of_file name
looked_at ts pool w world place of_file name d it there is a_type named file full from scope seen =
    is_found w.declared (world_differs ts pool w world) (w.sight.sees from) scope name place d there (ap is_type is ∙ a_type) (ap is_named is ∙ named) full (ap (w.sight.sees from) file ∙ seen)

-- THE PLACES

pub message_placed : (ts : Types) → IsPool ts → (w : World) → IsWorldOf (decls_of ts) w → (i : ℕ) (t : MessageView) → slice_get ts.messages i ≡ Some t → MessagePlaced ts w i t
message_placed ts pool w world i t there =
    let row : slice_get (filter_map message_at w.declared) i ≡ Some (message_shown ts (i, t)) = ap (λ ds. slice_get (filter_map message_at ds) i) world.declared ∙ ap (λ l. slice_get l i) (message_rows ts pool) ∙ get_shown (message_shown ts) 0 ts.messages i t there ∙ ap (λ n. Some (message_shown ts (n, t))) (zero_plus i) in
    let at = row_placed message_at is_message_type (λ d. message_same d d.item refl) w.declared i (message_shown ts (i, t)) row in
    let told = message_told at.1 at.1.item t.file (Name ts i) (declared_head ts i t) refl at.3 in
    record {
      place = at.0;
      declared = at.1;
      there = at.2;
      inner = told.0;
      item = told.1;
      file = told.2;
      full = told.3;
      index = at.4;
      looked = looked_at ts pool w world at.0 t.file (Name ts i) at.1 (a_message (declared_head ts i t) told.0) at.2 told.1 refl refl told.2 told.3;
    }

pub enum_placed : (ts : Types) → IsPool ts → (w : World) → IsWorldOf (decls_of ts) w → (k : ℕ) (e : EnumView) → slice_get ts.enums k ≡ Some e → EnumPlaced ts w k e
enum_placed ts pool w world k e there =
    let row : slice_get (filter_map enum_at w.declared) k ≡ Some (enum_shown ts (k, e)) = ap (λ ds. slice_get (filter_map enum_at ds) k) world.declared ∙ ap (λ l. slice_get l k) (enum_rows ts pool) ∙ get_shown (enum_shown ts) 0 ts.enums k e there ∙ ap (λ n. Some (enum_shown ts (n, e))) (zero_plus k) in
    let at = row_placed enum_at is_enum (λ d. enum_same d d.item refl) w.declared k (enum_shown ts (k, e)) row in
    let told = enum_told at.1 at.1.item e.file (Scope ts e.file e.parent) (declared_enum e) refl at.3 in
    let named : name_at (enum_names ts) k ≡ in_scope (Scope ts e.file e.parent) e.name = name_at-get (enum_names ts) k (enum_name ts.files ts.messages e) (get_map (enum_name ts.files ts.messages) ts.enums k e there) ∙ ap (λ s. in_scope s e.name) (scope_is ts pool e.file e.parent) in
    let full : full_name at.1 ≡ name_at (enum_names ts) k = full_is at.1 (an_enum (declared_enum e)) (Scope ts e.file e.parent) told.0 told.2 ∙ sym named in
    record {
      place = at.0;
      declared = at.1;
      there = at.2;
      item = told.0;
      file = told.1;
      full = full;
      index = at.4;
      looked = looked_at ts pool w world at.0 e.file (name_at (enum_names ts) k) at.1 (an_enum (declared_enum e)) at.2 told.0 refl refl told.1 full;
    }
  where
    get_map : {X Y : Type 0} (g : X → Y) (xs : List X) (i : ℕ) (x : X) → slice_get xs i ≡ Some x → slice_get (map g xs) i ≡ Some (g x)
    get_map g [] i x h = absurd (none-some x h)
    get_map g (y ∷ xs) zero x h = ap (λ z. Some (g z)) (some_same y x h)
    get_map g (y ∷ xs) (suc i) x h = get_map g xs i x h

pub entry_placed : (ts : Types) → IsPool ts → (w : World) → IsWorldOf (decls_of ts) w → (i : ℕ) (t : MessageView) → slice_get ts.messages i ≡ Some t → (j : ℕ) (f : FieldView) (key : Kind) → slice_get t.fields j ≡ Some f → f.shape ≡ shape.Map key → EntryPlaced ts w i t f key
entry_placed ts pool w world i t there j f key at is =
    let h = has_entry ts pool (i, t) there j f key (record { there = at; is_map = is }) in
    let placed : slice_get w.declared h.place ≡ Some h.declared = ap (λ ds. slice_get ds h.place) world.declared ∙ h.there in
    record {
      place = h.place;
      declared = h.declared;
      there = placed;
      item = h.item;
      file = h.file;
      scope = h.scope;
      looked = looked_at ts pool w world h.place t.file (in_scope (Name ts i) (entry_name f.name)) h.declared (item_of_message (entry_message ts f.name key f.kind)) placed h.item refl refl h.file (full_is h.declared (item_of_message (entry_message ts f.name key f.kind)) (Name ts i) h.item h.scope);
    }
