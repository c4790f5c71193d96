-- Where no rule fails, what stands in a file goes with the file's syntax: groups and closed enums in files of proto2 alone.
use Rattle.std.proofs.Common.{◌≡◌, ℕ, ℤ, pos, negsuc, ◌+◌, List, Bool, true, false, not, ◌&&◌, ◌||◌, ◌==◌, refl, sym, ap, ◌∙◌, subst, arith, Option, Some, None, IfSome}
use Rattle.std.specs.Prelude.{slice_get, if◌then◌else◌, option_and_then}
use Rattle.std.specs.List.{list_all, AllByRecursion}
use Rattle.std.specs.Option.{option_map_or}
use Rattle.std.proofs.lemmas.Bool.{false≢true}
use Rattle.std.proofs.lemmas.Bool.Decides.{nat_tests}
use Rattle.pb_schema.specs.declared.types.Kind.{Kind}
use Rattle.pb_schema.specs.declared.types.Kind.TheVariants as kind
use Rattle.pb_schema.specs.declared.types.Shape.TheVariants as shape
use Rattle.pb_schema.specs.Kinds.{is_of_proto2}
use Rattle.pb_schema.specs.Names.{in_scope}
use Rattle.pb_schema.specs.Rules.{MayBeValue, ValuesMayStand, IsNotImplicit, MayStandIn, FieldsGoWithSyntax, EnumIsRight, EnumsGoWithSyntax, EachField}
use Rattle.pb_declarations.specs.declared.decl.TypeCode.{TypeCode}
use Rattle.pb_declarations.specs.declared.decl.TypeCode.TheVariants as code
use Rattle.pb_declarations.specs.Decls.{DeclaredField, MessageHead, DeclaredFile}
use Rattle.pb_link_rules.specs.declared.cause.LinkCause.TheVariants as cause
use Rattle.pb_link_names.specs.Declarations.{Item, a_message, a_field, an_enum, Declaration, simple_name}
use Rattle.pb_link_names.specs.Lookup.{Found, found, not_found, not_visible, not_a_type, looked_up}
use Rattle.pb_link_rules.specs.Rules.{World, is_two, is_group, is_open, is_field, place_found, passes_declared, lookups, lookups_if, is_type_by, key_name}
use Rattle.pb_schema.specs.Types.{FieldView, EnumView, is_proto2}
use Rattle.pb_link_names.specs.Sees.{files_of}
use Rattle.pb_link.proofs.FieldLemmas.{same_syntax}
use Rattle.pb_link_rules.specs.Link.{NothingFails, IsWorldOf}
use Rattle.pb_link.specs.PoolOf.{kind_of_code, kind_by_item, kind_declared, kind_at, kind_by_place, kind_of_field, enum_kind, enum_index, grouped, part_named, entry_of, field_by_entry, list_shape, singular_shape, pool_of, field_type, type_place, group_of}
use Rattle.pb_link_rules.specs.Rules.{value_name}
use Rattle.pb_link_rules.proofs.ThereLemmas.{and_left, place_holds, field_there, all_mapped}
use Rattle.pb_link.proofs.TypeLemmas.{each_field, each_message}
use Rattle.pb_link.proofs.EntryLemmas.{entry_used, right_entry}
use Rattle.pb_link.proofs.KindLemmas.{same_file, enum_there}

-- A KIND THAT MAY STAND IN FILES OF PROTO3

module _ (w : World) where
  scalar_open : (c : Option TypeCode) → is_of_proto2 (option_map_or kind_of_code c kind.Bool) ≡ false
  scalar_open None = refl
  scalar_open (Some c) = by_code c
    where
      by_code : (t : TypeCode) → is_of_proto2 (kind_of_code t) ≡ false
      by_code code.Double = refl
      by_code t = refl

  item_open : (q file parent : ℕ) (scope : List ℕ) (it : Item) → is_open w.files (record { file = file; parent = parent; scope = scope; item = it }) ≡ true → is_of_proto2 (kind_by_item w file q it) ≡ false
  item_open q file parent scope (an_enum e) h = by_two (is_two w.files file) h
    where
      by_two : (b : Bool) → not b ≡ true → is_of_proto2 (enum_kind b (enum_index w q)) ≡ false
      by_two true h = absurd (false≢true h)
      by_two false h = refl
  item_open q file parent scope it h = refl

  declared_open : (q : ℕ) (o : Option Declaration) → option_map_or (is_open w.files) o true ≡ true → is_of_proto2 (kind_declared w q o) ≡ false
  declared_open q None h = refl
  declared_open q (Some d) h = item_open q d.file d.parent d.scope d.item h

  found_open : (f : DeclaredField) → is_group f.type_code ≡ false → (r : Found) → (passes_declared w (is_open w.files) r && true) ≡ true → is_of_proto2 (kind_by_place w f (place_found r)) ≡ false
  found_open f single (found q) h =
      subst (λ b. is_of_proto2 (grouped b (kind_at w q)) ≡ false) (sym single) (declared_open q (slice_get w.declared q) (and_left (option_map_or (is_open w.files) (slice_get w.declared q) true) true h))
  found_open f single not_found h = scalar_open f.type_code
  found_open f single not_visible h = scalar_open f.type_code
  found_open f single not_a_type h = scalar_open f.type_code

  pub kind_open : (file parent : ℕ) (scope : List ℕ) (head : MessageHead) (j : ℕ) (f : DeclaredField) → is_group f.type_code ≡ false → list_all (passes_declared w (is_open w.files)) (lookups w (record { file = file; parent = parent; scope = scope; item = a_field head j f })) ≡ true → is_of_proto2 (kind_of_field w file scope f) ≡ false
  kind_open file parent scope head j f single all = by_name f.type_name all
    where
      by_name : (o : Option (List ℕ)) → list_all (passes_declared w (is_open w.files)) (lookups_if w (record { file = file; parent = parent; scope = scope; item = a_field head j f }) o) ≡ true → is_of_proto2 (kind_by_place w f (option_and_then (λ name. place_found (looked_up w.declared (w.sight.sees file) scope name)) o)) ≡ false
      by_name None all = scalar_open f.type_code
      by_name (Some name) all = found_open f single (looked_up w.declared (w.sight.sees file) scope name) all

-- MAPS

plain_value : (two : Bool) (f : DeclaredField) (k : Kind) (b : Bool) → MayBeValue (if b then list_shape two k f else singular_shape two k f) k
plain_value two f k true = tt
plain_value two f k false = by_mark f.is_optional f.oneof
  where
    kinds : (b : Bool) (v : Kind) (o : Option ℤ) → (o ≡ None) → MayBeValue (singular_shape b v (record f { is_optional = false; oneof = None })) k
    kinds true v o h = tt
    kinds false (kind.Message m) o h = tt
    kinds false (kind.Group m) o h = tt
    kinds false v o h = tt

    negative : (n : ℕ) (b : Bool) (v : Kind) → MayBeValue (singular_shape b v (record f { is_optional = false; oneof = Some (negsuc n) })) k
    negative n true v = tt
    negative n false (kind.Message m) = tt
    negative n false (kind.Group m) = tt
    negative n false v = tt

    by_mark : (b : Bool) (o : Option ℤ) → MayBeValue (singular_shape two k (record f { is_optional = b; oneof = o })) k
    by_mark true o = tt
    by_mark false (Some (pos o)) = tt
    by_mark false (Some (negsuc o)) = negative o two k
    by_mark false None = kinds two k None refl

-- in an entry no closed enum may stand, whatever its file
in_entry : (two entry rest : Bool) → entry ≡ true → ((two && not entry) || rest) ≡ true → rest ≡ true
in_entry two true rest is h = by two h
  where
    by : (b : Bool) → ((b && false) || rest) ≡ true → rest ≡ true
    by true h = h
    by false h = h
in_entry two false rest is h = absurd (false≢true is)

value_field : (files : List DeclaredFile) (w : World) → IsWorldOf files w → NothingFails w → (k file parent : ℕ) (scope : List ℕ) (head : MessageHead) (j : ℕ) (f : DeclaredField) → slice_get w.declared k ≡ Some (record { file = file; parent = parent; scope = scope; item = a_field head j f }) → MayBeValue (field_by_entry w file scope f (entry_of w file scope f)).shape (field_by_entry w file scope f (entry_of w file scope f)).kind
value_field files w world nothing k file parent scope head j f there = by_entry (entry_of w file scope f) refl
  where
    eq_of : (a b : ℕ) → (a == b) ≡ true → a ≡ b
    eq_of a b e = grind (arith, nat_tests)

    is_a_head : Item → Bool
    is_a_head (a_message h i) = true
    is_a_head _ = false

    by_entry : (o : Option (MessageHead × List ℕ)) → entry_of w file scope f ≡ o → MayBeValue (field_by_entry w file scope f o).shape (field_by_entry w file scope f o).kind
    by_entry None is = plain_value (is_two w.files file) f (kind_of_field w file scope f) f.is_repeated
    by_entry (Some (h, name)) is =
        let u = entry_used w nothing k file parent scope head j f there h name is in
        let parts = (right_entry w nothing u.place u.entry h u.inner u.there u.item u.is_entry).parts in
        let same : u.entry.file ≡ file = sym (same_file files w world k u.place (record { file = file; parent = parent; scope = scope; item = a_field head j f }) u.entry there u.there (λ g at. false≢true (sym (ap is_field at))) (λ g at. false≢true (ap is_a_head (sym at ∙ u.item))) (eq_of parent u.entry.parent (and_left (parent == u.entry.parent) _ u.is_map))) in
        let value : Declaration = record { file = u.entry.file; parent = u.place; scope = in_scope u.entry.scope h.name; item = a_field h parts.value_index parts.value } in
        let entry_at : slice_get w.declared u.place ≡ Some (record { file = u.entry.file; parent = u.entry.parent; scope = u.entry.scope; item = a_message h u.inner }) =
        u.there ∙ (λ i. Some (record { file = u.entry.file; parent = u.entry.parent; scope = u.entry.scope; item = u.item i })) in
        let value_at : slice_get w.declared (u.place + 1 + parts.value_index) ≡ Some value = field_there files w world u.place u.entry.file u.entry.parent u.entry.scope h u.inner entry_at parts.value_index parts.value parts.value_there in
        let all = in_entry (is_two w.files u.entry.file) h.is_entry (list_all (passes_declared w (is_open w.files)) (lookups w value)) u.is_entry (place_holds w nothing (u.place + 1 + parts.value_index) value cause.ClosedEnum value_at) in
        let right = kind_open w u.entry.file u.place (in_scope u.entry.scope h.name) h parts.value_index parts.value parts.value_single all in
        let named : in_scope u.entry.scope h.name ≡ name = sym (u.full ∙ ap (λ (it : Item). in_scope u.entry.scope (simple_name it)) u.item) in
        subst (λ (o : Option DeclaredField). is_of_proto2 (option_map_or (kind_of_field w file name) o kind.Bool) ≡ false) (sym parts.value_found)
        (subst (λ (i : ℕ). is_of_proto2 (kind_of_field w i name parts.value) ≡ false) same
        (subst (λ (n : List ℕ). is_of_proto2 (kind_of_field w u.entry.file n parts.value) ≡ false) named right))

pub values_right : (files : List DeclaredFile) (w : World) → IsWorldOf files w → NothingFails w → ValuesMayStand (pool_of files w).messages
values_right files w world nothing = each_field files w world (λ f. MayBeValue f.shape f.kind) (λ k file parent scope head j f there. value_field files w world nothing k file parent scope head j f there)

-- THE SYNTAX OF FILES

each_in : (files : List DeclaredFile) (w : World) → IsWorldOf files w → (P : ℕ → FieldView → Type 0) → ((k file parent : ℕ) (scope : List ℕ) (head : MessageHead) (j : ℕ) (f : DeclaredField) → slice_get w.declared k ≡ Some (record { file = file; parent = parent; scope = scope; item = a_field head j f }) → P file (field_type w file scope f)) → EachField (λ t. P t.file) (pool_of files w).messages
each_in files w world P says =
    each_message w (λ t. AllByRecursion (P t.file) t.fields)
    (λ k file parent scope head inner there plain. all_mapped (P file) (field_type w file (in_scope scope head.name)) head.fields (λ j f at. says (k + 1 + j) file k (in_scope scope head.name) head j f (field_there files w world k file parent scope head inner there j f at)))

never_implicit : (f : DeclaredField) (k : Kind) (b : Bool) → IsNotImplicit (if b then list_shape true k f else singular_shape true k f)
never_implicit f k true = tt
never_implicit f k false = by_mark f.is_optional f.oneof
  where
    by_mark : (b : Bool) (o : Option ℤ) → IsNotImplicit (singular_shape true k (record f { is_optional = b; oneof = o }))
    by_mark true o = tt
    by_mark false (Some (pos o)) = tt
    by_mark false (Some (negsuc o)) = tt
    by_mark false None = tt

stands : (two : Bool) (f : DeclaredField) (k : Kind) → (two ≡ false → is_of_proto2 k ≡ false) → MayStandIn two (if f.is_repeated then list_shape two k f else singular_shape two k f) k
stands true f k plain = never_implicit f k f.is_repeated
stands false f k plain = plain refl

map_stands : (two : Bool) (key k : Kind) → is_of_proto2 k ≡ false → MayStandIn two (shape.Map key) k
map_stands true key k plain = tt
map_stands false key k plain = plain

-- in a file of proto3 no field is a GROUP, and the types that fields name are no closed enums
no_group : (w : World) (d : Declaration) (name : Option (List ℕ)) (c : Option TypeCode) → is_type_by w d name c ≡ true → is_two w.files d.file ≡ false → is_group c ≡ false
no_group w d name None h three = refl
no_group w d name (Some code.Group) h three = absurd (false≢true (sym three ∙ and_left (is_two w.files d.file) _ h))
no_group w d name (Some c) h three = refl

none_closed : (a b c : Bool) → a ≡ false → ((a && b) || c) ≡ true → c ≡ true
none_closed true b c is h = absurd (false≢true (sym is))
none_closed false b c is h = h

field_stands : (files : List DeclaredFile) (w : World) → IsWorldOf files w → NothingFails w → (k file parent : ℕ) (scope : List ℕ) (head : MessageHead) (j : ℕ) (f : DeclaredField) → slice_get w.declared k ≡ Some (record { file = file; parent = parent; scope = scope; item = a_field head j f }) → MayStandIn (is_two w.files file) (field_type w file scope f).shape (field_type w file scope f).kind
field_stands files w world nothing k file parent scope head j f there = by_entry (entry_of w file scope f) refl
  where
    plain : is_two w.files file ≡ false → is_of_proto2 (kind_of_field w file scope f) ≡ false
    plain three =
        kind_open w file parent scope head j f (no_group w (record { file = file; parent = parent; scope = scope; item = a_field head j f }) f.type_name f.type_code (place_holds w nothing k (record { file = file; parent = parent; scope = scope; item = a_field head j f }) cause.KindMismatch there) three)
        (none_closed (is_two w.files file) (not head.is_entry) _ three (place_holds w nothing k (record { file = file; parent = parent; scope = scope; item = a_field head j f }) cause.ClosedEnum there))

    by_entry : (o : Option (MessageHead × List ℕ)) → entry_of w file scope f ≡ o → MayStandIn (is_two w.files file) (field_by_entry w file scope f o).shape (field_by_entry w file scope f o).kind
    by_entry None is = stands (is_two w.files file) f (kind_of_field w file scope f) plain
    by_entry (Some (h, name)) is =
        map_stands (is_two w.files file) (option_map_or (λ x. option_map_or kind_of_code x.type_code kind.Bool) (part_named key_name h) kind.Bool) (option_map_or (kind_of_field w file name) (part_named value_name h) kind.Bool)
        (subst (λ (o : Option (MessageHead × List ℕ)). MayBeValue (field_by_entry w file scope f o).shape (field_by_entry w file scope f o).kind) is (value_field files w world nothing k file parent scope head j f there))

pub syntax_fields : (files : List DeclaredFile) (w : World) → IsWorldOf files w → NothingFails w → FieldsGoWithSyntax (files_of files) (pool_of files w).messages
syntax_fields files w world nothing =
    each_in files w world (λ file g. MayStandIn (is_proto2 (files_of files) file) g.shape g.kind)
    (λ k file parent scope head j f there. subst (λ b. MayStandIn b (field_type w file scope f).shape (field_type w file scope f).kind) (sym (same_syntax files w world file)) (field_stands files w world nothing k file parent scope head j f there))

-- the enums that fields name are open in files of proto3 and closed in those of proto2
module _ (files : List DeclaredFile) (w : World) (world : IsWorldOf files w) where
  abbrev IsRight : Kind → Type 0
  IsRight k = EnumIsRight (files_of files) (pool_of files w).enums k

  code_right : (c : Option TypeCode) → IsRight (option_map_or kind_of_code c kind.Bool)
  code_right None = tt
  code_right (Some c) = by_code c
    where
      by_code : (t : TypeCode) → IsRight (kind_of_code t)
      by_code code.Double = tt
      by_code t = tt

  group_right : (k : Kind) → IsRight k → IsRight (group_of k)
  group_right (kind.Message m) h = tt
  group_right k h = h

  grouped_right : (b : Bool) (k : Kind) → IsRight k → IsRight (grouped b k)
  grouped_right true k h = group_right k h
  grouped_right false k h = h

  told : (n : ℕ) (t : EnumView) (b : Bool) → slice_get (pool_of files w).enums n ≡ Some t → is_proto2 (files_of files) t.file ≡ b → IsRight (enum_kind b n)
  told n t true at is = subst (λ (o : Option EnumView). IfSome o (λ u. is_proto2 (files_of files) u.file ≡ true)) (sym at) is
  told n t false at is = subst (λ (o : Option EnumView). IfSome o (λ u. is_proto2 (files_of files) u.file ≡ false)) (sym at) is

  item_right : (q file parent : ℕ) (scope : List ℕ) (it : Item) → slice_get w.declared q ≡ Some (record { file = file; parent = parent; scope = scope; item = it }) → IsRight (kind_by_item w file q it)
  item_right q file parent scope (an_enum e) there =
      let t = enum_there files w q file parent scope e there in
      told (enum_index w q) t.0 (is_two w.files file) t.1 (ap (is_proto2 (files_of files)) t.2 ∙ same_syntax files w world file)
  item_right q file parent scope (a_message head inner) there = tt
  item_right q file parent scope it there = tt

  declared_right : (q : ℕ) (o : Option Declaration) → slice_get w.declared q ≡ o → IsRight (kind_declared w q o)
  declared_right q None there = tt
  declared_right q (Some d) there = item_right q d.file d.parent d.scope d.item there

  kind_right : (file : ℕ) (scope : List ℕ) (f : DeclaredField) → IsRight (kind_of_field w file scope f)
  kind_right file scope f = by_place (type_place w file scope f)
    where
      by_place : (o : Option ℕ) → IsRight (kind_by_place w f o)
      by_place None = code_right f.type_code
      by_place (Some q) = grouped_right (is_group f.type_code) (kind_at w q) (declared_right q (slice_get w.declared q) refl)

  part_right : (file : ℕ) (scope : List ℕ) (o : Option DeclaredField) → IsRight (option_map_or (kind_of_field w file scope) o kind.Bool)
  part_right file scope None = tt
  part_right file scope (Some f) = kind_right file scope f

  entry_right : (file : ℕ) (scope : List ℕ) (f : DeclaredField) (o : Option (MessageHead × List ℕ)) → IsRight (field_by_entry w file scope f o).kind
  entry_right file scope f None = kind_right file scope f
  entry_right file scope f (Some (h, name)) = part_right file name (part_named value_name h)

pub syntax_enums : (files : List DeclaredFile) (w : World) → IsWorldOf files w → NothingFails w → EnumsGoWithSyntax (files_of files) (pool_of files w).enums (pool_of files w).messages
syntax_enums files w world nothing = each_field files w world (λ f. EnumIsRight (files_of files) (pool_of files w).enums f.kind) (λ k file parent scope head j f there. entry_right files w world file scope f (entry_of w file scope f))
