-- The messages and the enums of a pool's types stand among their declarations in the pool's order, each in its file, with its full name.
use Rattle.std.proofs.Common.{◌≡◌, ℕ, zero, suc, ◌+◌, List, [], ◌∷◌, ◌++◌, Bool, true, false, cond, map, length, take, refl, sym, ap, ◌∙◌, Option, Some, None}
use Rattle.std.specs.Prelude.{ℤ, slice_get, filter, filter_map, is_some, if◌then◌else◌}
use Rattle.std.specs.List.{enumerate_from, cons_option}
use Rattle.std.proofs.lemmas.List.{map-append, append-nil}
use Rattle.std.proofs.lemmas.List.Elements.{filter_map-append}
use Rattle.std.proofs.lemmas.Option.{none-some}
use Rattle.pb_schema.specs.declared.types.Shape.{Shape}
use Rattle.pb_schema.specs.declared.types.Shape.TheVariants as shape
use Rattle.pb_schema.specs.Names.{in_scope}
use Rattle.pb_schema.specs.Types.{FieldView, MessageView, EnumView, Types}
use Rattle.pb_schema.specs.Rules.{IsPool}
use Rattle.pb_declarations.specs.Decls.{DeclaredField, DeclaredEnum, MessageHead, messages_of}
use Rattle.pb_link_names.specs.Declarations.{Item, a_file, a_message, a_field, a_oneof, an_enum, a_value, a_service, a_method, Declaration, fields_of, oneofs_of, values_of, messages_declared, declarations}
use Rattle.pb_link.specs.ToDecls.{numbered, declared_head, declared_enum, decls_of, entry_of_field}
use Rattle.pb_link.proofs.EnumWholeLemmas.{numbered_enums}
use Rattle.pb_link.proofs.EachDeclaredLemmas.{Name, Scope, entries_of, named, tell}

-- the file, the full name and what it declares itself, of a message type
abbrev pub message_row : ℕ → List ℕ → Item → Option (ℕ × (List ℕ × MessageHead))
message_row file scope (a_message head inner) = if head.is_entry then None else Some (file, (in_scope scope head.name, head))
message_row file scope (a_file f) = None
message_row file scope (a_field head i f) = None
message_row file scope (a_oneof head i name) = None
message_row file scope (an_enum e) = None
message_row file scope (a_value e i v) = None
message_row file scope (a_service s) = None
message_row file scope (a_method m) = None

abbrev pub message_at : Declaration → Option (ℕ × (List ℕ × MessageHead))
message_at d = message_row d.file d.scope d.item

-- the same of an enum, with its scope
abbrev pub enum_row : ℕ → List ℕ → Item → Option (ℕ × (List ℕ × DeclaredEnum))
enum_row file scope (an_enum e) = Some (file, (scope, e))
enum_row file scope (a_file f) = None
enum_row file scope (a_message head inner) = None
enum_row file scope (a_field head i f) = None
enum_row file scope (a_oneof head i name) = None
enum_row file scope (a_value e i v) = None
enum_row file scope (a_service s) = None
enum_row file scope (a_method m) = None

abbrev pub enum_at : Declaration → Option (ℕ × (List ℕ × DeclaredEnum))
enum_at d = enum_row d.file d.scope d.item

abbrev pub message_shown : Types → ℕ × MessageView → ℕ × (List ℕ × MessageHead)
message_shown ts m = (m.1.file, (Name ts m.0, declared_head ts m.0 m.1))

abbrev pub enum_shown : Types → ℕ × EnumView → ℕ × (List ℕ × DeclaredEnum)
enum_shown ts e = (e.1.file, (Scope ts e.1.file e.1.parent, declared_enum e.1))

-- none of some has a row
none_mapped : {X Y : Type 0} (r : Declaration → Option Y) (g : X → Declaration) → ((x : X) → r (g x) ≡ None) → (xs : List X) → filter_map r (map g xs) ≡ []
none_mapped r g none [] = refl
none_mapped r g none (x ∷ xs) = ap (λ o. cons_option o (filter_map r (map g xs))) (none x) ∙ none_mapped r g none xs

-- what stands beside a message's nested ones
parts_rows : {Y : Type 0} (r : Declaration → Option Y) (xs ys nested entries enums : List Declaration) (e : List Y) → filter_map r xs ≡ [] → filter_map r ys ≡ [] → filter_map r entries ≡ [] → filter_map r enums ≡ e → filter_map r (((xs ++ ys) ++ (nested ++ entries)) ++ enums) ≡ filter_map r nested ++ e
parts_rows r xs ys nested entries enums e no_x no_y no_entry last =
    filter_map-append r ((xs ++ ys) ++ (nested ++ entries)) enums
    ∙ ap (λ l. l ++ filter_map r enums) (filter_map-append r (xs ++ ys) (nested ++ entries) ∙ ap (λ l. l ++ filter_map r (nested ++ entries)) (filter_map-append r xs ys ∙ ap (λ l. l ++ filter_map r ys) no_x ∙ no_y)
    ∙ filter_map-append r nested entries ∙ ap (λ l. filter_map r nested ++ l) no_entry ∙ append-nil (filter_map r nested))
    ∙ ap (λ l. filter_map r nested ++ l) last

entry_messages : (ts : Types) (file place : ℕ) (name : List ℕ) (at : ℕ) (fs : List FieldView) → filter_map message_at (messages_declared file place name at (messages_of (filter_map (entry_of_field ts) fs))) ≡ []
entry_messages ts file place name at [] = refl
entry_messages ts file place name at (f ∷ fs) = by f.shape at (λ p. entry_messages ts file place name p fs)
  where
    by : (s : Shape) (at : ℕ) → ((p : ℕ) → filter_map message_at (messages_declared file place name p (messages_of (filter_map (entry_of_field ts) fs))) ≡ []) → filter_map message_at (messages_declared file place name at (messages_of (cons_option (entry_of_field ts (record f { shape = s })) (filter_map (entry_of_field ts) fs)))) ≡ []
    by (shape.Map key) at rest = rest (at + 3)
    by shape.Implicit at rest = rest at
    by shape.Explicit at rest = rest at
    by (shape.OneofMember o) at rest = rest at
    by (shape.List packed) at rest = rest at

entry_enums : (ts : Types) (file place : ℕ) (name : List ℕ) (at : ℕ) (fs : List FieldView) → filter_map enum_at (messages_declared file place name at (messages_of (filter_map (entry_of_field ts) fs))) ≡ []
entry_enums ts file place name at [] = refl
entry_enums ts file place name at (f ∷ fs) = by f.shape at (λ p. entry_enums ts file place name p fs)
  where
    by : (s : Shape) (at : ℕ) → ((p : ℕ) → filter_map enum_at (messages_declared file place name p (messages_of (filter_map (entry_of_field ts) fs))) ≡ []) → filter_map enum_at (messages_declared file place name at (messages_of (cons_option (entry_of_field ts (record f { shape = s })) (filter_map (entry_of_field ts) fs)))) ≡ []
    by (shape.Map key) at rest = rest (at + 3)
    by shape.Implicit at rest = rest at
    by shape.Explicit at rest = rest at
    by (shape.OneofMember o) at rest = rest at
    by (shape.List packed) at rest = rest at

no_values : {Y : Type 0} (r : Declaration → Option Y) (file place : ℕ) (scope : List ℕ) (e : DeclaredEnum) → ((i : ℕ) (v : List ℕ × ℤ) → r (record { file = file; parent = place; scope = scope; item = a_value e i v }) ≡ None) → filter_map r (values_of file place scope e e.values) ≡ []
no_values r file place scope e none = none_mapped r (λ v. record { file = file; parent = place; scope = scope; item = a_value e v.0 v.1 }) (λ v. none v.0 v.1) (enumerate_from 0 e.values)

module _ (ts : Types) (pool : IsPool ts) where
  abbrev fields : ℕ × MessageView → ℕ → List Declaration
  fields m place = fields_of m.1.file place (Name ts m.0) (declared_head ts m.0 m.1) (declared_head ts m.0 m.1).fields

  abbrev oneofs : ℕ × MessageView → ℕ → List Declaration
  oneofs m place = oneofs_of m.1.file place (Name ts m.0) (declared_head ts m.0 m.1) (declared_head ts m.0 m.1).oneofs

  no_fields : {Y : Type 0} (r : Declaration → Option Y) (m : ℕ × MessageView) (place : ℕ) → ((i : ℕ) (f : DeclaredField) → r (record { file = m.1.file; parent = place; scope = Name ts m.0; item = a_field (declared_head ts m.0 m.1) i f }) ≡ None) → filter_map r (fields m place) ≡ []
  no_fields r m place none = none_mapped r (λ e. record { file = m.1.file; parent = place; scope = Name ts m.0; item = a_field (declared_head ts m.0 m.1) e.0 e.1 }) (λ e. none e.0 e.1) (enumerate_from 0 (declared_head ts m.0 m.1).fields)

  no_oneofs : {Y : Type 0} (r : Declaration → Option Y) (m : ℕ × MessageView) (place : ℕ) → ((i : ℕ) (name : List ℕ) → r (record { file = m.1.file; parent = place; scope = Name ts m.0; item = a_oneof (declared_head ts m.0 m.1) i name }) ≡ None) → filter_map r (oneofs m place) ≡ []
  no_oneofs r m place none = none_mapped r (λ e. record { file = m.1.file; parent = place; scope = Name ts m.0; item = a_oneof (declared_head ts m.0 m.1) e.0 e.1 }) (λ e. none e.0 e.1) (enumerate_from 0 (declared_head ts m.0 m.1).oneofs)

  -- all messages
  pub message_rows : filter_map message_at (declarations (decls_of ts)) ≡ map (message_shown ts) (numbered ts)
  message_rows = tell ts pool (λ ds ms es. filter_map message_at ds ≡ map (message_shown ts) ms) (record {
    none = refl;
    join = λ xs ys ms ns es fs first second. filter_map-append message_at xs ys ∙ ap (λ l. l ++ filter_map message_at ys) first ∙ ap (λ l. map (message_shown ts) ms ++ l) second ∙ sym (map-append (message_shown ts) ms ns);
    enum = λ e there parent place. no_values message_at e.1.file place (Scope ts e.1.file e.1.parent) (declared_enum e.1) (λ i v. refl);
    message = λ m there parent place at inner nested enums ms es fs inside last.
        ap (λ n. (m.1.file, (n, declared_head ts m.0 m.1)) ∷ filter_map message_at (((fields m place ++ oneofs m place) ++ (nested ++ messages_declared m.1.file place (Name ts m.0) at (entries_of ts m))) ++ enums)) (named ts pool m there)
        ∙ ap (λ l. message_shown ts m ∷ l) (parts_rows message_at (fields m place) (oneofs m place) nested (messages_declared m.1.file place (Name ts m.0) at (entries_of ts m)) enums [] (no_fields message_at m place (λ i f. refl)) (no_oneofs message_at m place (λ i name. refl)) (entry_messages ts m.1.file place (Name ts m.0) at m.1.fields) last
        ∙ append-nil (filter_map message_at nested) ∙ inside);
    file = λ i f there place ds ms es rest. rest;
  })

  -- all enums
  pub enum_rows : filter_map enum_at (declarations (decls_of ts)) ≡ map (enum_shown ts) (numbered_enums ts)
  enum_rows = tell ts pool (λ ds ms es. filter_map enum_at ds ≡ map (enum_shown ts) es) (record {
    none = refl;
    join = λ xs ys ms ns es fs first second. filter_map-append enum_at xs ys ∙ ap (λ l. l ++ filter_map enum_at ys) first ∙ ap (λ l. map (enum_shown ts) es ++ l) second ∙ sym (map-append (enum_shown ts) es fs);
    enum = λ e there parent place. ap (λ l. enum_shown ts e ∷ l) (no_values enum_at e.1.file place (Scope ts e.1.file e.1.parent) (declared_enum e.1) (λ i v. refl));
    message = λ m there parent place at inner nested enums ms es fs inside last.
        parts_rows enum_at (fields m place) (oneofs m place) nested (messages_declared m.1.file place (Name ts m.0) at (entries_of ts m)) enums (map (enum_shown ts) fs) (no_fields enum_at m place (λ i f. refl)) (no_oneofs enum_at m place (λ i name. refl)) (entry_enums ts m.1.file place (Name ts m.0) at m.1.fields) last
        ∙ ap (λ l. l ++ map (enum_shown ts) fs) inside ∙ sym (map-append (enum_shown ts) es fs);
    file = λ i f there place ds ms es rest. rest;
  })

-- what has a row at an index stands at a place, with as many before it
pub row_placed : {Y : Type 0} (r : Declaration → Option Y) (t : Item → Bool) → ((d : Declaration) → is_some (r d) ≡ t d.item) → (ds : List Declaration) (i : ℕ) (y : Y) → slice_get (filter_map r ds) i ≡ Some y → (place : ℕ) × (d : Declaration) × (slice_get ds place ≡ Some d) × (r d ≡ Some y) × (length (filter (λ (e : Declaration). t e.item) (take place ds)) ≡ i)
row_placed r t same [] i y at = absurd (none-some y at)
row_placed {Y = Y} r t same (d ∷ ds) i y at = by (r d) refl i at (λ k. row_placed r t same ds k y)
  where
    by : (o : Option Y) → r d ≡ o → (k : ℕ) → slice_get (cons_option o (filter_map r ds)) k ≡ Some y → ((j : ℕ) → slice_get (filter_map r ds) j ≡ Some y → (place : ℕ) × (e : Declaration) × (slice_get ds place ≡ Some e) × (r e ≡ Some y) × (length (filter (λ (x : Declaration). t x.item) (take place ds)) ≡ j)) →
        (place : ℕ) × (e : Declaration) × (slice_get (d ∷ ds) place ≡ Some e) × (r e ≡ Some y) × (length (filter (λ (x : Declaration). t x.item) (take place (d ∷ ds))) ≡ k)
    by None is k h again =
        let rest = again k h in
        let passes : t d.item ≡ false = sym (same d) ∙ ap is_some is in
        (suc rest.0, rest.1, rest.2, rest.3, ap (λ b. length (cond b (d ∷ filter (λ (x : Declaration). t x.item) (take rest.0 ds)) (filter (λ (x : Declaration). t x.item) (take rest.0 ds)))) passes ∙ rest.4)
    by (Some z) is zero h again = (0, d, refl, is ∙ h, refl)
    by (Some z) is (suc k) h again =
        let rest = again k h in
        let passes : t d.item ≡ true = sym (same d) ∙ ap is_some is in
        (suc rest.0, rest.1, rest.2, rest.3, ap (λ b. length (cond b (d ∷ filter (λ (x : Declaration). t x.item) (take rest.0 ds)) (filter (λ (x : Declaration). t x.item) (take rest.0 ds)))) passes ∙ ap suc rest.4)
