-- What each declaration of a pool's types is declared from.
use Rattle.std.proofs.Common.{◌≡◌, ℕ, suc, ◌+◌, List, [], ◌∷◌, ◌++◌, map, length, Bool, cond, refl, sym, ap, ◌∙◌, arith, Some}
use Rattle.std.specs.Prelude.{ℤ, slice_get, filter_map}
use Rattle.std.specs.List.{AllByRecursion, enumerate_from, cons_option}
use Rattle.pb_schema.specs.declared.types.Kind.{Kind}
use Rattle.pb_schema.specs.declared.types.Shape.{Shape}
use Rattle.pb_schema.specs.declared.types.Shape.TheVariants as shape
use Rattle.pb_schema.specs.Names.{in_scope, entry_name}
use Rattle.pb_schema.specs.Types.{FieldView, MessageView, EnumView, FileView, Types, is_proto2}
use Rattle.pb_schema.specs.Rules.{IsPool}
use Rattle.pb_declarations.specs.Decls.{MessageHead, message, DeclaredMessages, no_messages, messages_of}
use Rattle.pb_link_names.specs.Declarations.{a_file, a_message, a_field, a_oneof, an_enum, a_value, Declaration, head_of, fields_of, oneofs_of, enum_declared, head_row, messages_declared, declarations}
use Rattle.pb_link_rules.specs.Rules.{key_name, value_name}
use Rattle.pb_link.specs.ToDecls.{declared_field, declared_fields, declared_head, declared_enum, declared_file, decls_of, is_optional_view, entry_part, entry_message, entry_of_field}
use Rattle.pb_link.proofs.ForestLemmas.{all_append}
use Rattle.pb_link.proofs.FlatLemmas.{Stands, all_numbered}
use Rattle.pb_link.proofs.EachDeclaredLemmas.{Name, Scope, entries_of, tell}

-- a message stands in a file of proto2
abbrev pub Two : Types → ℕ × MessageView → Bool
Two ts m = is_proto2 ts.files m.1.file

abbrev pub entry_head : Types → FieldView → Kind → MessageHead
entry_head ts g key = head_of (entry_message ts g.name key g.kind)

-- a map field of a message
pub record IsMapField (m : ℕ × MessageView) (j : ℕ) (g : FieldView) (key : Kind) : Type 0 where
  pub there : slice_get m.1.fields j ≡ Some g
  pub is_map : g.shape ≡ shape.Map key

-- A declaration is that of a file, of a message, of a field or a oneof of a message, of a map field's entry or a part of it, of an enum or of
-- a value of one.
pub data IsFrom (ts : Types) : Declaration → Type 0 where
  from_file : (i place : ℕ) (f : FileView) → slice_get ts.files i ≡ Some f → IsFrom ts (record { file = i; parent = place; scope = []; item = a_file (declared_file ts (i, f)) })
  from_message : (m : ℕ × MessageView) → Stands ts m → (parent : ℕ) (inner : DeclaredMessages) → IsFrom ts (record { file = m.1.file; parent = parent; scope = Scope ts m.1.file m.1.parent; item = a_message (declared_head ts m.0 m.1) inner })
  from_field : (m : ℕ × MessageView) → Stands ts m → (parent i r : ℕ) (g : FieldView) → slice_get m.1.fields i ≡ Some g → IsFrom ts (record { file = m.1.file; parent = parent; scope = Name ts m.0; item = a_field (declared_head ts m.0 m.1) i (declared_field (Two ts m) ts (Name ts m.0) r g) })
  from_oneof : (m : ℕ × MessageView) → Stands ts m → (parent i : ℕ) (name : List ℕ) → slice_get (declared_head ts m.0 m.1).oneofs i ≡ Some name → IsFrom ts (record { file = m.1.file; parent = parent; scope = Name ts m.0; item = a_oneof (declared_head ts m.0 m.1) i name })
  from_entry : (m : ℕ × MessageView) → Stands ts m → (parent j : ℕ) (g : FieldView) (key : Kind) → IsMapField m j g key → IsFrom ts (record { file = m.1.file; parent = parent; scope = Name ts m.0; item = a_message (entry_head ts g key) no_messages })
  from_key : (m : ℕ × MessageView) → Stands ts m → (parent j : ℕ) (g : FieldView) (key : Kind) → IsMapField m j g key → IsFrom ts (record { file = m.1.file; parent = parent; scope = in_scope (Name ts m.0) (entry_name g.name); item = a_field (entry_head ts g key) 0 (entry_part ts key_name 1 key) })
  from_value : (m : ℕ × MessageView) → Stands ts m → (parent j : ℕ) (g : FieldView) (key : Kind) → IsMapField m j g key → IsFrom ts (record { file = m.1.file; parent = parent; scope = in_scope (Name ts m.0) (entry_name g.name); item = a_field (entry_head ts g key) 1 (entry_part ts value_name 2 g.kind) })
  from_enum : (e : ℕ × EnumView) → slice_get ts.enums e.0 ≡ Some e.1 → (parent : ℕ) → IsFrom ts (record { file = e.1.file; parent = parent; scope = Scope ts e.1.file e.1.parent; item = an_enum (declared_enum e.1) })
  from_enum_value : (e : ℕ × EnumView) → slice_get ts.enums e.0 ≡ Some e.1 → (parent i : ℕ) (v : List ℕ × ℤ) → slice_get e.1.values i ≡ Some v → IsFrom ts (record { file = e.1.file; parent = parent; scope = Scope ts e.1.file e.1.parent; item = a_value (declared_enum e.1) i v })

abbrev pub AllFrom : Types → List Declaration → Type 0
AllFrom ts ds = AllByRecursion (IsFrom ts) ds

all_map : {X : Type 0} (P : X → Type 0) (Q : Declaration → Type 0) (g : X → Declaration) (xs : List X) → ((x : X) → P x → Q (g x)) → AllByRecursion P xs → AllByRecursion Q (map g xs)
all_map P Q g [] give all = tt
all_map P Q g (x ∷ xs) give all = (give x all.0, all_map P Q g xs give all.1)

each_at : {X : Type 0} (xs : List X) → AllByRecursion (λ (m : ℕ × X). slice_get xs m.0 ≡ Some m.1) (enumerate_from 0 xs)
each_at xs = all_numbered xs 0 xs (λ j. let e : j ≡ 0 + j = omega arith in ap (slice_get xs) e)

-- the fields of a message, from an index on
fields_from : (ts : Types) (m : ℕ × MessageView) → Stands ts m → (place k s : ℕ) (fs : List FieldView) → ((i : ℕ) → slice_get fs i ≡ slice_get m.1.fields (k + i)) → AllFrom ts (map (λ e. record { file = m.1.file; parent = place; scope = Name ts m.0; item = a_field (declared_head ts m.0 m.1) e.0 e.1 }) (enumerate_from k (declared_fields (Two ts m) ts (Name ts m.0) s fs)))
fields_from ts m there place k s [] same = tt
fields_from ts m there place k s (g ∷ fs) same =
    let zero_k : k ≡ k + 0 = omega arith in (
      from_field m there place k s g (ap (slice_get m.1.fields) zero_k ∙ sym (same 0)),
      fields_from ts m there place (k + 1) (cond (is_optional_view (Two ts m) g) (s + 1) s) fs (λ i. let e : k + suc i ≡ k + 1 + i = omega arith in same (suc i) ∙ ap (slice_get m.1.fields) e),
    )

-- the entries of a message, from an index of its fields on
entries_from : (ts : Types) (m : ℕ × MessageView) → Stands ts m → (place at k : ℕ) (fs : List FieldView) → ((i : ℕ) → slice_get fs i ≡ slice_get m.1.fields (k + i)) → AllFrom ts (messages_declared m.1.file place (Name ts m.0) at (messages_of (filter_map (entry_of_field ts) fs)))
entries_from ts m there place at k [] same = tt
entries_from ts m there place at k (g ∷ fs) same =
    by g.shape refl (λ p. entries_from ts m there place p (k + 1) fs (λ i. let e : k + suc i ≡ k + 1 + i = omega arith in same (suc i) ∙ ap (slice_get m.1.fields) e))
  where
    here : slice_get m.1.fields k ≡ Some g
    here = let zero_k : k ≡ k + 0 = omega arith in ap (slice_get m.1.fields) zero_k ∙ sym (same 0)

    by : (s : Shape) → g.shape ≡ s → ((p : ℕ) → AllFrom ts (messages_declared m.1.file place (Name ts m.0) p (messages_of (filter_map (entry_of_field ts) fs)))) → AllFrom ts (messages_declared m.1.file place (Name ts m.0) at (messages_of (cons_option (entry_of_field ts (record g { shape = s })) (filter_map (entry_of_field ts) fs))))
    by (shape.Map key) is rest =
        let this : IsMapField m k g key = record { there = here; is_map = is } in
        (from_entry m there place k g key this, (from_key m there at k g key this, (from_value m there at k g key this, rest (at + 3))))
    by shape.Implicit is rest = rest at
    by shape.Explicit is rest = rest at
    by (shape.OneofMember o) is rest = rest at
    by (shape.List packed) is rest = rest at

module _ (ts : Types) (pool : IsPool ts) where
  enum_from : (e : ℕ × EnumView) → slice_get ts.enums e.0 ≡ Some e.1 → (parent place : ℕ) → AllFrom ts (enum_declared e.1.file parent (Scope ts e.1.file e.1.parent) place (declared_enum e.1))
  enum_from e there parent place = (
    from_enum e there parent,
    all_map (λ v. slice_get e.1.values v.0 ≡ Some v.1) (IsFrom ts) (λ v. record { file = e.1.file; parent = place; scope = Scope ts e.1.file e.1.parent; item = a_value (declared_enum e.1) v.0 v.1 }) (enumerate_from 0 e.1.values) (λ v at. from_enum_value e there place v.0 v.1 at) (each_at e.1.values),
  )

  message_from : (m : ℕ × MessageView) → Stands ts m → (parent place at : ℕ) (inner : DeclaredMessages) (nested enums : List Declaration) → AllFrom ts nested → AllFrom ts enums →
      AllFrom ts ((head_row m.1.file parent (Scope ts m.1.file m.1.parent) (Name ts m.0) place (message (declared_head ts m.0 m.1) inner) ++ (nested ++ messages_declared m.1.file place (Name ts m.0) at (entries_of ts m))) ++ enums)
  message_from m there parent place at inner nested enums inside last =
      let head = declared_head ts m.0 m.1 in
      let H = head_row m.1.file parent (Scope ts m.1.file m.1.parent) (Name ts m.0) place (message head inner) in
      let K = messages_declared m.1.file place (Name ts m.0) at (entries_of ts m) in
      let zero_plus : (i : ℕ) → slice_get m.1.fields i ≡ slice_get m.1.fields (0 + i) = λ i. let e : i ≡ 0 + i = omega arith in ap (slice_get m.1.fields) e in
      all_append (IsFrom ts) (H ++ (nested ++ K)) enums
      (all_append (IsFrom ts) H (nested ++ K) (
        from_message m there parent inner,
        all_append (IsFrom ts) (fields_of m.1.file place (Name ts m.0) head head.fields) (oneofs_of m.1.file place (Name ts m.0) head head.oneofs)
            (fields_from ts m there place 0 (length m.1.oneofs) m.1.fields zero_plus)
            (all_map (λ o. slice_get head.oneofs o.0 ≡ Some o.1) (IsFrom ts) (λ o. record { file = m.1.file; parent = place; scope = Name ts m.0; item = a_oneof head o.0 o.1 }) (enumerate_from 0 head.oneofs) (λ o is. from_oneof m there place o.0 o.1 is) (each_at head.oneofs)),
      )
      (all_append (IsFrom ts) nested K inside (entries_from ts m there place at 0 m.1.fields zero_plus)))
      last

  pub all_from : AllFrom ts (declarations (decls_of ts))
  all_from = tell ts pool (λ ds ms es. AllFrom ts ds) (record {
    none = tt;
    join = λ xs ys ms ns es fs first second. all_append (IsFrom ts) xs ys first second;
    enum = enum_from;
    message = λ m there parent place at inner nested enums ms es fs inside last. message_from m there parent place at inner nested enums inside last;
    file = λ i f there place ds ms es rest. (from_file i place f there, rest);
  })
