-- What holds of each message, enum and file that a pool's types are declared as, holds of all that their declarations declare.
use Rattle.std.proofs.Common.{◌≡◌, ℕ, zero, suc, ◌+◌, List, [], ◌∷◌, ◌++◌, map, length, ap, arith, Bool, true, ◌&&◌, ◌==◌, Some}
use Rattle.std.specs.Prelude.{ℤ, slice_get, filter, filter_map}
use Rattle.std.specs.List.{AllByRecursion, enumerate_from, cons_option}
use Rattle.pb_schema.specs.declared.types.Kind.{Kind}
use Rattle.pb_schema.specs.declared.types.Shape.{Shape}
use Rattle.pb_schema.specs.declared.types.Shape.TheVariants as shape
use Rattle.pb_schema.specs.Names.{in_scope}
use Rattle.pb_schema.specs.Types.{FieldView, MessageView, EnumView, FileView, Types}
use Rattle.pb_declarations.specs.Decls.{DeclaredField, DeclaredEnum, MessageHead, DeclaredMessage, message, DeclaredMessages, no_messages, more_messages, messages_of}
use Rattle.pb_link_names.specs.Declarations.{Item, a_file, a_message, a_field, a_oneof, an_enum, a_value, Declaration, head_of, fields_of, oneofs_of, enum_declared, enums_declared, head_row, message_declared, messages_declared, file_declared, files_declared, declarations}
use Rattle.pb_link.specs.ToDecls.{is_parent, is_outermost, numbered, messages_in, outermost_messages, declared_head, declared_enum, declared_message, declared_file, decls_of, entry_message, entry_of_field}
use Rattle.pb_link.proofs.ForestLemmas.{all_append}
use Rattle.pb_link.proofs.FlatLemmas.{Stands, all_numbered, all_filtered, each_stands}

pub record OfEnum (P : Item → Type 0) (e : DeclaredEnum) : Type 0 where
  pub is_enum : P (an_enum e)
  pub are_values : (i : ℕ) (v : List ℕ × ℤ) → slice_get e.values i ≡ Some v → P (a_value e i v)

pub record OfHead (P : Item → Type 0) (head : MessageHead) : Type 0 where
  pub is_message : (inner : DeclaredMessages) → P (a_message head inner)
  pub are_fields : (i : ℕ) (f : DeclaredField) → slice_get head.fields i ≡ Some f → P (a_field head i f)
  pub are_oneofs : (i : ℕ) (name : List ℕ) → slice_get head.oneofs i ≡ Some name → P (a_oneof head i name)

abbrev mutual
  OfMessage : (Item → Type 0) → DeclaredMessage → Type 0
  OfMessage P (message head inner) = OfHead P head × AllByRecursion (OfEnum P) head.enums × OfMessages P inner

  OfMessages : (Item → Type 0) → DeclaredMessages → Type 0
  OfMessages P no_messages = Unit {0}
  OfMessages P (more_messages m ms) = OfMessage P m × OfMessages P ms

abbrev pub Of : (Item → Type 0) → Declaration → Type 0
Of P d = P d.item

all_map : {X Y : Type 0} (P : X → Type 0) (Q : Y → Type 0) (g : X → Y) (xs : List X) → ((x : X) → P x → Q (g x)) → AllByRecursion P xs → AllByRecursion Q (map g xs)
all_map P Q g [] give all = tt
all_map P Q g (x ∷ xs) give all = (give x all.0, all_map P Q g xs give all.1)

each_at : {X : Type 0} (xs : List X) → AllByRecursion (λ (m : ℕ × X). slice_get xs m.0 ≡ Some m.1) (enumerate_from 0 xs)
each_at xs = all_numbered xs 0 xs (λ j. let e : j ≡ 0 + j = omega arith in ap (slice_get xs) e)

-- ALL THAT IS DECLARED

all_enum : (P : Item → Type 0) (file parent : ℕ) (scope : List ℕ) (place : ℕ) (e : DeclaredEnum) → OfEnum P e → AllByRecursion (Of P) (enum_declared file parent scope place e)
all_enum P file parent scope place e h = (h.is_enum, all_map {Y = Declaration} (λ v. slice_get e.values v.0 ≡ Some v.1) (Of P) (λ v. record { file = file; parent = place; scope = scope; item = a_value e v.0 v.1 }) (enumerate_from 0 e.values) (λ v at. h.are_values v.0 v.1 at) (each_at e.values))

all_enums : (P : Item → Type 0) (file parent : ℕ) (scope : List ℕ) (place : ℕ) (es : List DeclaredEnum) → AllByRecursion (OfEnum P) es → AllByRecursion (Of P) (enums_declared file parent scope place es)
all_enums P file parent scope place [] h = tt
all_enums P file parent scope place (e ∷ es) h =
    let own = enum_declared file parent scope place e in
    all_append (Of P) own (enums_declared file parent scope (place + length own) es) (all_enum P file parent scope place e h.0) (all_enums P file parent scope (place + length own) es h.1)

all_head : (P : Item → Type 0) (file parent : ℕ) (scope name : List ℕ) (place : ℕ) (head : MessageHead) (inner : DeclaredMessages) → OfHead P head → AllByRecursion (Of P) (head_row file parent scope name place (message head inner))
all_head P file parent scope name place head inner h = (
  h.is_message inner,
  all_append (Of P) (fields_of file place name head head.fields) (oneofs_of file place name head head.oneofs)
      (all_map {Y = Declaration} (λ e. slice_get head.fields e.0 ≡ Some e.1) (Of P) (λ e. record { file = file; parent = place; scope = name; item = a_field head e.0 e.1 }) (enumerate_from 0 head.fields) (λ e at. h.are_fields e.0 e.1 at) (each_at head.fields))
      (all_map {Y = Declaration} (λ e. slice_get head.oneofs e.0 ≡ Some e.1) (Of P) (λ e. record { file = file; parent = place; scope = name; item = a_oneof head e.0 e.1 }) (enumerate_from 0 head.oneofs) (λ e at. h.are_oneofs e.0 e.1 at) (each_at head.oneofs)),
)

mutual
  all_message : (P : Item → Type 0) (file parent : ℕ) (scope : List ℕ) (place : ℕ) (m : DeclaredMessage) → OfMessage P m → AllByRecursion (Of P) (message_declared file parent scope place m)
  all_message P file parent scope place (message head inner) h =
      let own = head_row file parent scope (in_scope scope head.name) place (message head inner) in
      let nested = messages_declared file place (in_scope scope head.name) (place + length own) inner in
      all_append (Of P) (own ++ nested) (enums_declared file place (in_scope scope head.name) (place + length own + length nested) head.enums)
      (all_append (Of P) own nested (all_head P file parent scope (in_scope scope head.name) place head inner h.0) (all_messages P file place (in_scope scope head.name) (place + length own) inner h.2))
      (all_enums P file place (in_scope scope head.name) (place + length own + length nested) head.enums h.1)

  all_messages : (P : Item → Type 0) (file parent : ℕ) (scope : List ℕ) (place : ℕ) (ms : DeclaredMessages) → OfMessages P ms → AllByRecursion (Of P) (messages_declared file parent scope place ms)
  all_messages P file parent scope place no_messages h = tt
  all_messages P file parent scope place (more_messages m ms) h =
      let own = message_declared file parent scope place m in
      all_append (Of P) own (messages_declared file parent scope (place + length own) ms) (all_message P file parent scope place m h.0) (all_messages P file parent scope (place + length own) ms h.1)

of_list : (P : Item → Type 0) (ms : List DeclaredMessage) → AllByRecursion (OfMessage P) ms → OfMessages P (messages_of ms)
of_list P [] all = tt
of_list P (m ∷ ms) all = (all.0, of_list P ms all.1)

-- THE DECLARATIONS OF A POOL

module _ (ts : Types) (P : Item → Type 0) (files : (i : ℕ) (f : FileView) → P (a_file (declared_file ts (i, f)))) (heads : (m : ℕ × MessageView) → Stands ts m → OfHead P (declared_head ts m.0 m.1)) (entries : (name : List ℕ) (key k : Kind) → OfHead P (head_of (entry_message ts name key k))) (enums : AllByRecursion (λ e. OfEnum P (declared_enum e)) ts.enums) where
  some_enums : (t : EnumView → Bool) → AllByRecursion (OfEnum P) (map declared_enum (filter t ts.enums))
  some_enums t = all_map (λ e. OfEnum P (declared_enum e) × (t e ≡ true)) (OfEnum P) declared_enum (filter t ts.enums) (λ e h. h.0) (all_filtered (λ e. OfEnum P (declared_enum e)) t ts.enums enums)

  of_entries : (fs : List FieldView) → AllByRecursion (OfMessage P) (filter_map (entry_of_field ts) fs)
  of_entries [] = tt
  of_entries (f ∷ fs) = by f.shape (of_entries fs)
    where
      by : (s : Shape) → AllByRecursion (OfMessage P) (filter_map (entry_of_field ts) fs) → AllByRecursion (OfMessage P) (cons_option (entry_of_field ts (record f { shape = s })) (filter_map (entry_of_field ts) fs))
      by (shape.Map key) rest = ((entries f.name key f.kind, tt, tt), rest)
      by shape.Implicit rest = rest
      by shape.Explicit rest = rest
      by (shape.OneofMember o) rest = rest
      by (shape.List packed) rest = rest

  of_message : (levels : ℕ) (m : ℕ × MessageView) → Stands ts m → OfMessage P (declared_message levels ts m)
  of_message zero m there = (heads m there, some_enums (λ e. is_parent m.0 e.parent), tt)
  of_message (suc levels) m there = (
    heads m there,
    some_enums (λ e. is_parent m.0 e.parent),
    of_list P (map (declared_message levels ts) (messages_in ts m.0) ++ filter_map (entry_of_field ts) m.1.fields)
        (all_append (OfMessage P) (map (declared_message levels ts) (messages_in ts m.0)) (filter_map (entry_of_field ts) m.1.fields)
        (all_map (λ c. Stands ts c × (is_parent m.0 c.1.parent ≡ true)) (OfMessage P) (declared_message levels ts) (messages_in ts m.0) (λ c h. of_message levels c h.0) (all_filtered (Stands ts) (λ c. is_parent m.0 c.1.parent) (numbered ts) (each_stands ts)))
        (of_entries m.1.fields)),
  )

  of_outermost : (i : ℕ) → OfMessages P (messages_of (map (declared_message (length ts.messages) ts) (outermost_messages ts i)))
  of_outermost i =
      let n = length ts.messages in
      of_list P (map (declared_message n ts) (outermost_messages ts i))
      (all_map (λ m. Stands ts m × (((i == m.1.file) && is_outermost m.1.parent) ≡ true)) (OfMessage P) (declared_message n ts) (outermost_messages ts i) (λ m h. of_message n m h.0) (all_filtered (Stands ts) (λ m. (i == m.1.file) && is_outermost m.1.parent) (numbered ts) (each_stands ts)))

  all_file : (file place i : ℕ) (f : FileView) → AllByRecursion (Of P) (file_declared file place (declared_file ts (i, f)))
  all_file file place i f =
      let d = declared_file ts (i, f) in
      let messages = messages_declared file place d.package_name (place + 1) d.messages in
      let enums_row = enums_declared file place d.package_name (place + 1 + length messages) d.enums in (
        files i f,
        all_append (Of P) (messages ++ enums_row) []
            (all_append (Of P) messages enums_row (all_messages P file place d.package_name (place + 1) d.messages (of_outermost i)) (all_enums P file place d.package_name (place + 1 + length messages) d.enums (some_enums (λ e. (i == e.file) && is_outermost e.parent))))
            tt,
      )

  all_files : (file place k : ℕ) (fs : List FileView) → AllByRecursion (Of P) (files_declared file place (map (declared_file ts) (enumerate_from k fs)))
  all_files file place k [] = tt
  all_files file place k (f ∷ fs) =
      let own = file_declared file place (declared_file ts (k, f)) in
      all_append (Of P) own (files_declared (file + 1) (place + length own) (map (declared_file ts) (enumerate_from (k + 1) fs))) (all_file file place k f) (all_files (file + 1) (place + length own) (k + 1) fs)

  pub all_items : AllByRecursion (Of P) (declarations (decls_of ts))
  all_items = all_files 0 0 0 ts.files
