-- What a message's parts and a file's parts hold, one statement after another.
use Rattle.std.proofs.Common.{◌≡◌, ◌≤◌, ◌<◌, ◌+◌, ℕ, suc, ℤ, pos, List, [], ◌∷◌, ◌++◌, length, take, drop, set, get_or, map, Bool, true, false, Vec, Global, String, refl, ap, sym, ◌∙◌, subst, append-nil, append_assoc, string_bytes, arith, Option, option_to_list}
use Rattle.std.specs.Prelude.{if◌then◌else◌}
use Rattle.std.proofs.lemmas.List.{length-map, length-append, drop_more, drop-set-lt, take_more_set, length_push, map_push, take_all, drop_all, map-append}
use Rattle.pb_declarations.specs.Decls.{DeclaredField, DeclaredMessage, message, messages_of}
use Rattle.pb_declarations.specs.View.{field_view, message_view, enum_view, service_view}
use Rattle.pb_declarations.specs.declared.decl.FieldDecl.{FieldDecl}
use Rattle.pb_declarations.specs.declared.decl.EnumDecl.{EnumDecl}
use Rattle.pb_declarations.specs.declared.decl.MessageDecl.{MessageDecl}
use Rattle.pb_declarations.specs.declared.decl.ServiceDecl.{ServiceDecl}
use Rattle.pb_source.specs.Meaning.{MapDecl, Member, MessageStatement, FileStatement, entry_of, fields_of, map_field, fields_in, groups_in, in_oneof, all_said, oneofs_said, nested_said, enums_said, ranges_said, names_said, file_messages_said, with_own_oneofs, own_oneofs, message_of, packages_said, package_of, first_or_none, imports_said, public_from, file_enums_said, services_said}
use Rattle.pb_source.specs.PartsView.{HoldsSaid, with_own_oneof, OnePackage, FileHolds}
use Rattle.pb_source.specs.declared.parsing.declared.MessageParts.{MessageParts}
use Rattle.pb_source.specs.declared.parsing.declared.FileParts.{FileParts}
use Rattle.pb_source.proofs.SaidSteps.{all_said-push}

-- ---- messages

fields_of-push : (n : ℕ) (ss : List MessageStatement) (s : MessageStatement) → fields_of n (ss ++ s ∷ []) ≡ fields_of n ss ++ fields_of (n + length (all_said oneofs_said ss)) (s ∷ [])
fields_of-push n [] s = let e : n ≡ n + 0 = omega arith in ap (λ k. fields_of k (s ∷ [])) e
fields_of-push n (MessageStatement.nothing_said ∷ ss) s = fields_of-push n ss s
fields_of-push n (MessageStatement.a_field x ∷ ss) s = ap (λ fs. x.0 ∷ fs) (fields_of-push n ss s)
fields_of-push n (MessageStatement.a_map m ∷ ss) s = ap (λ fs. map_field m ∷ fs) (fields_of-push n ss s)
fields_of-push n (MessageStatement.a_oneof name xs ∷ ss) s =
    let fs : List DeclaredField = fields_in xs in
    let k : ℕ = length (all_said oneofs_said ss) in
    let e : suc n + k ≡ n + suc k = omega arith in
    ap (λ gs. map (in_oneof n) fs ++ gs) (fields_of-push (suc n) ss s ∙ ap (λ j. fields_of (suc n) ss ++ fields_of j (s ∷ [])) e)
    ∙ sym (append_assoc (map (in_oneof n) fs) (fields_of (suc n) ss) (fields_of (n + suc k) (s ∷ [])))
fields_of-push n (MessageStatement.a_message m ∷ ss) s = fields_of-push n ss s
fields_of-push n (MessageStatement.an_extend ms ∷ ss) s = fields_of-push n ss s
fields_of-push n (MessageStatement.an_enum e ∷ ss) s = fields_of-push n ss s
fields_of-push n (MessageStatement.reserved_ranges rs ∷ ss) s = fields_of-push n ss s
fields_of-push n (MessageStatement.reserved_names ns ∷ ss) s = fields_of-push n ss s

-- as many oneofs as statements say
oneofs_counted : (p : MessageParts) (ss : List MessageStatement) → HoldsSaid p ss → length p.oneofs.items ≡ length (all_said oneofs_said ss)
oneofs_counted p ss h = sym (length-map p.oneofs.items string_bytes) ∙ ap length h.oneofs

-- a message's parts grow by what a statement says
holds_more : (old new : MessageParts) (ss : List MessageStatement) (s : MessageStatement) → HoldsSaid old ss
    → map field_view new.fields.items ≡ map field_view old.fields.items ++ fields_of (length old.oneofs.items) (s ∷ [])
    → map message_view new.messages.items ≡ map message_view old.messages.items ++ nested_said s
    → map enum_view new.enums.items ≡ map enum_view old.enums.items ++ enums_said s
    → map string_bytes new.oneofs.items ≡ map string_bytes old.oneofs.items ++ oneofs_said s
    → new.reserved.items ≡ old.reserved.items ++ ranges_said s
    → map string_bytes new.reserved_names.items ≡ map string_bytes old.reserved_names.items ++ names_said s
    → HoldsSaid new (ss ++ s ∷ [])
holds_more old new ss s h fields messages enums oneofs ranges names =
    let counted = oneofs_counted old ss h in
    let e : length old.oneofs.items ≡ 0 + length (all_said oneofs_said ss) = omega arith in
    record {
      fields = fields ∙ ap (λ fs. fs ++ fields_of (length old.oneofs.items) (s ∷ [])) h.fields ∙ ap (λ k. fields_of 0 ss ++ fields_of k (s ∷ [])) e ∙ sym (fields_of-push 0 ss s);
      messages = messages ∙ ap (λ ms. ms ++ nested_said s) h.messages ∙ sym (all_said-push nested_said ss s);
      enums = enums ∙ ap (λ es. es ++ enums_said s) h.enums ∙ sym (all_said-push enums_said ss s);
      oneofs = oneofs ∙ ap (λ os. os ++ oneofs_said s) h.oneofs ∙ sym (all_said-push oneofs_said ss s);
      reserved = ranges ∙ ap (λ rs. rs ++ ranges_said s) h.reserved ∙ sym (all_said-push ranges_said ss s);
      reserved_names = names ∙ ap (λ ns. ns ++ names_said s) h.reserved_names ∙ sym (all_said-push names_said ss s);
    }

-- nothing more is held of a list
no_more : {A B : Type 0} (f : A → B) (xs : List A) → map f xs ≡ map f xs ++ []
no_more f xs = sym (append-nil (map f xs))

one_more : {A B : Type 0} (f : A → B) (xs after : List A) (x : A) → after ≡ xs ++ x ∷ [] → map f after ≡ map f xs ++ f x ∷ []
one_more f xs after x e = ap (map f) e ∙ map_push f xs x

module _ (p : MessageParts) (ss : List MessageStatement) (h : HoldsSaid p ss) where
  pub holds_nothing : HoldsSaid p (ss ++ MessageStatement.nothing_said ∷ [])
  holds_nothing =
      holds_more p p ss MessageStatement.nothing_said h (no_more field_view p.fields.items) (no_more message_view p.messages.items) (no_more enum_view p.enums.items)
      (no_more string_bytes p.oneofs.items) (sym (append-nil p.reserved.items)) (no_more string_bytes p.reserved_names.items)

  pub holds_member : (v : Vec FieldDecl Global) (f : FieldDecl) (w : Vec MessageDecl Global) (o : Option DeclaredMessage) → v.items ≡ p.fields.items ++ f ∷ []
      → map message_view w.items ≡ map message_view p.messages.items ++ option_to_list o → HoldsSaid (record p { fields = v; messages = w }) (ss ++ MessageStatement.a_field (field_view f, o) ∷ [])
  holds_member v f w o e g =
      holds_more p (record p { fields = v; messages = w }) ss (MessageStatement.a_field (field_view f, o)) h (one_more field_view p.fields.items v.items f e) g (no_more enum_view p.enums.items)
      (no_more string_bytes p.oneofs.items) (sym (append-nil p.reserved.items)) (no_more string_bytes p.reserved_names.items)

  pub holds_map : (m : MapDecl) (v : Vec MessageDecl Global) (entry : MessageDecl) (w : Vec FieldDecl Global) (f : FieldDecl) → v.items ≡ p.messages.items ++ entry ∷ [] → message_view entry ≡ entry_of m
      → w.items ≡ p.fields.items ++ f ∷ [] → field_view f ≡ map_field m → HoldsSaid (record p { fields = w; messages = v }) (ss ++ MessageStatement.a_map m ∷ [])
  holds_map m v entry w f e is g has =
      holds_more p (record p { fields = w; messages = v }) ss (MessageStatement.a_map m) h
      (one_more field_view p.fields.items w.items f g ∙ ap (λ x. map field_view p.fields.items ++ x ∷ []) has)
      (one_more message_view p.messages.items v.items entry e ∙ ap (λ x. map message_view p.messages.items ++ x ∷ []) is)
      (no_more enum_view p.enums.items) (no_more string_bytes p.oneofs.items) (sym (append-nil p.reserved.items)) (no_more string_bytes p.reserved_names.items)

  pub holds_oneof : (v : Vec FieldDecl Global) (u : Vec MessageDecl Global) (xs : List Member) (w : Vec (String Global) Global) (name : String Global)
      → map field_view v.items ≡ map field_view p.fields.items ++ map (in_oneof (length p.oneofs.items)) (fields_in xs)
      → map message_view u.items ≡ map message_view p.messages.items ++ groups_in xs → w.items ≡ p.oneofs.items ++ name ∷ []
      → HoldsSaid (record p { fields = v; messages = u; oneofs = w }) (ss ++ MessageStatement.a_oneof (string_bytes name) xs ∷ [])
  holds_oneof v u xs w name e m g =
      holds_more p (record p { fields = v; messages = u; oneofs = w }) ss (MessageStatement.a_oneof (string_bytes name) xs) h
      (e ∙ ap (λ gs. map field_view p.fields.items ++ gs) (sym (append-nil (map (in_oneof (length p.oneofs.items)) (fields_in xs))))) m (no_more enum_view p.enums.items)
      (one_more string_bytes p.oneofs.items w.items name g) (sym (append-nil p.reserved.items)) (no_more string_bytes p.reserved_names.items)

  pub holds_extend : (v : Vec MessageDecl Global) (ms : List MessageDecl) → v.items ≡ p.messages.items ++ ms → HoldsSaid (record p { messages = v }) (ss ++ MessageStatement.an_extend (map message_view ms) ∷ [])
  holds_extend v ms e =
      holds_more p (record p { messages = v }) ss (MessageStatement.an_extend (map message_view ms)) h (no_more field_view p.fields.items)
      (ap (map message_view) e ∙ map-append message_view p.messages.items ms) (no_more enum_view p.enums.items)
      (no_more string_bytes p.oneofs.items) (sym (append-nil p.reserved.items)) (no_more string_bytes p.reserved_names.items)

  pub holds_message : (v : Vec MessageDecl Global) (m : MessageDecl) → v.items ≡ p.messages.items ++ m ∷ [] → HoldsSaid (record p { messages = v }) (ss ++ MessageStatement.a_message (message_view m) ∷ [])
  holds_message v m e =
      holds_more p (record p { messages = v }) ss (MessageStatement.a_message (message_view m)) h (no_more field_view p.fields.items) (one_more message_view p.messages.items v.items m e) (no_more enum_view p.enums.items)
      (no_more string_bytes p.oneofs.items) (sym (append-nil p.reserved.items)) (no_more string_bytes p.reserved_names.items)

  pub holds_enum : (v : Vec EnumDecl Global) (x : EnumDecl) → v.items ≡ p.enums.items ++ x ∷ [] → HoldsSaid (record p { enums = v }) (ss ++ MessageStatement.an_enum (enum_view x) ∷ [])
  holds_enum v x e =
      holds_more p (record p { enums = v }) ss (MessageStatement.an_enum (enum_view x)) h (no_more field_view p.fields.items) (no_more message_view p.messages.items) (one_more enum_view p.enums.items v.items x e)
      (no_more string_bytes p.oneofs.items) (sym (append-nil p.reserved.items)) (no_more string_bytes p.reserved_names.items)

  pub holds_ranges : (v : Vec (ℤ × ℤ) Global) (rs : List (ℤ × ℤ)) → v.items ≡ p.reserved.items ++ rs → HoldsSaid (record p { reserved = v }) (ss ++ MessageStatement.reserved_ranges rs ∷ [])
  holds_ranges v rs e =
      holds_more p (record p { reserved = v }) ss (MessageStatement.reserved_ranges rs) h (no_more field_view p.fields.items) (no_more message_view p.messages.items) (no_more enum_view p.enums.items)
      (no_more string_bytes p.oneofs.items) e (no_more string_bytes p.reserved_names.items)

  pub holds_names : (v : Vec (String Global) Global) (ns : List (String Global)) → v.items ≡ p.reserved_names.items ++ ns
      → HoldsSaid (record p { reserved_names = v }) (ss ++ MessageStatement.reserved_names (map string_bytes ns) ∷ [])
  holds_names v ns e =
      holds_more p (record p { reserved_names = v }) ss (MessageStatement.reserved_names (map string_bytes ns)) h (no_more field_view p.fields.items) (no_more message_view p.messages.items)
      (no_more enum_view p.enums.items) (no_more string_bytes p.oneofs.items) (sym (append-nil p.reserved.items)) (ap (map string_bytes) e ∙ map-append string_bytes p.reserved_names.items ns)

-- the message of what its parts hold, after the oneofs of optional fields
pub message_made : (p : MessageParts) (ss : List MessageStatement) (name : List ℕ) (fields : List DeclaredField) (oneofs : List (List ℕ)) → HoldsSaid p ss
    → fields ≡ with_own_oneofs (length p.oneofs.items) (map field_view p.fields.items)
    → oneofs ≡ map string_bytes p.oneofs.items ++ own_oneofs (map field_view p.fields.items)
    → message (record {
      name = name;
      fields = fields;
      enums = map enum_view p.enums.items;
      oneofs = oneofs;
      reserved = p.reserved.items;
      reserved_names = map string_bytes p.reserved_names.items;
      is_entry = false;
    }) (messages_of (map message_view p.messages.items))
    ≡ message_of name ss
message_made p ss name fields oneofs h f o =
    let k : length p.oneofs.items ≡ length (all_said oneofs_said ss) = oneofs_counted p ss h in
    let g : fields ≡ with_own_oneofs (length (all_said oneofs_said ss)) (fields_of 0 ss) = f ∙ ap (λ n. with_own_oneofs n (map field_view p.fields.items)) k ∙ ap (with_own_oneofs (length (all_said oneofs_said ss))) h.fields in
    let q : oneofs ≡ all_said oneofs_said ss ++ own_oneofs (fields_of 0 ss) = o ∙ ap (λ os. os ++ own_oneofs (map field_view p.fields.items)) h.oneofs ∙ ap (λ fs. all_said oneofs_said ss ++ own_oneofs fs) h.fields in
    λ i. message (record {
      name = name;
      fields = g i;
      enums = h.enums i;
      oneofs = q i;
      reserved = h.reserved i;
      reserved_names = h.reserved_names i;
      is_entry = false;
    }) (messages_of (h.messages i))

-- ---- optional fields, each in a oneof of its own

own_first : (f : DeclaredField) (fs : List DeclaredField) → own_oneofs (f ∷ fs) ≡ own_oneofs (f ∷ []) ++ own_oneofs fs
own_first f fs = by_mark f.is_optional
  where
    by_mark : (b : Bool) → (if b then (95 ∷ f.name) ∷ own_oneofs fs else own_oneofs fs) ≡ (if b then (95 ∷ f.name) ∷ [] else []) ++ own_oneofs fs
    by_mark true = refl
    by_mark false = refl

with_own_first : (n : ℕ) (f : DeclaredField) (fs : List DeclaredField) → with_own_oneofs n (f ∷ fs) ≡ with_own_oneof n f ∷ with_own_oneofs (n + length (own_oneofs (f ∷ []))) fs
with_own_first n f fs = by_mark f.is_optional
  where
    by_mark : (b : Bool)
        → (if b then in_oneof n f ∷ with_own_oneofs (suc n) fs else f ∷ with_own_oneofs n fs)
        ≡ (if b then in_oneof n f else f) ∷ with_own_oneofs (n + length (if b then (95 ∷ f.name) ∷ [] else [])) fs
    by_mark true = let e : suc n ≡ n + 1 = omega arith in ap (λ k. in_oneof n f ∷ with_own_oneofs k fs) e
    by_mark false = let e : n ≡ n + 0 = omega arith in ap (λ k. f ∷ with_own_oneofs k fs) e

-- the oneofs of the fields of front have been added to those that were before, and those of the rest have not
pub record OwnAdded (fields : List DeclaredField) (oneofs : List (List ℕ)) (front rest : List DeclaredField) (now : List (List ℕ)) : Type 0 where
  pub fields_same : with_own_oneofs (length oneofs) fields ≡ front ++ with_own_oneofs (length now) rest
  pub oneofs_same : now ++ own_oneofs rest ≡ oneofs ++ own_oneofs fields

own_turn : (fields : List DeclaredField) (oneofs : List (List ℕ)) (front rest : List DeclaredField) (now : List (List ℕ)) (f : DeclaredField) → OwnAdded fields oneofs front (f ∷ rest) now
    → OwnAdded fields oneofs (front ++ with_own_oneof (length now) f ∷ []) rest (now ++ own_oneofs (f ∷ []))
own_turn fields oneofs front rest now f h =
    let a = length-append now (own_oneofs (f ∷ [])) in
    let e : length now + length (own_oneofs (f ∷ [])) ≡ length (now ++ own_oneofs (f ∷ [])) = omega arith in
    record {
      fields_same =
          h.fields_same ∙ ap (λ fs. front ++ fs) (with_own_first (length now) f rest ∙ ap (λ n. with_own_oneof (length now) f ∷ with_own_oneofs n rest) e)
          ∙ sym (append_assoc front (with_own_oneof (length now) f ∷ []) (with_own_oneofs (length (now ++ own_oneofs (f ∷ []))) rest));
      oneofs_same = append_assoc now (own_oneofs (f ∷ [])) (own_oneofs rest) ∙ ap (λ os. now ++ os) (sym (own_first f rest)) ∙ h.oneofs_same;
    }

module _ (fields : List DeclaredField) (oneofs : List (List ℕ)) where
  pub own_starts : OwnAdded fields oneofs [] fields oneofs
  own_starts = record { fields_same = refl; oneofs_same = refl }

  -- the field at an index has been written
  pub own_goes_on : (items : List FieldDecl) (i : ℕ) (x y : FieldDecl) (now after : List (List ℕ)) → i < length items → x ≡ get_or items i x
      → field_view y ≡ with_own_oneof (length now) (field_view x) → after ≡ now ++ own_oneofs (field_view x ∷ [])
      → OwnAdded fields oneofs (map field_view (take i items)) (map field_view (drop i items)) now
      → OwnAdded fields oneofs (map field_view (take (i + 1) (set items i y))) (map field_view (drop (i + 1) (set items i y))) after
  own_goes_on items i x y now after l e f o h =
      let written : List FieldDecl = set items i y in
      let rest : map field_view (drop i items) ≡ field_view x ∷ map field_view (drop (i + 1) written) =
      ap (map field_view) (drop_more items i x l ∙ ap (λ z. z ∷ drop (i + 1) items) (sym e)) ∙ ap (λ zs. field_view x ∷ map field_view zs) (sym (drop-set-lt (i + 1) items i y (omega arith))) in
      let front : map field_view (take (i + 1) written) ≡ map field_view (take i items) ++ with_own_oneof (length now) (field_view x) ∷ [] =
      ap (map field_view) (take_more_set items i y l) ∙ map_push field_view (take i items) y ∙ ap (λ g. map field_view (take i items) ++ g ∷ []) f in
      let turned = own_turn fields oneofs (map field_view (take i items)) (map field_view (drop (i + 1) written)) now (field_view x)
      (subst (λ fs. OwnAdded fields oneofs (map field_view (take i items)) fs now) rest h) in
      subst (λ fs. OwnAdded fields oneofs fs (map field_view (drop (i + 1) written)) after) (sym front)
      (subst (λ os. OwnAdded fields oneofs (map field_view (take i items) ++ with_own_oneof (length now) (field_view x) ∷ []) (map field_view (drop (i + 1) written)) os) (sym o) turned)

  pub own_ends : (items : List FieldDecl) (i : ℕ) (now : List (List ℕ)) → length items ≤ i → OwnAdded fields oneofs (map field_view (take i items)) (map field_view (drop i items)) now
      → (map field_view items ≡ with_own_oneofs (length oneofs) fields) × (now ≡ oneofs ++ own_oneofs fields)
  own_ends items i now l h =
      let k = subst (λ fs. OwnAdded fields oneofs (map field_view fs) (map field_view (drop i items)) now) (take_all i items l) h in
      let e = subst (λ fs. OwnAdded fields oneofs (map field_view items) (map field_view fs) now) (drop_all i items l) k in
      (sym (e.fields_same ∙ append-nil (map field_view items)), sym (append-nil now) ∙ e.oneofs_same)

-- ---- files

public_from-push : (n : ℕ) (ss : List FileStatement) (s : FileStatement) → public_from n (ss ++ s ∷ []) ≡ public_from n ss ++ public_from (n + length (all_said imports_said ss)) (s ∷ [])
public_from-push n [] s = let e : n ≡ n + 0 = omega arith in ap (λ k. public_from k (s ∷ [])) e
public_from-push n (FileStatement.nothing_said ∷ ss) s = public_from-push n ss s
public_from-push n (FileStatement.an_import true f ∷ ss) s =
    let k : ℕ = length (all_said imports_said ss) in
    let e : suc n + k ≡ n + suc k = omega arith in
    ap (λ zs. pos n ∷ zs) (public_from-push (suc n) ss s ∙ ap (λ j. public_from (suc n) ss ++ public_from j (s ∷ [])) e)
public_from-push n (FileStatement.an_import false f ∷ ss) s =
    let k : ℕ = length (all_said imports_said ss) in
    let e : suc n + k ≡ n + suc k = omega arith in
    public_from-push (suc n) ss s ∙ ap (λ j. public_from (suc n) ss ++ public_from j (s ∷ [])) e
public_from-push n (FileStatement.a_package p ∷ ss) s = public_from-push n ss s
public_from-push n (FileStatement.a_message m ∷ ss) s = public_from-push n ss s
public_from-push n (FileStatement.an_extend ms ∷ ss) s = public_from-push n ss s
public_from-push n (FileStatement.an_enum e ∷ ss) s = public_from-push n ss s
public_from-push n (FileStatement.a_service d ∷ ss) s = public_from-push n ss s

package_kept : (ss : List FileStatement) (s : FileStatement) → packages_said s ≡ [] → package_of (ss ++ s ∷ []) ≡ package_of ss
package_kept ss s e = ap first_or_none (all_said-push packages_said ss s ∙ ap (λ ps. all_said packages_said ss ++ ps) e ∙ append-nil (all_said packages_said ss))

only_one : (ps : List (List ℕ)) (p : List ℕ) → length (ps ++ p ∷ []) ≤ 1 → first_or_none (ps ++ p ∷ []) ≡ p
only_one [] p l = refl
only_one (q ∷ ps) p l = let a = length_push ps p in absurd (omega arith)

package_told : (ss : List FileStatement) (p : List ℕ) → OnePackage (ss ++ FileStatement.a_package p ∷ []) → package_of (ss ++ FileStatement.a_package p ∷ []) ≡ p
package_told ss p one =
    let e = all_said-push packages_said ss (FileStatement.a_package p) in
    ap first_or_none e ∙ only_one (all_said packages_said ss) p (subst (λ ps. length ps ≤ 1) e one)

imports_counted : (p : FileParts) (ss : List FileStatement) → FileHolds p ss → length p.imports.items ≡ length (all_said imports_said ss)
imports_counted p ss h = sym (length-map p.imports.items string_bytes) ∙ ap length h.imports

-- a file's parts grow by what a statement says
file_holds_more : (old new : FileParts) (ss : List FileStatement) (s : FileStatement) → FileHolds old ss
    → string_bytes new.«package» ≡ package_of (ss ++ s ∷ [])
    → map string_bytes new.imports.items ≡ map string_bytes old.imports.items ++ imports_said s
    → new.public.items ≡ old.public.items ++ public_from (length old.imports.items) (s ∷ [])
    → map message_view new.messages.items ≡ map message_view old.messages.items ++ file_messages_said s
    → map enum_view new.enums.items ≡ map enum_view old.enums.items ++ file_enums_said s
    → map service_view new.services.items ≡ map service_view old.services.items ++ services_said s
    → FileHolds new (ss ++ s ∷ [])
file_holds_more old new ss s h named imports indexes messages enums services =
    let counted = imports_counted old ss h in
    let e : length old.imports.items ≡ 0 + length (all_said imports_said ss) = omega arith in
    record {
      package_name = named;
      imports = imports ∙ ap (λ xs. xs ++ imports_said s) h.imports ∙ sym (all_said-push imports_said ss s);
      public_indexes = indexes ∙ ap (λ zs. zs ++ public_from (length old.imports.items) (s ∷ [])) h.public_indexes ∙ ap (λ k. public_from 0 ss ++ public_from k (s ∷ [])) e ∙ sym (public_from-push 0 ss s);
      messages = messages ∙ ap (λ ms. ms ++ file_messages_said s) h.messages ∙ sym (all_said-push file_messages_said ss s);
      enums = enums ∙ ap (λ es. es ++ file_enums_said s) h.enums ∙ sym (all_said-push file_enums_said ss s);
      services = services ∙ ap (λ xs. xs ++ services_said s) h.services ∙ sym (all_said-push services_said ss s);
    }

module _ (p : FileParts) (ss : List FileStatement) (h : FileHolds p ss) where
  still : (s : FileStatement) → packages_said s ≡ [] → string_bytes p.«package» ≡ package_of (ss ++ s ∷ [])
  still s e = h.package_name ∙ sym (package_kept ss s e)

  pub file_holds_nothing : FileHolds p (ss ++ FileStatement.nothing_said ∷ [])
  file_holds_nothing =
      file_holds_more p p ss FileStatement.nothing_said h (still FileStatement.nothing_said refl) (no_more string_bytes p.imports.items) (sym (append-nil p.public.items)) (no_more message_view p.messages.items)
      (no_more enum_view p.enums.items) (no_more service_view p.services.items)

  pub file_holds_package : (name : String Global) → OnePackage (ss ++ FileStatement.a_package (string_bytes name) ∷ [])
      → FileHolds (record p { «package» = name }) (ss ++ FileStatement.a_package (string_bytes name) ∷ [])
  file_holds_package name one =
      file_holds_more p (record p { «package» = name }) ss (FileStatement.a_package (string_bytes name)) h (sym (package_told ss (string_bytes name) one)) (no_more string_bytes p.imports.items) (sym (append-nil p.public.items))
      (no_more message_view p.messages.items) (no_more enum_view p.enums.items) (no_more service_view p.services.items)

  pub file_holds_import : (is_public : Bool) (v : Vec (String Global) Global) (w : Vec ℤ Global) (name : String Global) → v.items ≡ p.imports.items ++ name ∷ []
      → w.items ≡ p.public.items ++ public_from (length p.imports.items) (FileStatement.an_import is_public (string_bytes name) ∷ [])
      → FileHolds (record p { imports = v; public = w }) (ss ++ FileStatement.an_import is_public (string_bytes name) ∷ [])
  file_holds_import is_public v w name e g =
      file_holds_more p (record p { imports = v; public = w }) ss (FileStatement.an_import is_public (string_bytes name)) h (still (FileStatement.an_import is_public (string_bytes name)) refl)
      (one_more string_bytes p.imports.items v.items name e) g (no_more message_view p.messages.items) (no_more enum_view p.enums.items) (no_more service_view p.services.items)

  pub file_holds_message : (v : Vec MessageDecl Global) (m : MessageDecl) → v.items ≡ p.messages.items ++ m ∷ [] → FileHolds (record p { messages = v }) (ss ++ FileStatement.a_message (message_view m) ∷ [])
  file_holds_message v m e =
      file_holds_more p (record p { messages = v }) ss (FileStatement.a_message (message_view m)) h (still (FileStatement.a_message (message_view m)) refl) (no_more string_bytes p.imports.items)
      (sym (append-nil p.public.items)) (one_more message_view p.messages.items v.items m e) (no_more enum_view p.enums.items) (no_more service_view p.services.items)

  pub file_holds_extend : (v : Vec MessageDecl Global) (ms : List MessageDecl) → v.items ≡ p.messages.items ++ ms → FileHolds (record p { messages = v }) (ss ++ FileStatement.an_extend (map message_view ms) ∷ [])
  file_holds_extend v ms e =
      file_holds_more p (record p { messages = v }) ss (FileStatement.an_extend (map message_view ms)) h (still (FileStatement.an_extend (map message_view ms)) refl) (no_more string_bytes p.imports.items)
      (sym (append-nil p.public.items)) (ap (map message_view) e ∙ map-append message_view p.messages.items ms) (no_more enum_view p.enums.items) (no_more service_view p.services.items)

  pub file_holds_enum : (v : Vec EnumDecl Global) (x : EnumDecl) → v.items ≡ p.enums.items ++ x ∷ [] → FileHolds (record p { enums = v }) (ss ++ FileStatement.an_enum (enum_view x) ∷ [])
  file_holds_enum v x e =
      file_holds_more p (record p { enums = v }) ss (FileStatement.an_enum (enum_view x)) h (still (FileStatement.an_enum (enum_view x)) refl) (no_more string_bytes p.imports.items)
      (sym (append-nil p.public.items)) (no_more message_view p.messages.items) (one_more enum_view p.enums.items v.items x e) (no_more service_view p.services.items)

  pub file_holds_service : (v : Vec ServiceDecl Global) (x : ServiceDecl) → v.items ≡ p.services.items ++ x ∷ [] → FileHolds (record p { services = v }) (ss ++ FileStatement.a_service (service_view x) ∷ [])
  file_holds_service v x e =
      file_holds_more p (record p { services = v }) ss (FileStatement.a_service (service_view x)) h (still (FileStatement.a_service (service_view x)) refl) (no_more string_bytes p.imports.items)
      (sym (append-nil p.public.items)) (no_more message_view p.messages.items) (no_more enum_view p.enums.items) (one_more service_view p.services.items v.items x e)
