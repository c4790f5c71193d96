-- The declarations of a pool's types, part by part: what each message, enum and file declares itself, in its place, tells what all of
-- them declare, and in which order.
use Rattle.std.proofs.Common.{◌≡◌, ℕ, zero, suc, ◌+◌, ◌≤◌, List, [], ◌∷◌, ◌++◌, ◌&&◌, ◌==◌, map, length, refl, sym, ap, ◌∙◌, subst, arith, Option, Some, None, IsSomeAnd, true}
use Rattle.std.specs.Prelude.{slice_get, filter_map}
use Rattle.std.specs.List.{AllByRecursion, flat_map, enumerate_from}
use Rattle.std.proofs.lemmas.List.{append_assoc, append-nil}
use Rattle.std.proofs.lemmas.Option.{none-some}
use Rattle.pb_schema.specs.Names.{in_scope, package_of, name_at, scope_by_names, message_name, message_names}
use Rattle.pb_schema.specs.Nesting.{parent_of, itself, deeper}
use Rattle.pb_schema.specs.Types.{MessageView, EnumView, FileView, Types}
use Rattle.pb_schema.specs.Rules.{IsPool, IsInFileOfParent}
use Rattle.pb_schema.proofs.NameLemmas.{scope_of-names}
use Rattle.pb_schema.proofs.NameTreeLemmas.{name_at-get}
use Rattle.pb_declarations.specs.Decls.{DeclaredMessage, message, DeclaredMessages, messages_of}
use Rattle.pb_link_names.specs.Declarations.{a_file, Declaration, enum_declared, enums_declared, head_row, message_declared, messages_declared, file_declared, files_declared, declarations}
use Rattle.pb_link.specs.ToDecls.{is_parent, is_outermost, numbered, messages_in, outermost_messages, outermost_enums, declared_head, declared_enum, declared_message, declared_file, decls_of, entry_of_field}
use Rattle.pb_link.proofs.ForestLemmas.{all_each}
use Rattle.pb_link.proofs.FlatLemmas.{Stands, under, before, children, parent_there, get_less, all_filtered, parent_is, all_numbered}
use Rattle.pb_link.proofs.WholeLemmas.{all_at, share, in_file, in_files, Outermost, outermost, whole_order}
use Rattle.pb_link.proofs.EnumWholeLemmas.{numbered_enums, own_enums, outer_enums, enums_under, file_enums, in_files as enums_in_files, outer, each_is, whole_enums}
use Rattle.pb_link.proofs.EnumHeadLemmas.{declared_one, unnumbered}

-- the full name of a message
abbrev pub Name : Types → ℕ → List ℕ
Name ts i = name_at (message_names ts) i

-- the scope of what stands in a file, or in a message of it
abbrev pub Scope : Types → ℕ → Option ℕ → List ℕ
Scope ts file parent = scope_by_names ts.files (message_names ts) file parent

-- the entry messages of a message
abbrev pub entries_of : Types → ℕ × MessageView → DeclaredMessages
entries_of ts m = messages_of (filter_map (entry_of_field ts) m.1.fields)

-- a statement about declarations, and about the messages and enums that they declare, part by part
pub record IsTold (ts : Types) (R : List Declaration → List (ℕ × MessageView) → List (ℕ × EnumView) → Type 0) : Type 0 where
  pub none : R [] [] []
  pub join : (xs ys : List Declaration) (ms ns : List (ℕ × MessageView)) (es fs : List (ℕ × EnumView)) → R xs ms es → R ys ns fs → R (xs ++ ys) (ms ++ ns) (es ++ fs)
  pub enum : (e : ℕ × EnumView) → slice_get ts.enums e.0 ≡ Some e.1 → (parent place : ℕ) → R (enum_declared e.1.file parent (Scope ts e.1.file e.1.parent) place (declared_enum e.1)) [] (e ∷ [])
  pub message : (m : ℕ × MessageView) → Stands ts m → (parent place at : ℕ) (inner : DeclaredMessages) (nested enums : List Declaration) (ms : List (ℕ × MessageView)) (es fs : List (ℕ × EnumView)) → R nested ms es → R enums [] fs →
      R ((head_row m.1.file parent (Scope ts m.1.file m.1.parent) (Name ts m.0) place (message (declared_head ts m.0 m.1) inner) ++ (nested ++ messages_declared m.1.file place (Name ts m.0) at (entries_of ts m))) ++ enums) (m ∷ ms) (es ++ fs)
  pub file : (i : ℕ) (f : FileView) → slice_get ts.files i ≡ Some f → (place : ℕ) (ds : List Declaration) (ms : List (ℕ × MessageView)) (es : List (ℕ × EnumView)) → R ds ms es → R (record { file = i; parent = place; scope = []; item = a_file (declared_file ts (i, f)) } ∷ ds) ms es

messages_split : (file parent : ℕ) (scope : List ℕ) (place : ℕ) (xs ys : List DeclaredMessage) → (at : ℕ) × (messages_declared file parent scope place (messages_of (xs ++ ys)) ≡ messages_declared file parent scope place (messages_of xs) ++ messages_declared file parent scope at (messages_of ys))
messages_split file parent scope place [] ys = (place, refl)
messages_split file parent scope place (x ∷ xs) ys =
    let own = message_declared file parent scope place x in
    let rest = messages_split file parent scope (place + length own) xs ys in
    (rest.0, ap (λ l. own ++ l) rest.1 ∙ sym (append_assoc own (messages_declared file parent scope (place + length own) (messages_of xs)) (messages_declared file parent scope rest.0 (messages_of ys))))

get_map : {X Y : Type 0} (g : X → Y) (xs : List X) (i : ℕ) (x : X) → slice_get xs i ≡ Some x → slice_get (map g xs) i ≡ Some (g x)
get_map g [] i x h = absurd (none-some x h)
get_map {X = X} {Y = Y} g (y ∷ xs) zero x h = ap (λ o. map_option o) h
  where
    map_option : Option X → Option Y
    map_option None = None
    map_option (Some z) = Some (g z)
get_map g (y ∷ xs) (suc i) x h = get_map g xs i x h

module _ (ts : Types) (pool : IsPool ts) where
  -- the full name of a message
  pub called : (m : ℕ × MessageView) → Stands ts m → Name ts m.0 ≡ message_name ts.files ts.messages m.1
  called m there = name_at-get (message_names ts) m.0 (message_name ts.files ts.messages m.1) (get_map (message_name ts.files ts.messages) ts.messages m.0 m.1 there)

  pub named : (m : ℕ × MessageView) → Stands ts m → in_scope (Scope ts m.1.file m.1.parent) m.1.name ≡ Name ts m.0
  named m there = ap (λ s. in_scope s m.1.name) (sym (scope_of-names ts.files ts.messages m.1.file m.1.parent (λ i p less is. before ts pool i p is))) ∙ sym (called m there)

  -- it stands in a file, in this scope
  abbrev MessageIn : ℕ → List ℕ → ℕ × MessageView → Type 0
  MessageIn file scope c = Stands ts c × (c.1.file ≡ file) × (Scope ts c.1.file c.1.parent ≡ scope)

  abbrev EnumIn : ℕ → List ℕ → ℕ × EnumView → Type 0
  EnumIn file scope e = (slice_get ts.enums e.0 ≡ Some e.1) × (e.1.file ≡ file) × (Scope ts e.1.file e.1.parent ≡ scope)

  package_is : (i : ℕ) (f : FileView) → slice_get ts.files i ≡ Some f → package_of ts.files i ≡ f.package_name
  package_is i f there = ap (λ o. of_file o) there
    where
      of_file : Option FileView → List ℕ
      of_file None = []
      of_file (Some g) = g.package_name

  pub outer_scope : (i : ℕ) (f : FileView) → slice_get ts.files i ≡ Some f → (file : ℕ) (o : Option ℕ) → file ≡ i → o ≡ None → Scope ts file o ≡ f.package_name
  outer_scope i f there file o same is = ap (Scope ts file) is ∙ ap (package_of ts.files) same ∙ package_is i f there

  own_messages : (m : ℕ × MessageView) → Stands ts m → AllByRecursion (λ c. MessageIn m.1.file (Name ts m.0) c × (parent_of ts.messages c.0 ≡ Some m.0)) (messages_in ts m.0)
  own_messages m there = all_each (λ c. Stands ts c × (parent_of ts.messages c.0 ≡ Some m.0)) (λ c. MessageIn m.1.file (Name ts m.0) c × (parent_of ts.messages c.0 ≡ Some m.0)) (messages_in ts m.0)
      (λ c h. ((h.0, sym (share ts pool m.0 c.0 m.1 c.1 (deeper h.1 itself) there h.0), ap (Scope ts c.1.file) (sym (parent_there ts.messages c.0 c.1 h.0) ∙ h.1)), h.1)) (children ts pool m)

  own_enums_in : (m : ℕ × MessageView) → Stands ts m → AllByRecursion (EnumIn m.1.file (Name ts m.0)) (own_enums ts m.0)
  own_enums_in m there = all_each (λ e. (slice_get ts.enums e.0 ≡ Some e.1) × (is_parent m.0 e.1.parent ≡ true)) (EnumIn m.1.file (Name ts m.0)) (own_enums ts m.0) is_in
      (all_filtered (λ e. slice_get ts.enums e.0 ≡ Some e.1) (λ e. is_parent m.0 e.1.parent) (numbered_enums ts) (each_is ts))
    where
      is_in : (e : ℕ × EnumView) → (slice_get ts.enums e.0 ≡ Some e.1) × (is_parent m.0 e.1.parent ≡ true) → EnumIn m.1.file (Name ts m.0) e
      is_in e h =
          let parent : e.1.parent ≡ Some m.0 = parent_is m.0 e.1.parent h.1 in
          let here : IsSomeAnd (slice_get ts.messages m.0) (λ t. t.file ≡ e.1.file) = subst (λ o. IsInFileOfParent ts.messages e.1.file o) parent (all_at (λ x. IsInFileOfParent ts.messages x.file x.parent) ts.enums e.0 e.1 pool.indexes.enum_parents h.0) in
          (h.0, sym (subst (λ o. IsSomeAnd o (λ t. t.file ≡ e.1.file)) there here), ap (Scope ts e.1.file) parent)

  module _ (R : List Declaration → List (ℕ × MessageView) → List (ℕ × EnumView) → Type 0) (told : IsTold ts R) where
    tell_enums : (file : ℕ) (scope : List ℕ) (es : List (ℕ × EnumView)) → AllByRecursion (EnumIn file scope) es → (parent place : ℕ) → R (enums_declared file parent scope place (map declared_one es)) [] es
    tell_enums file scope [] all parent place = told.none
    tell_enums file scope (e ∷ es) all parent place =
        let own = enum_declared file parent scope place (declared_enum e.1) in
        told.join own (enums_declared file parent scope (place + length own) (map declared_one es)) [] [] (e ∷ []) es
        (subst (λ s. R (enum_declared file parent s place (declared_enum e.1)) [] (e ∷ [])) all.0.2 (subst (λ f. R (enum_declared f parent (Scope ts e.1.file e.1.parent) place (declared_enum e.1)) [] (e ∷ [])) all.0.1 (told.enum e all.0.0 parent place)))
        (tell_enums file scope es all.1 parent (place + length own))

    abbrev Tells : ℕ → ℕ × MessageView → Type 0
    Tells levels c = (parent place : ℕ) → R (message_declared c.1.file parent (Scope ts c.1.file c.1.parent) place (declared_message levels ts c)) (under ts levels c) (enums_under ts levels c)

    tell_messages : (levels file : ℕ) (scope : List ℕ) (cs : List (ℕ × MessageView)) → AllByRecursion (λ c. MessageIn file scope c × Tells levels c) cs → (parent place : ℕ) → R (messages_declared file parent scope place (messages_of (map (declared_message levels ts) cs))) (flat_map (under ts levels) cs) (flat_map (enums_under ts levels) cs)
    tell_messages levels file scope [] all parent place = told.none
    tell_messages levels file scope (c ∷ cs) all parent place =
        let own = message_declared file parent scope place (declared_message levels ts c) in
        told.join own (messages_declared file parent scope (place + length own) (messages_of (map (declared_message levels ts) cs))) (under ts levels c) (flat_map (under ts levels) cs) (enums_under ts levels c) (flat_map (enums_under ts levels) cs)
        (subst (λ s. R (message_declared file parent s place (declared_message levels ts c)) (under ts levels c) (enums_under ts levels c)) all.0.0.2 (subst (λ f. R (message_declared f parent (Scope ts c.1.file c.1.parent) place (declared_message levels ts c)) (under ts levels c) (enums_under ts levels c)) all.0.0.1 (all.0.1 parent place)))
        (tell_messages levels file scope cs all.1 parent (place + length own))

    tell_message : (levels : ℕ) (m : ℕ × MessageView) → Stands ts m → length ts.messages ≤ levels + m.0 → Tells levels m
    tell_message zero m there enough parent place = absurd (let h = get_less ts.messages m.0 m.1 there in omega (arith, h, enough))
    tell_message (suc levels) m there enough parent place =
        subst (λ name. R ((head_row file parent scope name place whole ++ messages_declared file place name (place + length (head_row file parent scope name place whole)) inner)
        ++ enums_declared file place name (place + length (head_row file parent scope name place whole) + length (messages_declared file place name (place + length (head_row file parent scope name place whole)) inner)) (declared_head ts m.0 m.1).enums) (under ts (suc levels) m) (enums_under ts (suc levels) m))
        (sym (named m there))
        (subst (λ nested. R ((own ++ nested) ++ enums_declared file place name (place + length own + length nested) (declared_head ts m.0 m.1).enums) (under ts (suc levels) m) (enums_under ts (suc levels) m)) (sym split.1)
        (told.message m there parent place split.0 inner first (enums_declared file place name (place + length own + length (first ++ messages_declared file place name split.0 (entries_of ts m))) (declared_head ts m.0 m.1).enums) (flat_map (under ts levels) (messages_in ts m.0)) (flat_map (enums_under ts levels) (messages_in ts m.0)) (own_enums ts m.0)
        (tell_messages levels file name (messages_in ts m.0) (all_each (λ c. MessageIn m.1.file (Name ts m.0) c × (parent_of ts.messages c.0 ≡ Some m.0)) (λ c. MessageIn file name c × Tells levels c) (messages_in ts m.0)
        (λ c h. (h.0, tell_message levels c h.0.0 (let less = before ts pool c.0 m.0 h.1 in omega (arith, enough, less)))) (own_messages m there)) place (place + length own))
        (tell_own (place + length own + length (first ++ messages_declared file place name split.0 (entries_of ts m))))))
      where
        file : ℕ
        file = m.1.file

        scope : List ℕ
        scope = Scope ts m.1.file m.1.parent

        name : List ℕ
        name = Name ts m.0

        inner : DeclaredMessages
        inner = messages_of (map (declared_message levels ts) (messages_in ts m.0) ++ filter_map (entry_of_field ts) m.1.fields)

        whole : DeclaredMessage
        whole = message (declared_head ts m.0 m.1) inner

        own : List Declaration
        own = head_row file parent scope name place whole

        first : List Declaration
        first = messages_declared file place name (place + length own) (messages_of (map (declared_message levels ts) (messages_in ts m.0)))

        split : (at : ℕ) × (messages_declared file place name (place + length own) inner ≡ first ++ messages_declared file place name at (entries_of ts m))
        split = messages_split file place name (place + length own) (map (declared_message levels ts) (messages_in ts m.0)) (filter_map (entry_of_field ts) m.1.fields)

        tell_own : (at : ℕ) → R (enums_declared file place name at (declared_head ts m.0 m.1).enums) [] (own_enums ts m.0)
        tell_own at = subst (λ l. R (enums_declared file place name at l) [] (own_enums ts m.0)) (unnumbered (λ e. is_parent m.0 e.parent) 0 ts.enums) (tell_enums file name (own_enums ts m.0) (own_enums_in m there) place at)

    tell_file : (i : ℕ) (f : FileView) → slice_get ts.files i ≡ Some f → (place : ℕ) → R (file_declared i place (declared_file ts (i, f))) (in_file ts pool i) (file_enums ts pool i)
    tell_file i f there place =
        told.file i f there place (messages ++ enums ++ []) (in_file ts pool i) (file_enums ts pool i)
        (subst (λ l. R l (in_file ts pool i) (file_enums ts pool i)) (sym (append-nil (messages ++ enums)))
        (subst (λ l. R (messages ++ enums) l (file_enums ts pool i)) (append-nil (in_file ts pool i))
        (told.join messages enums (in_file ts pool i) [] (flat_map (enums_under ts n) (outermost_messages ts i)) (outer_enums ts i)
        (tell_messages n i f.package_name (outermost_messages ts i) (all_each (Outermost ts pool i) (λ c. MessageIn i f.package_name c × Tells n c) (outermost_messages ts i)
        (λ c h. ((h.0, h.1, outer_scope i f there c.1.file c.1.parent h.1 (sym (parent_there ts.messages c.0 c.1 h.0) ∙ h.2)), tell_message n c h.0 (omega arith))) (outermost ts pool i)) place (place + 1))
        (subst (λ l. R (enums_declared i place f.package_name (place + 1 + length messages) l) [] (outer_enums ts i)) (unnumbered (λ e. (i == e.file) && is_outermost e.parent) 0 ts.enums)
        (tell_enums i f.package_name (outer_enums ts i) (all_each (λ e. (slice_get ts.enums e.0 ≡ Some e.1) × (e.1.file ≡ i) × (e.1.parent ≡ None)) (EnumIn i f.package_name) (outer_enums ts i)
        (λ e h. (h.0, h.1, outer_scope i f there e.1.file e.1.parent h.1 h.2)) (outer ts pool i)) place (place + 1 + length messages))))))
      where
        n : ℕ
        n = length ts.messages

        messages : List Declaration
        messages = messages_declared i place f.package_name (place + 1) (messages_of (map (declared_message n ts) (outermost_messages ts i)))

        enums : List Declaration
        enums = enums_declared i place f.package_name (place + 1 + length messages) (map declared_enum (outermost_enums ts i))

    tell_files : (k place : ℕ) (fs : List FileView) → AllByRecursion (λ e. slice_get ts.files e.0 ≡ Some e.1) (enumerate_from k fs) → R (files_declared k place (map (declared_file ts) (enumerate_from k fs))) (in_files ts pool k fs) (enums_in_files ts pool k fs)
    tell_files k place [] all = told.none
    tell_files k place (f ∷ fs) all =
        let own = file_declared k place (declared_file ts (k, f)) in
        told.join own (files_declared (k + 1) (place + length own) (map (declared_file ts) (enumerate_from (k + 1) fs))) (in_file ts pool k) (in_files ts pool (k + 1) fs) (file_enums ts pool k) (enums_in_files ts pool (k + 1) fs) (tell_file k f all.0 place) (tell_files (k + 1) (place + length own) fs all.1)

    -- all declarations, with all messages and all enums in their order
    pub tell : R (declarations (decls_of ts)) (numbered ts) (numbered_enums ts)
    tell =
        subst (λ l. R (declarations (decls_of ts)) (numbered ts) l) (whole_enums ts pool)
        (subst (λ l. R (declarations (decls_of ts)) l (enums_in_files ts pool 0 ts.files)) (whole_order ts pool)
        (tell_files 0 0 ts.files (all_numbered ts.files 0 ts.files (λ j. let e : j ≡ 0 + j = omega arith in ap (slice_get ts.files) e))))
