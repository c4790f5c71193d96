-- The full names of the declarations of a pool's types differ, those that stand in entry messages too, and no package has one of them.
use Rattle.std.proofs.Common.{◌≡◌, ◌≢◌, ℕ, true, inl, inr, List, [], ◌∷◌, ◌++◌, map, refl, sym, ap, ◌∙◌, subst, Option, Some, None, Contains}
use Rattle.std.specs.Prelude.{codes, slice_get, IsTrue}
use Rattle.std.specs.List.{AllByRecursion, flat_map}
use Rattle.pb_schema.specs.declared.types.Shape.{Shape}
use Rattle.pb_schema.specs.declared.types.Shape.TheVariants as shape
use Rattle.pb_schema.specs.Names.{is_word, in_scope, camel_case, package_of, name_at, entry_name, names_of_field, names_of_enum, message_name, message_names, scope_of, declared_by_message, declared_by_enum, declared_names, AllDiffer}
use Rattle.pb_schema.specs.Types.{MessageView, FileView, Types}
use Rattle.pb_schema.specs.Rules.{IsPool, AreWords, MessageIsOfWords, EnumIsOfWords, IsFree}
use Rattle.pb_graphs.proofs.ContainsLemmas.{Contains-first, Contains-later}
use Rattle.pb_schema.proofs.NameLemmas.{scope_of-names}
use Rattle.pb_schema.proofs.NameTreeLemmas.{HasNoDot, same_scope, word_has_no_dot, in_scope-some}
use Rattle.pb_link_names.specs.Declarations.{declarations}
use Rattle.pb_link_rules.specs.Rules.{key_name, value_name}
use Rattle.pb_link.specs.ToDecls.{decls_of}
use Rattle.pb_link.proofs.ForestLemmas.{In, in_all, in_left, in_right, in_flat, all_append, all_each, all_flat}
use Rattle.pb_link.proofs.FlatLemmas.{before}
use Rattle.pb_link.proofs.WholeLemmas.{all_at}
use Rattle.pb_link.proofs.ReorderLemmas.{reordered_all, reordered_differ, reordered_back, differ_right, differ_apart, differ_append}
use Rattle.pb_link.proofs.EachDeclaredLemmas.{Scope}
use Rattle.pb_link.proofs.DeclaredNamesLemmas.{names_of}
use Rattle.pb_link.proofs.NamesDifferLemmas.{parts_in, own_in, entries_in, all_entries, all_others, entry_alone, entry_full, known_names, names_split}

pub all_of_in : {X : Type 0} (P : X → Type 0) (xs : List X) → ((x : X) → In x xs → P x) → AllByRecursion P xs
all_of_in P [] give = tt
all_of_in P (x ∷ xs) give = (give x (inl refl), all_of_in P xs (λ y h. give y (inr h)))

pub contains_in : {X : Type 0} (xs : List X) (x : X) → In x xs → Contains xs x
contains_in [] x h = absurd h
contains_in (y ∷ xs) x (inl e) = subst (Contains (y ∷ xs)) (sym e) (Contains-first y xs)
contains_in (y ∷ xs) x (inr h) = Contains-later x y xs (contains_in xs x h)

pub in_get : {X : Type 0} (xs : List X) (i : ℕ) (x : X) → slice_get xs i ≡ Some x → In x xs
in_get xs i x at = all_at (λ y. In y xs) xs i x (all_of_in (λ y. In y xs) xs (λ y h. h)) at

-- PARTS OF ENTRIES

key_no_dot : HasNoDot key_name
key_no_dot = word_has_no_dot key_name refl

value_no_dot : HasNoDot value_name
value_no_dot = word_has_no_dot value_name refl

other_entry : (x name : List ℕ) (es : List (List ℕ)) → HasNoDot name → AllByRecursion (λ e. x ≢ e) es → AllByRecursion (λ y. in_scope x name ≢ y) (flat_map parts_in es)
other_entry x name [] word all = tt
other_entry x name (e ∷ es) word all = (λ h. all.0 (same_scope x e name key_name word key_no_dot h).0, (λ h. all.0 (same_scope x e name value_name word value_no_dot h).0, other_entry x name es word all.1))

parts_differ : (es : List (List ℕ)) → AllDiffer es → AllDiffer (flat_map parts_in es)
parts_differ [] h = tt
parts_differ (e ∷ es) h = ((λ same. key_value (same_scope e e key_name value_name key_no_dot value_no_dot same).1, other_entry e key_name es key_no_dot h.0), (other_entry e value_name es value_no_dot h.0, parts_differ es h.1))
  where
    key_value : key_name ≡ value_name → ⊥
    key_value same = cc

all_each_flat : {X Y : Type 0} (Q : Y → Type 0) (g : X → List Y) (xs : List X) → ((x : X) → AllByRecursion Q (g x)) → AllByRecursion Q (flat_map g xs)
all_each_flat Q g [] give = tt
all_each_flat Q g (x ∷ xs) give = all_append Q (g x) (flat_map g xs) (give x) (all_each_flat Q g xs give)

some_behind : (xs ys : List ℕ) → ys ≢ [] → xs ++ ys ≢ []
some_behind [] ys some e = some e
some_behind (x ∷ xs) ys some e = cc

entry_there : codes "Entry" ≢ []
entry_there e = cc

entry_some : (scope name : List ℕ) (s : Shape) → AllByRecursion (λ e. e ≢ []) (entry_alone scope name s)
entry_some scope name (shape.Map key) = (in_scope-some scope (entry_name name) (some_behind (camel_case true name) (codes "Entry") entry_there), tt)
entry_some scope name shape.Implicit = tt
entry_some scope name shape.Explicit = tt
entry_some scope name (shape.OneofMember o) = tt
entry_some scope name (shape.List packed) = tt

-- WHAT SCOPES ARE

-- no entry message has the full name
abbrev pub IsNoEntry : Types → List ℕ → Type 0
IsNoEntry ts name = In name (all_entries ts) → ⊥

-- a word in a scope that is no entry's
record IsScoped (ts : Types) (name : List ℕ) : Type 0 where
  scope : List ℕ
  word : List ℕ
  is : name ≡ in_scope scope word
  no_dot : HasNoDot word
  no_entry : IsNoEntry ts scope

module _ (ts : Types) (pool : IsPool ts) where
  pub known_differ : AllDiffer (all_others ts ++ all_entries ts)
  known_differ = reordered_differ (declared_names ts) (all_others ts ++ all_entries ts) (known_names ts) pool.names.names_differ

  pub is_known : (name : List ℕ) → In name (all_others ts ++ all_entries ts) → Contains (declared_names ts) name
  is_known name h = in_all (Contains (declared_names ts)) (all_others ts ++ all_entries ts) name (reordered_all (Contains (declared_names ts)) (declared_names ts) (all_others ts ++ all_entries ts) (known_names ts) (all_of_in (Contains (declared_names ts)) (declared_names ts) (contains_in (declared_names ts)))) h

  pub message_no_entry : (t : MessageView) → In t ts.messages → IsNoEntry ts (message_name ts.files ts.messages t)
  message_no_entry t there h =
      let name = message_name ts.files ts.messages t in
      let own : In name (all_others ts) = in_left name (flat_map (own_in ts) ts.messages) _ (in_flat (own_in ts) ts.messages t name there (inl refl)) in
      in_all (λ y. name ≢ y) (all_entries ts) name (in_all (λ x. AllByRecursion (λ y. x ≢ y) (all_entries ts)) (all_others ts) name (differ_apart (all_others ts) (all_entries ts) known_differ) own) h refl

  pub empty_no_entry : IsNoEntry ts []
  empty_no_entry h = in_all (λ e. e ≢ []) (all_entries ts) [] (all_each_flat (λ e. e ≢ []) (entries_in ts) ts.messages (λ t. all_each_flat (λ e. e ≢ []) (entry_full (message_name ts.files ts.messages t)) t.fields (λ f. entry_some (message_name ts.files ts.messages t) f.name f.shape))) h refl

  package_no_entry : (i : ℕ) (f : FileView) → slice_get ts.files i ≡ Some f → IsNoEntry ts f.package_name
  package_no_entry i f there h = by f.package_name (all_at (λ (g : FileView). IsFree (declared_names ts) g.package_name) ts.files i f pool.names.packages_free there) h
    where
      by : (name : List ℕ) → IsFree (declared_names ts) name → IsNoEntry ts name
      by [] free h = empty_no_entry h
      by (c ∷ cs) free h = free.0 (is_known (c ∷ cs) (in_right (c ∷ cs) (all_others ts) (all_entries ts) h))

  scope_no_entry : (file : ℕ) (parent : Option ℕ) → IsNoEntry ts (Scope ts file parent)
  scope_no_entry file None = by (slice_get ts.files file) refl
    where
      of_file : Option FileView → List ℕ
      of_file None = []
      of_file (Some f) = f.package_name

      by : (o : Option FileView) → slice_get ts.files file ≡ o → IsNoEntry ts (package_of ts.files file)
      by None is = subst (IsNoEntry ts) (sym (ap (λ o. of_file o) is)) empty_no_entry
      by (Some f) is = subst (IsNoEntry ts) (sym (ap (λ o. of_file o) is)) (package_no_entry file f is)
  scope_no_entry file (Some p) = by (slice_get (message_names ts) p) refl
    where
      of_name : Option (List ℕ) → List ℕ
      of_name None = []
      of_name (Some name) = name

      by : (o : Option (List ℕ)) → slice_get (message_names ts) p ≡ o → IsNoEntry ts (name_at (message_names ts) p)
      by None is = subst (IsNoEntry ts) (sym (ap (λ o. of_name o) is)) empty_no_entry
      by (Some name) is = subst (IsNoEntry ts) (sym (ap (λ o. of_name o) is)) (in_all (IsNoEntry ts) (message_names ts) name (all_named ts.messages (λ t h. message_no_entry t h)) (in_get (message_names ts) p name is))
        where
          all_named : (ms : List MessageView) → ((t : MessageView) → In t ms → IsNoEntry ts (message_name ts.files ts.messages t)) → AllByRecursion (IsNoEntry ts) (map (message_name ts.files ts.messages) ms)
          all_named [] give = tt
          all_named (t ∷ ms) give = (give t (inl refl), all_named ms (λ u h. give u (inr h)))

  scoped_in : (scope : List ℕ) → IsNoEntry ts scope → (names : List (List ℕ)) → AreWords names → AllByRecursion (IsScoped ts) (map (in_scope scope) names)
  scoped_in scope apart [] words = tt
  scoped_in scope apart (n ∷ names) words = (record { scope = scope; word = n; is = refl; no_dot = word_has_no_dot n words.0; no_entry = apart }, scoped_in scope apart names words.1)

  pub scope_is : (file : ℕ) (parent : Option ℕ) → scope_of ts.files ts.messages file parent ≡ Scope ts file parent
  scope_is file parent = scope_of-names ts.files ts.messages file parent (λ i p less is. before ts pool i p is)

  of_scope_no : (file : ℕ) (parent : Option ℕ) → IsNoEntry ts (scope_of ts.files ts.messages file parent)
  of_scope_no file parent = subst (IsNoEntry ts) (sym (scope_is file parent)) (scope_no_entry file parent)

  message_scoped : (t : MessageView) → In t ts.messages → AllByRecursion (IsScoped ts) (declared_by_message ts.files ts.messages t)
  message_scoped t there =
      let words : MessageIsOfWords t = in_all MessageIsOfWords ts.messages t pool.names.message_words there in (
        (scoped_in (scope_of ts.files ts.messages t.file t.parent) (of_scope_no t.file t.parent) (t.name ∷ []) (words.0, tt)).0,
        scoped_in (message_name ts.files ts.messages t) (message_no_entry t there) (flat_map names_of_field t.fields ++ t.oneofs)
            (all_append (λ name. IsTrue (is_word name)) (flat_map names_of_field t.fields) t.oneofs (all_flat (λ f. AreWords (names_of_field f)) (λ name. IsTrue (is_word name)) names_of_field t.fields (λ f h. h) words.1) words.2),
      )

  all_scoped : AllByRecursion (IsScoped ts) (all_others ts ++ all_entries ts)
  all_scoped = reordered_all (IsScoped ts) (declared_names ts) (all_others ts ++ all_entries ts) (known_names ts)
      (all_append (IsScoped ts) (flat_map (declared_by_message ts.files ts.messages) ts.messages) (flat_map (declared_by_enum ts.files ts.messages) ts.enums)
      (all_flat (λ t. In t ts.messages) (IsScoped ts) (declared_by_message ts.files ts.messages) ts.messages message_scoped (all_of_in (λ t. In t ts.messages) ts.messages (λ t h. h)))
      (all_flat EnumIsOfWords (IsScoped ts) (declared_by_enum ts.files ts.messages) ts.enums (λ e words. scoped_in (scope_of ts.files ts.messages e.file e.parent) (of_scope_no e.file e.parent) (names_of_enum e) words) pool.names.enum_words))

  -- what an entry message declares has no other name's
  apart_from : (name : List ℕ) → IsScoped ts name → AllByRecursion (λ y. name ≢ y) (flat_map parts_in (all_entries ts))
  apart_from name s = all_flat (λ e. In e (all_entries ts)) (λ y. name ≢ y) parts_in (all_entries ts)
      (λ e there. (other e there key_name key_no_dot, (other e there value_name value_no_dot, tt)))
      (all_of_in (λ e. In e (all_entries ts)) (all_entries ts) (λ e h. h))
    where
      other : (e : List ℕ) → In e (all_entries ts) → (part : List ℕ) → HasNoDot part → name ≢ in_scope e part
      other e there part word same = s.no_entry (subst (λ n. In n (all_entries ts)) (sym (same_scope s.scope e s.word part s.no_dot word (sym s.is ∙ same)).0) there)

  pub names_differ : AllDiffer (names_of (declarations (decls_of ts)))
  names_differ = reordered_differ ((all_others ts ++ all_entries ts) ++ flat_map parts_in (all_entries ts)) (names_of (declarations (decls_of ts))) (reordered_back (names_of (declarations (decls_of ts))) ((all_others ts ++ all_entries ts) ++ flat_map parts_in (all_entries ts)) (names_split ts pool))
      (differ_append (all_others ts ++ all_entries ts) (flat_map parts_in (all_entries ts)) known_differ
      (parts_differ (all_entries ts) (differ_right (all_others ts) (all_entries ts) known_differ))
      (all_each (IsScoped ts) (λ name. AllByRecursion (λ y. name ≢ y) (flat_map parts_in (all_entries ts))) (all_others ts ++ all_entries ts) apart_from all_scoped))
