-- The declarations of a pool's types have words for names, and full names that nothing else has.
use Rattle.std.proofs.Common.{◌≡◌, ◌≢◌, ℕ, zero, suc, inl, inr, List, [], ◌∷◌, ◌++◌, Bool, true, false, not, ◌&&◌, ◌||◌, ◌==◌, map, length, take, refl, sym, ap, ◌∙◌, subst, arith, Some, Contains}
use Rattle.std.specs.Prelude.{ℤ, slice_get, filter, IsTrue, if◌then◌else◌}
use Rattle.std.specs.List.{AllByRecursion, flat_map, list_all, list_any}
use Rattle.std.specs.Str.{bytes_eq}
use Rattle.std.specs.Char.{is_ascii_digit}
use Rattle.std.proofs.lemmas.Bool.{false≢true}
use Rattle.std.proofs.lemmas.Bool.Decides.{Decides-eqb}
use Rattle.std.proofs.lemmas.List.{append_assoc}
use Rattle.std.proofs.lemmas.Option.{none-some}
use Rattle.std.proofs.lemmas.Slice.Eq.{bytes_eq-Decides}
use Rattle.pb_schema.specs.declared.types.Kind.{Kind}
use Rattle.pb_schema.specs.declared.types.Shape.{Shape}
use Rattle.pb_schema.specs.declared.types.Shape.TheVariants as shape
use Rattle.pb_schema.specs.Names.{begins_word, continues_word, is_word, is_package, in_scope, entry_name, with_front, fronts_from, packages_of, names_of_field, declared_names}
use Rattle.pb_schema.specs.Types.{FieldView, MessageView, EnumView, FileView, Types}
use Rattle.pb_schema.specs.Rules.{IsPool, IsFree, AreWords, MessageIsOfWords, EnumIsOfWords}
use Rattle.pb_link_names.specs.Declarations.{Declaration, declarations, is_named, full_name, has_name}
use Rattle.pb_link_names.specs.Lookup.{makes_package, is_package_name, every_file}
use Rattle.pb_link_rules.specs.Rules.{World, key_name, value_name, name_is_right, name_is_free}
use Rattle.pb_link_rules.specs.Link.{IsWorldOf}
use Rattle.pb_link.specs.ToDecls.{is_optional_view, synthetic_names, declared_head, decls_of}
use Rattle.pb_link.proofs.DeclaredLemmas.{eq_false}
use Rattle.pb_link.proofs.ForestLemmas.{In, in_all, in_left, in_right, all_append, all_flat}
use Rattle.pb_link.proofs.FlatLemmas.{Stands}
use Rattle.pb_link.proofs.WholeLemmas.{all_at}
use Rattle.pb_link_names.proofs.NameSetsLemmas.{fronts_append}
use Rattle.pb_link.proofs.ReorderLemmas.{reordered_all, reordered_back}
use Rattle.pb_link.proofs.DeclaredNamesLemmas.{names_of}
use Rattle.pb_link.proofs.NamesDifferLemmas.{parts_in, all_entries, all_others, names_split}
use Rattle.pb_link.proofs.NamesApartLemmas.{all_of_in, is_known, empty_no_entry}
use Rattle.pb_link.proofs.FromLemmas.{Two, IsFrom, from_file, from_message, from_field, from_oneof, from_entry, from_key, from_value, from_enum, from_enum_value, IsMapField}
use Rattle.pb_link.proofs.OneNameLemmas.{name_among, none_before}
use Rattle.pb_link.proofs.DeclaredLookupLemmas.{world_differs}
use Rattle.pb_link.proofs.InMessageLemmas.{from_at}

-- PACKAGES

-- a front of a name, which a dot follows there
fronts_of : (front cs y : List ℕ) → In y (fronts_from front cs) → (rest : List ℕ) × (front ++ cs ≡ y ++ 46 ∷ rest)
fronts_of front [] y h = absurd h
fronts_of front (c ∷ cs) y h = by (c == 46) (Decides-eqb c 46).0 h (λ k. let r = fronts_of (front ++ c ∷ []) cs y k in (r.0, sym (append_assoc front (c ∷ []) cs) ∙ r.1))
  where
    by : (b : Bool) → (b ≡ true → c ≡ 46) → In y (with_front b front (fronts_from (front ++ c ∷ []) cs)) → (In y (fronts_from (front ++ c ∷ []) cs) → (rest : List ℕ) × (front ++ c ∷ cs ≡ y ++ 46 ∷ rest)) → (rest : List ℕ) × (front ++ c ∷ cs ≡ y ++ 46 ∷ rest)
    by true dot (inl e) again = (cs, ap (λ d. front ++ d ∷ cs) (dot refl) ∙ ap (λ l. l ++ 46 ∷ cs) (sym e))
    by true dot (inr k) again = again k
    by false dot k again = again k

front_there : (x rest : List ℕ) → In x (fronts_from [] (x ++ 46 ∷ rest))
front_there x rest = subst (In x) (sym (fronts_append [] x (46 ∷ rest))) (in_right x (fronts_from [] x) (fronts_from ([] ++ x) (46 ∷ rest)) (inl refl))

-- what stands around a package is one
outer_package : (x word name : List ℕ) → x ≢ [] → In (in_scope x word) (packages_of name) → In x (packages_of name)
outer_package [] word name some h = absurd (some refl)
outer_package (c ∷ cs) word [] some h = absurd h
outer_package (c ∷ cs) word (p ∷ ps) some (inl e) = inr (subst (λ l. In (c ∷ cs) (fronts_from [] l)) e (front_there (c ∷ cs) word))
outer_package (c ∷ cs) word (p ∷ ps) some (inr h) =
    let r = fronts_of [] (p ∷ ps) ((c ∷ cs) ++ 46 ∷ word) h in
    inr (subst (λ l. In (c ∷ cs) (fronts_from [] l)) (sym r.1) (subst (In (c ∷ cs)) (sym (fronts_append [] ((c ∷ cs) ++ 46 ∷ word) (46 ∷ r.0))) (in_left (c ∷ cs) (fronts_from [] ((c ∷ cs) ++ 46 ∷ word)) (fronts_from ([] ++ ((c ∷ cs) ++ 46 ∷ word)) (46 ∷ r.0)) (front_there (c ∷ cs) word))))

-- no file of the pool makes a package of the name
abbrev IsNoPackage : Types → List ℕ → Type 0
IsNoPackage ts name = (i : ℕ) (f : FileView) → slice_get ts.files i ≡ Some f → In name (packages_of f.package_name) → ⊥

none_named : (name : List ℕ) (ps : List (List ℕ)) → (In name ps → ⊥) → list_any (bytes_eq name) ps ≡ false
none_named name [] none = refl
none_named name (p ∷ ps) none = by (bytes_eq name p) (bytes_eq-Decides name p).0 (none_named name ps (λ h. none (inr h)))
  where
    by : (b : Bool) → (b ≡ true → name ≡ p) → list_any (bytes_eq name) ps ≡ false → (b || list_any (bytes_eq name) ps) ≡ false
    by true is rest = absurd (none (inl (is refl)))
    by false is rest = rest

makes_none : (ts : Types) (name : List ℕ) → IsNoPackage ts name → (d : Declaration) → IsFrom ts d → makes_package name d.item ≡ false
makes_none ts name apart d (from_file i p f there) = none_named name (packages_of f.package_name) (apart i f there)
makes_none ts name apart d (from_message m there p inner) = refl
makes_none ts name apart d (from_field m there p i r g at) = refl
makes_none ts name apart d (from_oneof m there p i n at) = refl
makes_none ts name apart d (from_entry m there p j g key at) = refl
makes_none ts name apart d (from_key m there p j g key at) = refl
makes_none ts name apart d (from_value m there p j g key at) = refl
makes_none ts name apart d (from_enum e there p) = refl
makes_none ts name apart d (from_enum_value e there p i v at) = refl

no_package_in : (ts : Types) (name : List ℕ) → IsNoPackage ts name → (ds : List Declaration) → AllByRecursion (IsFrom ts) ds → is_package_name ds every_file name ≡ false
no_package_in ts name apart [] all = refl
no_package_in ts name apart (d ∷ ds) all = ap (λ b. b || list_any (λ (e : Declaration). every_file e.file && makes_package name e.item) ds) (makes_none ts name apart d all.0) ∙ no_package_in ts name apart ds all.1

module _ (ts : Types) (pool : IsPool ts) where
  known_no_package : (name : List ℕ) → In name (all_others ts ++ all_entries ts) → IsNoPackage ts name
  known_no_package name known i f there h = in_all (λ p. ¬ Contains (declared_names ts) p) (packages_of f.package_name) name (all_at (λ (g : FileView). IsFree (declared_names ts) g.package_name) ts.files i f pool.names.packages_free there) h (is_known ts pool name known)

  part_no_package : (entry word : List ℕ) → In entry (all_entries ts) → IsNoPackage ts (in_scope entry word)
  part_no_package entry word there i f at h = known_no_package entry (in_right entry (all_others ts) (all_entries ts) there) i f at (outer_package entry word f.package_name (λ e. empty_no_entry ts pool (subst (λ n. In n (all_entries ts)) e there)) h)

  all_no_package : AllByRecursion (IsNoPackage ts) (names_of (declarations (decls_of ts)))
  all_no_package = reordered_all (IsNoPackage ts) ((all_others ts ++ all_entries ts) ++ flat_map parts_in (all_entries ts)) (names_of (declarations (decls_of ts))) (reordered_back (names_of (declarations (decls_of ts))) ((all_others ts ++ all_entries ts) ++ flat_map parts_in (all_entries ts)) (names_split ts pool))
      (all_append (IsNoPackage ts) (all_others ts ++ all_entries ts) (flat_map parts_in (all_entries ts))
      (all_of_in (IsNoPackage ts) (all_others ts ++ all_entries ts) known_no_package)
      (all_flat (λ e. In e (all_entries ts)) (IsNoPackage ts) parts_in (all_entries ts) (λ e there. (part_no_package e key_name there, (part_no_package e value_name there, tt))) (all_of_in (λ e. In e (all_entries ts)) (all_entries ts) (λ e h. h))))

  -- NameTaken
  pub name_free : (w : World) → IsWorldOf (decls_of ts) w → (place : ℕ) (d : Declaration) → slice_get w.declared place ≡ Some d → name_is_free w place d ≡ true
  name_free w world place d there = by (is_named d.item) refl
    where
      apart : is_named d.item ≡ true → IsNoPackage ts (full_name d)
      apart is = in_all (IsNoPackage ts) (names_of w.declared) (full_name d) (subst (λ ds. AllByRecursion (IsNoPackage ts) (names_of ds)) (sym world.declared) all_no_package) (name_among w.declared place d there is)

      by : (b : Bool) → is_named d.item ≡ b → (not b || (not (list_any (has_name (full_name d)) (take place w.declared)) && not (is_package_name w.declared every_file (full_name d)))) ≡ true
      by false is = refl
      by true is =
          ap (λ b. not b && not (is_package_name w.declared every_file (full_name d))) (none_before w.declared (world_differs ts pool w world) place d there is)
          ∙ ap not (no_package_in ts (full_name d) (apart is) w.declared (all_of_places w.declared (λ q e at. from_at ts pool w world q e at)))
        where
          all_of_places : (ds : List Declaration) → ((q : ℕ) (e : Declaration) → slice_get ds q ≡ Some e → IsFrom ts e) → AllByRecursion (IsFrom ts) ds
          all_of_places [] give = tt
          all_of_places (e ∷ ds) give = (give 0 e refl, all_of_places ds (λ q x at. give (suc q) x at))

  -- WORDS

  named_file : (name : List ℕ) → name ≢ [] → not (length name == 0) ≡ true
  named_file [] some = absurd (some refl)
  named_file (c ∷ cs) some = ap not (eq_false (length (c ∷ cs)) 0 (λ e. omega (arith, e)))

  or_second : (a b : Bool) → b ≡ true → (a || b) ≡ true
  or_second true b h = refl
  or_second false b h = h

  continues : (c : ℕ) → begins_word c ≡ true → continues_word c ≡ true
  continues c h = ap (λ b. b || is_ascii_digit c) h

  and_left : (a b : Bool) → (a && b) ≡ true → a ≡ true
  and_left true b h = refl
  and_left false b h = absurd (false≢true h)

  and_right : (a b : Bool) → (a && b) ≡ true → b ≡ true
  and_right true b h = h
  and_right false b h = absurd (false≢true h)

  line_word : (name : List ℕ) → is_word name ≡ true → is_word (95 ∷ name) ≡ true
  line_word [] h = refl
  line_word (c ∷ cs) h = ap (λ b. b && list_all continues_word cs) (continues c (and_left (begins_word c) (list_all continues_word cs) h)) ∙ and_right (begins_word c) (list_all continues_word cs) h

  first_word : (f : FieldView) → AreWords (names_of_field f) → is_word f.name ≡ true
  first_word f words = by f.shape words
    where
      by : (s : Shape) → AreWords (names_of_field (record f { shape = s })) → is_word f.name ≡ true
      by (shape.Map key) h = h.0
      by shape.Implicit h = h.0
      by shape.Explicit h = h.0
      by (shape.OneofMember o) h = h.0
      by (shape.List packed) h = h.0

  words_of : (m : ℕ × MessageView) → Stands ts m → MessageIsOfWords m.1
  words_of m there = all_at MessageIsOfWords ts.messages m.0 m.1 pool.names.message_words there

  field_words : (m : ℕ × MessageView) → Stands ts m → (j : ℕ) (g : FieldView) → slice_get m.1.fields j ≡ Some g → AreWords (names_of_field g)
  field_words m there j g at = all_at (λ f. AreWords (names_of_field f)) m.1.fields j g (words_of m there).1 at

  made_words : (two : Bool) (fs : List FieldView) → AllByRecursion (λ f. AreWords (names_of_field f)) fs → AllByRecursion (λ name. is_word name ≡ true) (synthetic_names two fs)
  made_words two [] all = tt
  made_words two (f ∷ fs) all = by (is_optional_view two f) (made_words two fs all.1)
    where
      by : (b : Bool) → AllByRecursion (λ name. is_word name ≡ true) (synthetic_names two fs) → AllByRecursion (λ name. is_word name ≡ true) (map (λ (g : FieldView). 95 ∷ g.name) (if b then f ∷ filter (is_optional_view two) fs else filter (is_optional_view two) fs))
      by true rest = (line_word f.name (first_word f all.0), rest)
      by false rest = rest

  map_word : (g : FieldView) (m : ℕ × MessageView) (j : ℕ) (key : Kind) → IsMapField m j g key → AreWords (names_of_field g) → is_word (entry_name g.name) ≡ true
  map_word g m j key is words = by g.shape is.is_map words
    where
      by : (s : Shape) → s ≡ shape.Map key → AreWords (names_of_field (record g { shape = s })) → is_word (entry_name g.name) ≡ true
      by s same h = (subst (λ x. AreWords (names_of_field (record g { shape = x }))) same h).1.0

  value_word : (e : EnumView) → EnumIsOfWords e → (i : ℕ) (v : List ℕ × ℤ) → slice_get e.values i ≡ Some v → is_word v.0 ≡ true
  value_word e words i v at = among e.values words.1 i at
    where
      some_same : {A : Type 0} (a b : A) → Some a ≡ Some b → a ≡ b
      some_same a b h = cc

      among : (vs : List (List ℕ × ℤ)) → AreWords (map (λ u. u.0) vs) → (k : ℕ) → slice_get vs k ≡ Some v → is_word v.0 ≡ true
      among [] all k h = absurd (none-some v h)
      among (u ∷ vs) all zero h = subst (λ x. is_word x.0 ≡ true) (some_same u v h) all.0
      among (u ∷ vs) all (suc k) h = among vs all.1 k h

  -- BadName
  pub name_right : (d : Declaration) → IsFrom ts d → name_is_right d.item ≡ true
  name_right d (from_file i p f there) =
      ap (λ b. b && is_package f.package_name) (named_file f.name (all_at (λ (g : FileView). g.name ≢ []) ts.files i f pool.files.named there)) ∙ all_at (λ (g : FileView). IsTrue (is_package g.package_name)) ts.files i f pool.files.packages there
  name_right d (from_message m there p inner) = (words_of m there).0
  name_right d (from_field m there p i r g at) = first_word g (field_words m there i g at)
  name_right d (from_oneof m there p i name at) =
      or_second (not (is_named d.item)) (is_word name) (all_at (λ n. is_word n ≡ true) (declared_head ts m.0 m.1).oneofs i name (all_append (λ n. is_word n ≡ true) m.1.oneofs (synthetic_names (Two ts m) m.1.fields) (words_of m there).2 (made_words (Two ts m) m.1.fields (words_of m there).1)) at)
  name_right d (from_entry m there p j g key is) = map_word g m j key is (field_words m there j g is.there)
  name_right d (from_key m there p j g key is) = refl
  name_right d (from_value m there p j g key is) = refl
  name_right d (from_enum e there p) = (all_at EnumIsOfWords ts.enums e.0 e.1 pool.names.enum_words there).0
  name_right d (from_enum_value e there p i v at) = value_word e.1 (all_at EnumIsOfWords ts.enums e.0 e.1 pool.names.enum_words there) i v at
