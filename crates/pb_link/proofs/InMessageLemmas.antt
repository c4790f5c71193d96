-- The fields and the entry messages of a pool's message stand in its declaration.
use Rattle.std.proofs.Common.{◌≡◌, ◌≢◌, ℕ, ◌+◌, List, [], ◌∷◌, inl, refl, sym, ap, ◌∙◌, subst, arith, Option, Some, None, Contains}
use Rattle.std.specs.Prelude.{slice_get, IsTrue}
use Rattle.std.specs.List.{AllByRecursion, flat_map}
use Rattle.std.proofs.lemmas.Bool.{false≢true}
use Rattle.std.proofs.lemmas.Option.{none-some}
use Rattle.pb_schema.specs.Names.{is_word, message_name, declared_names, scope_of}
use Rattle.pb_schema.specs.Types.{MessageView, FileView, Types}
use Rattle.pb_schema.specs.Rules.{IsPool, IsFree, MessageIsOfWords}
use Rattle.pb_schema.proofs.NameTreeLemmas.{in_scope-some}
use Rattle.pb_declarations.specs.Decls.{DeclaredField, MessageHead, DeclaredMessages, DeclaredFile}
use Rattle.pb_link_names.specs.Declarations.{Item, a_file, a_message, a_field, a_oneof, an_enum, a_value, a_service, a_method, Declaration, is_named, full_name}
use Rattle.pb_link_rules.specs.Rules.{World}
use Rattle.pb_link_rules.specs.Link.{IsWorldOf}
use Rattle.pb_link_names.specs.TypeRefs.{file_in}
use Rattle.pb_link.specs.ToDecls.{decls_of}
use Rattle.pb_link_names.proofs.BehindLemmas.{MayStandIn, StandsBehind, scope_in}
use Rattle.pb_link.proofs.KindLemmas.{stands_behind}
use Rattle.pb_link.proofs.ForestLemmas.{in_left, in_flat}
use Rattle.pb_link.proofs.FlatLemmas.{Stands}
use Rattle.pb_link.proofs.WholeLemmas.{all_at}
use Rattle.pb_link.proofs.EachDeclaredLemmas.{Name, called}
use Rattle.pb_link.proofs.NamesDifferLemmas.{own_in, all_others, all_entries}
use Rattle.pb_link.proofs.NamesApartLemmas.{in_get, is_known}
use Rattle.pb_link.proofs.FromLemmas.{IsFrom, from_file, from_message, from_field, from_oneof, from_entry, from_key, from_value, from_enum, from_enum_value, all_from}
use Rattle.pb_link.proofs.OneNameLemmas.{one_place}
use Rattle.pb_link.proofs.DeclaredLookupLemmas.{message_placed, world_differs}

-- a declaration of a file is that of one of the pool's files
file_from : (ts : Types) (d : Declaration) → IsFrom ts d → (f : DeclaredFile) → file_in d.item ≡ Some f → (i : ℕ) × (g : FileView) × (slice_get ts.files i ≡ Some g) × (f.package_name ≡ g.package_name)
file_from ts d (from_file i place g there) f is = (i, g, there, by is)
  where
    by : {h k : DeclaredFile} → Some h ≡ Some k → k.package_name ≡ h.package_name
    by e = ap (λ x. package_or x) (sym e)
      where
        package_or : Option DeclaredFile → List ℕ
        package_or None = []
        package_or (Some x) = x.package_name
file_from ts d (from_message m there parent inner) f is = absurd (none-some f is)
file_from ts d (from_field m there parent i r g at) f is = absurd (none-some f is)
file_from ts d (from_oneof m there parent i name at) f is = absurd (none-some f is)
file_from ts d (from_entry m there parent j g key at) f is = absurd (none-some f is)
file_from ts d (from_key m there parent j g key at) f is = absurd (none-some f is)
file_from ts d (from_value m there parent j g key at) f is = absurd (none-some f is)
file_from ts d (from_enum e there parent) f is = absurd (none-some f is)
file_from ts d (from_enum_value e there parent i v at) f is = absurd (none-some f is)

-- a file or a message
data Outer (it : Item) : Type 0 where
  in_a_file : (f : DeclaredFile) → it ≡ a_file f → Outer it
  in_a_message : (head : MessageHead) (inner : DeclaredMessages) → it ≡ a_message head inner → Outer it

outer_field : (head : MessageHead) (i : ℕ) (f : DeclaredField) (it : Item) → MayStandIn (a_field head i f) it → Outer it
outer_field head i f (a_message h inner) may = in_a_message h inner refl
outer_field head i f (a_file g) may = absurd may
outer_field head i f (a_field h j g) may = absurd may
outer_field head i f (a_oneof h j name) may = absurd may
outer_field head i f (an_enum e) may = absurd may
outer_field head i f (a_value e j v) may = absurd may
outer_field head i f (a_service s) may = absurd may
outer_field head i f (a_method m) may = absurd may

outer_message : (head : MessageHead) (inner : DeclaredMessages) (it : Item) → MayStandIn (a_message head inner) it → Outer it
outer_message head inner (a_message h among) may = in_a_message h among refl
outer_message head inner (a_file g) may = in_a_file g refl
outer_message head inner (a_field h j g) may = absurd may
outer_message head inner (a_oneof h j name) may = absurd may
outer_message head inner (an_enum e) may = absurd may
outer_message head inner (a_value e j v) may = absurd may
outer_message head inner (a_service s) may = absurd may
outer_message head inner (a_method m) may = absurd may

scope_of_file : (o : Declaration) (f : DeclaredFile) → o.item ≡ a_file f → scope_in o ≡ f.package_name
scope_of_file o f is = subst (λ it. scope_in (record o { item = it }) ≡ f.package_name) (sym is) refl

scope_of_message : (o : Declaration) (head : MessageHead) (inner : DeclaredMessages) → o.item ≡ a_message head inner → full_name o ≡ scope_in o
scope_of_message o head inner is = subst (λ it. full_name (record o { item = it }) ≡ scope_in (record o { item = it })) (sym is) refl

zero_plus : (n : ℕ) → 0 + n ≡ n
zero_plus n = omega arith

no_word : IsTrue (is_word []) → ⊥
no_word word = false≢true word

word_some : (w : List ℕ) → IsTrue (is_word w) → w ≢ []
word_some w word e = no_word (subst (λ x. IsTrue (is_word x)) e word)

module _ (ts : Types) (pool : IsPool ts) where
  -- the full name of a message is none of a package
  message_known : (m : ℕ × MessageView) → Stands ts m → Contains (declared_names ts) (Name ts m.0)
  message_known m there =
      subst (Contains (declared_names ts)) (sym (called ts pool m there))
      (is_known ts pool (message_name ts.files ts.messages m.1) (in_left (message_name ts.files ts.messages m.1) (all_others ts) (all_entries ts) (in_left (message_name ts.files ts.messages m.1) (flat_map (own_in ts) ts.messages) _ (in_flat (own_in ts) ts.messages m.1 (message_name ts.files ts.messages m.1) (in_get ts.messages m.0 m.1 there) (inl refl)))))

  message_some : (m : ℕ × MessageView) → Stands ts m → Name ts m.0 ≢ []
  message_some m there e =
      let words : MessageIsOfWords m.1 = all_at MessageIsOfWords ts.messages m.0 m.1 pool.names.message_words there in
      in_scope-some (scope_of ts.files ts.messages m.1.file m.1.parent) m.1.name (word_some m.1.name words.0) (sym (called ts pool m there) ∙ e)

  no_package : (m : ℕ × MessageView) → Stands ts m → (i : ℕ) (g : FileView) → slice_get ts.files i ≡ Some g → g.package_name ≢ Name ts m.0
  no_package m there i g at same = by g.package_name (all_at (λ (f : FileView). IsFree (declared_names ts) f.package_name) ts.files i g pool.names.packages_free at) same
    where
      by : (name : List ℕ) → IsFree (declared_names ts) name → name ≡ Name ts m.0 → ⊥
      by [] free e = message_some m there (sym e)
      by (c ∷ cs) free e = free.0 (subst (Contains (declared_names ts)) (sym e) (message_known m there))

  module _ (w : World) (world : IsWorldOf (decls_of ts) w) where
    -- what each declaration at a place is from
    pub from_at : (place : ℕ) (d : Declaration) → slice_get w.declared place ≡ Some d → IsFrom ts d
    from_at place d there = all_at (IsFrom ts) w.declared place d (subst (AllByRecursion (IsFrom ts)) (sym world.declared) (all_from ts pool)) there

    -- what has a message's name for its scope, and stands in a file or in a message, stands in that message
    in_its_message : (m : ℕ × MessageView) (there : Stands ts m) (k : ℕ) (d : Declaration) → slice_get w.declared k ≡ Some d → ((f : DeclaredFile) → d.item ≡ a_file f → ⊥) → ((it : Item) → MayStandIn d.item it → Outer it) → d.scope ≡ Name ts m.0 → d.parent ≡ (message_placed ts pool w world m.0 m.1 there).place
    in_its_message m there k d at no_file outer scope = by (outer h.1.item h.4.1.item)
      where
        h : StandsBehind 0 w.declared k d
        h = stands_behind (decls_of ts) w world k d at no_file

        by : Outer h.1.item → d.parent ≡ (message_placed ts pool w world m.0 m.1 there).place
        by (in_a_file f is) =
            let from = file_from ts h.1 (from_at h.0 h.1 h.3) f (ap file_in is) in
            absurd (no_package m there from.0 from.1 from.2 (sym from.3 ∙ sym (scope_of_file h.1 f is) ∙ sym h.4.1.scope ∙ scope))
        by (in_a_message head inner is) =
            let p = message_placed ts pool w world m.0 m.1 there in
            h.4.0 ∙ zero_plus h.0 ∙ one_place w.declared (world_differs ts pool w world) h.0 p.place h.1 p.declared h.3 p.there (ap is_named is) (ap is_named p.item) (scope_of_message h.1 head inner is ∙ sym h.4.1.scope ∙ scope ∙ sym p.full)

    pub field_parent : (m : ℕ × MessageView) (there : Stands ts m) (k : ℕ) (d : Declaration) (head : MessageHead) (i : ℕ) (f : DeclaredField) → slice_get w.declared k ≡ Some d → d.item ≡ a_field head i f → d.scope ≡ Name ts m.0 → d.parent ≡ (message_placed ts pool w world m.0 m.1 there).place
    field_parent m there k d head i f at is scope = in_its_message m there k d at (λ g e. none-some g (ap file_in (sym is ∙ e))) (λ it may. outer_field head i f it (subst (λ x. MayStandIn x it) is may)) scope

    pub entry_parent : (m : ℕ × MessageView) (there : Stands ts m) (k : ℕ) (d : Declaration) (head : MessageHead) (inner : DeclaredMessages) → slice_get w.declared k ≡ Some d → d.item ≡ a_message head inner → d.scope ≡ Name ts m.0 → d.parent ≡ (message_placed ts pool w world m.0 m.1 there).place
    entry_parent m there k d head inner at is scope = in_its_message m there k d at (λ g e. none-some g (ap file_in (sym is ∙ e))) (λ it may. outer_message head inner it (subst (λ x. MayStandIn x it) is may)) scope
