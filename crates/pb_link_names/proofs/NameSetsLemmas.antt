-- Sets of packages, and the packages that declarations make.
use Rattle.std.proofs.Common.{◌≡◌, ℕ, zero, suc, ◌+◌, ◌<◌, ◌≤◌, ⊎_elim, List, [], ◌∷◌, ◌++◌, map, length, take, get_or, set, replicate, Bool, true, false, ◌||◌, ◌&&◌, ◌==◌, refl, sym, ap, ◌∙◌, subst, arith, Contains, Option, Some, None, add-zero, append_assoc, append-nil}
use Rattle.std.specs.Prelude.{if◌then◌else◌}
use Rattle.std.specs.List.{list_any, enumerate_from}
use Rattle.std.specs.Cmp.{unsigned_Decides}
use Rattle.std.specs.Str.{bytes_eq}
use Rattle.std.proofs.lemmas.Bool.{false≢true, cases_eq}
use Rattle.std.proofs.lemmas.Option.{none-some}
use Rattle.std.proofs.lemmas.Slice.Eq.{bytes_eq-Decides}
use Rattle.std.proofs.lemmas.List.{take_more, take_all, get_or-set_same, get_or-set_other}
use Rattle.std.proofs.lemmas.List.Elements.{Contains-push, Contains-append_left, Contains-append_right, Contains-append_cases}
use Rattle.pb_graphs.proofs.ContainsLemmas.{Contains-none, Contains-one}
use Rattle.pb_schema.specs.Names.{packages_of, fronts_from, with_front, in_scope}
use Rattle.pb_declarations.specs.Decls.{DeclaredEnum, MessageHead, DeclaredMessage, message, DeclaredMessages, no_messages, more_messages, DeclaredMethod, DeclaredService, DeclaredFile}
use Rattle.pb_link_names.specs.Declarations.{a_field, a_oneof, a_value, a_method, Declaration, fields_of, oneofs_of, values_of, enum_declared, enums_declared, head_row, message_declared, messages_declared, service_declared, services_declared, file_declared, files_declared, declarations}
use Rattle.pb_link_names.specs.Lookup.{Seen, every_file, makes_package, is_package_name}
use Rattle.pb_graphs.specs.Reach.{is_marked, IsListed}
use Rattle.pb_link_names.specs.Graphs.{is_file, sees_by}
use Rattle.pb_tries.specs.Tries.{node_of, last_node, IsTrie, ByteAdded}
use Rattle.pb_tries.proofs.TrieLemmas.{same_name, node_within, node_more, node_grown, node_shrunk, grown_size}
use Rattle.pb_tries.specs.declared.trie.NameTrie.{NameTrie}
use Rattle.pb_link_names.specs.PackageSets.{package_at, package_if, has_package, IsPackageSet, AddsNames, Marks}
use Rattle.pb_names.specs.NameSets.{NameSet}
use Rattle.pb_names.specs.NameSets.{names_in, with_name}
use Rattle.pb_link_names.specs.NameSets.{is_in_set, packages_at, own_index, ArePackagesAt, AddsPackages, ArePackages}
use Rattle.pb_link_names.specs.declared.package_set.PackageSet.{PackageSet}
use Rattle.pb_link_names.specs.declared.sight.Sight.{Sight}
use Rattle.pb_link_names.proofs.AnyLemmas.{or_cases, or_first, or_second, and_cases, and_both, any_there, there_any, same_test}

or_assoc : (a b c : Bool) → ((a || b) || c) ≡ (a || (b || c))
or_assoc true b c = refl
or_assoc false b c = refl

or_false : (a : Bool) → (a || false) ≡ a
or_false true = refl
or_false false = refl

pub any_append : {X : Type 0} (t : X → Bool) (xs ys : List X) → list_any t (xs ++ ys) ≡ (list_any t xs || list_any t ys)
any_append t [] ys = refl
any_append t (x ∷ xs) ys = ap (λ b. t x || b) (any_append t xs ys) ∙ sym (or_assoc (t x) (list_any t xs) (list_any t ys))

any_alike : {X : Type 0} (t u : X → Bool) → ((x : X) → t x ≡ u x) → (xs : List X) → list_any t xs ≡ list_any u xs
any_alike t u same [] = refl
any_alike t u same (x ∷ xs) = ap (λ b. b || list_any t xs) (same x) ∙ ap (λ b. u x || b) (any_alike t u same xs)

-- ADDING NAMES TO A SET
known : (name other : List ℕ) (names : List (List ℕ)) → list_any (bytes_eq name) names ≡ true → list_any (bytes_eq other) names ≡ (bytes_eq other name || list_any (bytes_eq other) names)
known name other names h = by (bytes_eq other name) refl
  where
    by : (b : Bool) → bytes_eq other name ≡ b → list_any (bytes_eq other) names ≡ (b || list_any (bytes_eq other) names)
    by true same = ap (λ n. list_any (bytes_eq n) names) ((bytes_eq-Decides other name).0 same) ∙ h
    by false other = refl

unknown : (name other : List ℕ) (names : List (List ℕ)) → list_any (bytes_eq other) (names ++ name ∷ []) ≡ (bytes_eq other name || list_any (bytes_eq other) names)
unknown name other names =
    any_append (bytes_eq other) names (name ∷ []) ∙ ap (λ b. list_any (bytes_eq other) names || b) (or_false (bytes_eq other name)) ∙ or_comm (list_any (bytes_eq other) names) (bytes_eq other name)
  where
    or_comm : (a b : Bool) → (a || b) ≡ (b || a)
    or_comm true true = refl
    or_comm true false = refl
    or_comm false true = refl
    or_comm false false = refl

pub name_added : (old new : NameSet) (name : List ℕ) → names_in new ≡ with_name name (names_in old) → (other : List ℕ) → is_in_set new other ≡ ((bytes_eq other name || false) || is_in_set old other)
name_added old new name names other =
    ap (list_any (bytes_eq other)) names ∙ by (list_any (bytes_eq name) (names_in old)) refl
  where
    by : (has : Bool) → list_any (bytes_eq name) (names_in old) ≡ has → list_any (bytes_eq other) (if has then names_in old else names_in old ++ name ∷ []) ≡ ((bytes_eq other name || false) || is_in_set old other)
    by true has = known name other (names_in old) has ∙ ap (λ b. b || is_in_set old other) (sym (or_false (bytes_eq other name)))
    by false has = unknown name other (names_in old) ∙ ap (λ b. b || is_in_set old other) (sym (or_false (bytes_eq other name)))

-- ADDING PACKAGES
pub none_added : (p : PackageSet) → IsPackageSet p → AddsNames [] p p
none_added p set = record { set = set; exact = λ name. refl }

not_true : (b : Bool) → (b ≡ true → ⊥) → b ≡ false
not_true false h = refl
not_true true h = absurd (h refl)

-- the name of a node is added
pub name_marked : (old new : PackageSet) (name : List ℕ) (node : ℕ) → IsPackageSet old → node_of old.names name ≡ Some node → Marks node old new → AddsNames (name ∷ []) old new
name_marked old new name node set at marks = record { set = record { trie = subst IsTrie (sym marks.names) set.trie; within = within }; exact = exact }
  where
    here : node ≤ last_node old.names
    here = node_within old.names.edges.items 0 node name (omega arith) at

    within : (n : ℕ) → package_at new n ≡ true → n ≤ last_node new.names
    within n h = subst (λ t. n ≤ last_node t) (sym marks.names) (⊎_elim
        (λ same. omega (arith, here, (unsigned_Decides n node).0 same))
        (λ was. set.within n was)
        (or_cases (n == node) (package_at old n) (sym (marks.marked n) ∙ h)))

    named : (other : List ℕ) (k : ℕ) → node_of old.names other ≡ Some k → (k == node) ≡ (bytes_eq other name || false)
    named other k is = same_test (k == node) (bytes_eq other name || false)
        (λ e. or_first (bytes_eq other name) false ((bytes_eq-Decides other name).1 (same_name old.names.edges.items node other name (is ∙ ap Some ((unsigned_Decides k node).0 e)) at)))
        (λ e. (unsigned_Decides k node).1 (one_node k (sym is ∙ ap (node_of old.names) ((bytes_eq-Decides other name).0 (sym (or_false (bytes_eq other name)) ∙ e)) ∙ at)))
      where
        one_node : (k : ℕ) → Some k ≡ Some node → k ≡ node
        one_node k e = cc

    no_node : (other : List ℕ) → node_of old.names other ≡ None → (bytes_eq other name || false) ≡ false
    no_node other is = not_true (bytes_eq other name || false) (λ e. none-some node (sym is ∙ ap (node_of old.names) ((bytes_eq-Decides other name).0 (sym (or_false (bytes_eq other name)) ∙ e)) ∙ at))

    by : (other : List ℕ) (o : Option ℕ) → node_of old.names other ≡ o → package_if new o ≡ ((bytes_eq other name || false) || package_if old o)
    by other None is = sym (or_false (bytes_eq other name || false) ∙ no_node other is)
    by other (Some k) is = marks.marked k ∙ ap (λ b. b || package_at old k) (named other k is)

    exact : (other : List ℕ) → has_package new other ≡ ((bytes_eq other name || false) || has_package old other)
    exact other = ap (λ t. package_if new (node_of t other)) marks.names ∙ by other (node_of old.names other) refl

-- a node more is no package
pub byte_added : (old new : PackageSet) (node byte child : ℕ) → IsPackageSet old → new.are_packages ≡ old.are_packages → ByteAdded old.names new.names node byte child → AddsNames [] old new
byte_added old new node byte child set same added = record { set = record { trie = added.trie; within = within }; exact = λ name. by name (node_of new.names name) refl }
  where
    marked : (n : ℕ) → package_at new n ≡ package_at old n
    marked n = ap (λ v. get_or v.items n false) same

    within : (n : ℕ) → package_at new n ≡ true → n ≤ last_node new.names
    within n h = omega (arith, set.within n (sym (marked n) ∙ h), grown_size (node, byte) old.names.edges.items new.names.edges.items added.grown)

    -- what a name that had a node comes to
    old_node : (name : List ℕ) (k : ℕ) (o : Option ℕ) → node_of new.names name ≡ Some k → node_of old.names name ≡ o → package_at old k ≡ false → package_if old o ≡ false
    old_node name k None now was none = refl
    old_node name k (Some j) now was none = ap (package_at old) (one_node j (sym (node_grown (node, byte) old.names.edges.items new.names.edges.items 0 j name added.grown was) ∙ now)) ∙ none
      where
        one_node : (j : ℕ) → Some j ≡ Some k → j ≡ k
        one_node j e = cc

    by_mark : (name : List ℕ) (k : ℕ) → node_of new.names name ≡ Some k → (b : Bool) → package_at old k ≡ b → b ≡ has_package old name
    by_mark name k now true is = sym (ap (package_if old) (node_shrunk (node, byte) old.names.edges.items new.names 0 k name added.trie added.grown (set.within k is) now) ∙ is)
    by_mark name k now false is = sym (old_node name k (node_of old.names name) now refl is)

    gone : (name : List ℕ) (o : Option ℕ) → node_of new.names name ≡ None → node_of old.names name ≡ o → false ≡ package_if old o
    gone name None now was = refl
    gone name (Some j) now was = absurd (none-some j (sym now ∙ node_grown (node, byte) old.names.edges.items new.names.edges.items 0 j name added.grown was))

    by : (name : List ℕ) (o : Option ℕ) → node_of new.names name ≡ o → package_if new o ≡ has_package old name
    by name None now = gone name (node_of old.names name) now refl
    by name (Some k) now = marked k ∙ by_mark name k now (package_at old k) refl

nothing_at : (n : ℕ) → get_or [] n false ≡ false
nothing_at zero = refl
nothing_at (suc n) = refl

unmarked : (p : PackageSet) → p.are_packages.items ≡ [] → (n : ℕ) → package_at p n ≡ false
unmarked p none n = ap (λ l. get_or l n false) none ∙ nothing_at n

pub empty_set : (p : PackageSet) → IsTrie p.names → p.are_packages.items ≡ [] → IsPackageSet p
empty_set p trie none = record { trie = trie; within = λ node h. absurd (false≢true (sym (unmarked p none node) ∙ h)) }

pub empty_has : (p : PackageSet) → p.are_packages.items ≡ [] → (name : List ℕ) → has_package p name ≡ false
empty_has p none name = by (node_of p.names name)
  where
    by : (o : Option ℕ) → package_if p o ≡ false
    by None = refl
    by (Some n) = unmarked p none n

more_false : (xs : List Bool) (m n : ℕ) → get_or (xs ++ replicate m false) n false ≡ get_or xs n false
more_false [] zero n = refl
more_false [] (suc m) zero = refl
more_false [] (suc m) (suc n) = more_false [] m n ∙ nothing_at n
more_false (x ∷ xs) m zero = refl
more_false (x ∷ xs) m (suc n) = more_false xs m n

-- the marks with more that are false
pub held : (old now : List Bool) (k m n : ℕ) → length old ≤ k → now ≡ take k old ++ replicate m false → get_or now n false ≡ get_or old n false
held old now k m n h is = ap (λ l. get_or l n false) (is ∙ ap (λ l. l ++ replicate m false) (take_all k old h)) ∙ more_false old m n

-- a mark that is set
pub marked_now : (bits : List Bool) (k n : ℕ) → k < length bits → get_or (set bits k true) n false ≡ ((n == k) || get_or bits n false)
marked_now bits k n h = ⊎_elim
    (λ same. ap (λ i. get_or (set bits k true) i false) same ∙ get_or-set_same bits k true false h ∙ sym (or_first (n == k) (get_or bits n false) ((unsigned_Decides n k).1 same)))
    (λ other. get_or-set_other bits k n true false other ∙ ap (λ b. b || get_or bits n false) (sym (not_true (n == k) (λ e. other ((unsigned_Decides n k).0 e)))))
    (cases_eq n k)

-- a byte more of a name
pub byte_on : (old new : NameTrie) (node byte child : ℕ) (name : List ℕ) → ByteAdded old new node byte child → node_of old name ≡ Some node → node_of new (name ++ byte ∷ []) ≡ Some child
byte_on old new node byte child name added at =
    node_more new.edges.items 0 node child byte name (node_grown (node, byte) old.edges.items new.edges.items 0 node name added.grown at) added.there

pub front_added : (names : List (List ℕ)) (a b c : PackageSet) → AddsNames names a b → AddsNames [] b c → AddsNames names a c
front_added names a b c first onward = record { set = onward.set; exact = λ name. onward.exact name ∙ first.exact name }

pub at_within : (p : PackageSet) (name : List ℕ) (node : ℕ) → node_of p.names name ≡ Some node → node ≤ last_node p.names
at_within p name node at = node_within p.names.edges.items 0 node name (omega arith) at

or_move : (a b c : Bool) → (a || (b || c)) ≡ ((b || a) || c)
or_move true true c = refl
or_move true false c = refl
or_move false true c = refl
or_move false false c = refl

pub names_added : (xs ys : List (List ℕ)) (a b c : PackageSet) → AddsNames xs a b → AddsNames ys b c → AddsNames (xs ++ ys) a c
names_added xs ys a b c first onward = record {
  set = onward.set;
  exact = λ name. onward.exact name ∙ ap (λ r. list_any (bytes_eq name) ys || r) (first.exact name) ∙ or_move (list_any (bytes_eq name) ys) (list_any (bytes_eq name) xs) (has_package a name) ∙ ap (λ r. r || has_package a name) (sym (any_append (bytes_eq name) xs ys));
}

pub fronts_append : (front xs ys : List ℕ) → fronts_from front (xs ++ ys) ≡ fronts_from front xs ++ fronts_from (front ++ xs) ys
fronts_append front [] ys = ap (λ l. fronts_from l ys) (sym (nothing_more front))
  where
    nothing_more : {X : Type 0} (l : List X) → l ++ [] ≡ l
    nothing_more [] = refl
    nothing_more (x ∷ l) = ap (λ r. x ∷ r) (nothing_more l)
fronts_append front (c ∷ xs) ys =
    ap (with_front (c == 46) front) (fronts_append (front ++ c ∷ []) xs ys ∙ ap (λ l. fronts_from (front ++ c ∷ []) xs ++ fronts_from l ys) (regroup front xs)) ∙ out (c == 46) (fronts_from (front ++ c ∷ []) xs) (fronts_from (front ++ c ∷ xs) ys)
  where
    regroup : (l r : List ℕ) → l ++ c ∷ [] ++ r ≡ l ++ c ∷ r
    regroup [] r = refl
    regroup (d ∷ l) r = ap (λ t. d ∷ t) (regroup l r)

    out : (b : Bool) (fs gs : List (List ℕ)) → with_front b front (fs ++ gs) ≡ with_front b front fs ++ gs
    out true fs gs = refl
    out false fs gs = refl

-- the fronts of one byte more
pub fronts_more : (name : List ℕ) (i : ℕ) → i < length name → fronts_from [] (take (i + 1) name) ≡ fronts_from [] (take i name) ++ with_front (get_or name i 0 == 46) (take i name) []
fronts_more name i h = ap (fronts_from []) (take_more name i 0 h) ∙ fronts_append [] (take i name) (get_or name i 0 ∷ [])

or_swap : (a b c : Bool) → (a || (b || c)) ≡ (a || b || c)
or_swap true b c = refl
or_swap false b c = refl

pub package_added : (name : List ℕ) (a b c : PackageSet) → 0 < length name → AddsNames (fronts_from [] name) a b → AddsNames (name ∷ []) b c → AddsNames (packages_of name) a c
package_added [] a b c h fronts whole = absurd (omega (arith, h))
package_added (x ∷ xs) a b c h fronts whole = record {
  set = whole.set;
  exact = λ other. whole.exact other ∙ ap (λ r. (bytes_eq other (x ∷ xs) || false) || r) (fronts.exact other) ∙ ap (λ l. l || (list_any (bytes_eq other) (fronts_from [] (x ∷ xs)) || has_package a other)) (or_false (bytes_eq other (x ∷ xs))) ∙ or_swap (bytes_eq other (x ∷ xs)) (list_any (bytes_eq other) (fronts_from [] (x ∷ xs))) (has_package a other);
}

pub nonempty : (name : List ℕ) → (length name == 0) ≡ false → 0 < length name
nonempty [] h = absurd (false≢true (sym h))
nonempty (c ∷ cs) h = omega arith

-- WHAT DECLARATIONS MAKE: files alone
abbrev makes : List ℕ → Seen → Declaration → Bool
makes name sees d = sees d.file && makes_package name d.item

and_false : (b : Bool) → (b && false) ≡ false
and_false true = refl
and_false false = refl

none_mapped : {X : Type 0} (t : Declaration → Bool) (g : X → Declaration) → ((x : X) → t (g x) ≡ false) → (xs : List X) → list_any t (map g xs) ≡ false
none_mapped t g none [] = refl
none_mapped t g none (x ∷ xs) = ap (λ b. b || list_any t (map g xs)) (none x) ∙ none_mapped t g none xs

none_joined : (t : Declaration → Bool) (xs ys : List Declaration) → list_any t xs ≡ false → list_any t ys ≡ false → list_any t (xs ++ ys) ≡ false
none_joined t xs ys first onward = any_append t xs ys ∙ ap (λ b. b || list_any t ys) first ∙ onward

none_by_enums : (name : List ℕ) (sees : Seen) (file parent : ℕ) (scope : List ℕ) (place : ℕ) (es : List DeclaredEnum) → list_any (makes name sees) (enums_declared file parent scope place es) ≡ false
none_by_enums name sees file parent scope place [] = refl
none_by_enums name sees file parent scope place (e ∷ es) =
    none_joined (makes name sees) (enum_declared file parent scope place e) (enums_declared file parent scope (place + length (enum_declared file parent scope place e)) es)
    (ap (λ b. b || list_any (makes name sees) (values_of file place scope e e.values)) (and_false (sees file)) ∙ none_mapped (makes name sees) (λ v. record { file = file; parent = place; scope = scope; item = a_value e v.0 v.1 }) (λ v. and_false (sees file)) (enumerate_from 0 e.values))
    (none_by_enums name sees file parent scope (place + length (enum_declared file parent scope place e)) es)

none_by_head : (name : List ℕ) (sees : Seen) (file parent : ℕ) (scope full : List ℕ) (place : ℕ) (head : MessageHead) (inner : DeclaredMessages) → list_any (makes name sees) (head_row file parent scope full place (message head inner)) ≡ false
none_by_head name sees file parent scope full place head inner =
    ap (λ b. b || list_any (makes name sees) (fields_of file place full head head.fields ++ oneofs_of file place full head head.oneofs)) (and_false (sees file))
    ∙ none_joined (makes name sees) (fields_of file place full head head.fields) (oneofs_of file place full head head.oneofs)
    (none_mapped (makes name sees) (λ e. record { file = file; parent = place; scope = full; item = a_field head e.0 e.1 }) (λ e. and_false (sees file)) (enumerate_from 0 head.fields))
    (none_mapped (makes name sees) (λ e. record { file = file; parent = place; scope = full; item = a_oneof head e.0 e.1 }) (λ e. and_false (sees file)) (enumerate_from 0 head.oneofs))

mutual
  none_by_message : (name : List ℕ) (sees : Seen) (file parent : ℕ) (scope : List ℕ) (place : ℕ) (m : DeclaredMessage) → list_any (makes name sees) (message_declared file parent scope place m) ≡ false
  none_by_message name sees file parent scope place (message head inner) =
      let own = head_row file parent scope (in_scope scope head.name) place (message head inner) in
      let nested = messages_declared file place (in_scope scope head.name) (place + length own) inner in
      none_joined (makes name sees) (own ++ nested) (enums_declared file place (in_scope scope head.name) (place + length own + length nested) head.enums)
      (none_joined (makes name sees) own nested (none_by_head name sees file parent scope (in_scope scope head.name) place head inner) (none_by_messages name sees file place (in_scope scope head.name) (place + length own) inner))
      (none_by_enums name sees file place (in_scope scope head.name) (place + length own + length nested) head.enums)

  none_by_messages : (name : List ℕ) (sees : Seen) (file parent : ℕ) (scope : List ℕ) (place : ℕ) (ms : DeclaredMessages) → list_any (makes name sees) (messages_declared file parent scope place ms) ≡ false
  none_by_messages name sees file parent scope place no_messages = refl
  none_by_messages name sees file parent scope place (more_messages m ms) =
      none_joined (makes name sees) (message_declared file parent scope place m) (messages_declared file parent scope (place + length (message_declared file parent scope place m)) ms)
      (none_by_message name sees file parent scope place m) (none_by_messages name sees file parent scope (place + length (message_declared file parent scope place m)) ms)

none_by_services : (name : List ℕ) (sees : Seen) (file parent : ℕ) (scope : List ℕ) (place : ℕ) (ss : List DeclaredService) → list_any (makes name sees) (services_declared file parent scope place ss) ≡ false
none_by_services name sees file parent scope place [] = refl
none_by_services name sees file parent scope place (s ∷ ss) =
    none_joined (makes name sees) (service_declared file parent scope place s) (services_declared file parent scope (place + length (service_declared file parent scope place s)) ss)
    (ap (λ b. b || list_any (makes name sees) (map (λ (m : DeclaredMethod). record { file = file; parent = place; scope = in_scope scope s.name; item = a_method m }) s.methods)) (and_false (sees file)) ∙ none_mapped (makes name sees) (λ (m : DeclaredMethod). record { file = file; parent = place; scope = in_scope scope s.name; item = a_method m }) (λ m. and_false (sees file)) s.methods)
    (none_by_services name sees file parent scope (place + length (service_declared file parent scope place s)) ss)

-- a seen file makes the package
abbrev made_by : List ℕ → Seen → ℕ × DeclaredFile → Bool
made_by name sees e = sees e.0 && list_any (bytes_eq name) (packages_of e.1.package_name)

made_by_file : (name : List ℕ) (sees : Seen) (file place : ℕ) (f : DeclaredFile) → list_any (makes name sees) (file_declared file place f) ≡ made_by name sees (file, f)
made_by_file name sees file place f =
    let messages = messages_declared file place f.package_name (place + 1) f.messages in
    let enums = enums_declared file place f.package_name (place + 1 + length messages) f.enums in
    let services = services_declared file place f.package_name (place + 1 + length messages + length enums) f.services in
    ap (λ b. made_by name sees (file, f) || b) (none_joined (makes name sees) (messages ++ enums) services (none_joined (makes name sees) messages enums (none_by_messages name sees file place f.package_name (place + 1) f.messages) (none_by_enums name sees file place f.package_name (place + 1 + length messages) f.enums)) (none_by_services name sees file place f.package_name (place + 1 + length messages + length enums) f.services))
    ∙ or_false (made_by name sees (file, f))

made_by_files : (name : List ℕ) (sees : Seen) (file place : ℕ) (fs : List DeclaredFile) → list_any (makes name sees) (files_declared file place fs) ≡ list_any (made_by name sees) (enumerate_from file fs)
made_by_files name sees file place [] = refl
made_by_files name sees file place (f ∷ fs) =
    any_append (makes name sees) (file_declared file place f) (files_declared (file + 1) (place + length (file_declared file place f)) fs)
    ∙ ap (λ b. b || list_any (makes name sees) (files_declared (file + 1) (place + length (file_declared file place f)) fs)) (made_by_file name sees file place f)
    ∙ ap (λ b. made_by name sees (file, f) || b) (made_by_files name sees (file + 1) (place + length (file_declared file place f)) fs)

-- a seen index whose file makes the package
at_index : (name : List ℕ) (sees : Seen) (start : ℕ) (fs : List DeclaredFile) → list_any (made_by name sees) (enumerate_from start fs) ≡ true → (i : ℕ) × (sees (start + i) ≡ true) × (list_any (bytes_eq name) (packages_at fs i) ≡ true)
at_index name sees start [] h = absurd (false≢true h)
at_index name sees start (f ∷ fs) h = ⊎_elim
    (λ here. let both = and_cases (sees start) (list_any (bytes_eq name) (packages_of f.package_name)) here in (0, subst (λ n. sees n ≡ true) (sym (add-zero start)) both.0, both.1))
    (λ later. let at = at_index name sees (start + 1) fs later in (suc at.0, subst (λ n. sees n ≡ true) (move start at.0) at.1, at.2))
    (or_cases (made_by name sees (start, f)) (list_any (made_by name sees) (enumerate_from (start + 1) fs)) h)
  where
    move : (s i : ℕ) → s + 1 + i ≡ s + suc i
    move s i = omega arith

index_at : (name : List ℕ) (sees : Seen) (start : ℕ) (fs : List DeclaredFile) (i : ℕ) → sees (start + i) ≡ true → list_any (bytes_eq name) (packages_at fs i) ≡ true → list_any (made_by name sees) (enumerate_from start fs) ≡ true
index_at name sees start [] i seen makes_it = absurd (false≢true makes_it)
index_at name sees start (f ∷ fs) zero seen makes_it = or_first (made_by name sees (start, f)) (list_any (made_by name sees) (enumerate_from (start + 1) fs)) (and_both (sees start) (list_any (bytes_eq name) (packages_of f.package_name)) (subst (λ n. sees n ≡ true) (add-zero start) seen) makes_it)
index_at name sees start (f ∷ fs) (suc i) seen makes_it = or_second (made_by name sees (start, f)) (list_any (made_by name sees) (enumerate_from (start + 1) fs)) (index_at name sees (start + 1) fs i (subst (λ n. sees n ≡ true) (omega arith) seen) makes_it)

-- a name is that of a package of what is seen where a seen index makes it
pub made_seen : (files : List DeclaredFile) (sees : Seen) (name : List ℕ) → is_package_name (declarations files) sees name ≡ true → (i : ℕ) × (sees i ≡ true) × (list_any (bytes_eq name) (packages_at files i) ≡ true)
made_seen files sees name h =
    let at = at_index name sees 0 files (sym (made_by_files name sees 0 0 files) ∙ h) in
    let same : 0 + at.0 ≡ at.0 = omega arith in
    (at.0, subst (λ n. sees n ≡ true) same at.1, at.2)

pub seen_made : (files : List DeclaredFile) (sees : Seen) (name : List ℕ) (i : ℕ) → sees i ≡ true → list_any (bytes_eq name) (packages_at files i) ≡ true → is_package_name (declarations files) sees name ≡ true
seen_made files sees name i seen makes_it =
    let same : i ≡ 0 + i = omega arith in
    made_by_files name sees 0 0 files ∙ index_at name sees 0 files i (subst (λ n. sees n ≡ true) same seen) makes_it

-- THE PACKAGES OF SOME FILES: the names in the set are those that some of these indexes make
pub packages_none : (files : List DeclaredFile) (p : PackageSet) → IsPackageSet p → ((name : List ℕ) → has_package p name ≡ false) → ArePackagesAt files [] p
packages_none files p set none = record { set = set; exact = none }

pub packages_more : (files : List DeclaredFile) (indexes : List ℕ) (i : ℕ) (a b : PackageSet) → ArePackagesAt files indexes a → AddsNames (packages_at files i) a b → ArePackagesAt files (indexes ++ i ∷ []) b
packages_more files indexes i a b are adds = record {
  set = adds.set;
  exact = λ name. adds.exact name ∙ ap (λ r. list_any (bytes_eq name) (packages_at files i) || r) (are.exact name) ∙ turn (list_any (bytes_eq name) (packages_at files i)) (list_any (λ j. list_any (bytes_eq name) (packages_at files j)) indexes) ∙ sym (any_append (λ j. list_any (bytes_eq name) (packages_at files j)) indexes (i ∷ []));
}
  where
    turn : (a b : Bool) → (a || b) ≡ (b || (a || false))
    turn true true = refl
    turn true false = refl
    turn false true = refl
    turn false false = refl

pub packages_exact : (files : List DeclaredFile) (indexes : List ℕ) (sees : Seen) (p : PackageSet) → ((i : ℕ) → Contains indexes i → sees i ≡ true) → ((i : ℕ) → i < length files → sees i ≡ true → Contains indexes i) → ArePackagesAt files indexes p → ArePackages (declarations files) sees p
packages_exact files indexes sees p seen all are = record { set = are.set; exact = exact }
  where
    within : (name : List ℕ) (fs : List DeclaredFile) (i : ℕ) → list_any (bytes_eq name) (packages_at fs i) ≡ true → i < length fs
    within name [] i h = absurd (false≢true h)
    within name (f ∷ fs) zero h = omega arith
    within name (f ∷ fs) (suc i) h = omega (arith, within name fs i h)

    exact : (name : List ℕ) → has_package p name ≡ is_package_name (declarations files) sees name
    exact name = are.exact name ∙ same_test (list_any (λ i. list_any (bytes_eq name) (packages_at files i)) indexes) (is_package_name (declarations files) sees name)
        (λ h. let at = any_there (λ i. list_any (bytes_eq name) (packages_at files i)) indexes h in seen_made files sees name at.0 (seen at.0 at.1) at.2)
        (λ h. let at = made_seen files sees name h in there_any (λ i. list_any (bytes_eq name) (packages_at files i)) indexes at.0 (all at.0 (within name files at.0 at.2) at.1) at.2)

-- some indexes more
pub packages_next : (files : List DeclaredFile) (indexes : List ℕ) (i : ℕ) (a b c : PackageSet) → i < length indexes → AddsPackages files (take i indexes) a b → AddsNames (packages_at files (get_or indexes i 0)) b c → AddsPackages files (take (i + 1) indexes) a c
packages_next files indexes i a b c less were adds before are =
    subst (λ l. ArePackagesAt files l c) (append_assoc before (take i indexes) (get_or indexes i 0 ∷ []) ∙ ap (λ l. before ++ l) (sym (take_more indexes i 0 less)))
    (packages_more files (before ++ take i indexes) (get_or indexes i 0) b c (were before are) adds)

pub packages_first : (files : List DeclaredFile) (a : PackageSet) → AddsPackages files [] a a
packages_first files a before are = subst (λ l. ArePackagesAt files l a) (sym (append-nil before)) are

-- the indexes below one
abbrev pub below : ℕ → List ℕ
below zero = []
below (suc n) = below n ++ n ∷ []

pub packages_below : (files : List DeclaredFile) (n : ℕ) (a b : PackageSet) → ArePackagesAt files (below n) a → AddsNames (packages_at files n) a b → ArePackagesAt files (below (n + 1)) b
packages_below files n a b are adds = let e : suc n ≡ n + 1 = omega arith in subst (λ k. ArePackagesAt files (below k) b) e (packages_more files (below n) n a b are adds)

contains_below : (n i : ℕ) → i < n → Contains (below n) i
contains_below zero i h = absurd (omega (arith, h))
contains_below (suc n) i h = ⊎_elim (λ e. subst (Contains (below n ++ n ∷ [])) (sym e) (Contains-push (below n) n)) (λ ne. Contains-append_left (below n) (n ∷ []) i (contains_below n i (omega (arith, h, ne)))) (cases_eq i n)

pub all_exact : (files : List DeclaredFile) (n : ℕ) (p : PackageSet) → length files ≤ n → ArePackagesAt files (below n) p → ArePackages (declarations files) every_file p
all_exact files n p enough are = packages_exact files (below n) every_file p (λ i among. refl) (λ i h seen. contains_below n i (omega (arith, h, enough))) are

own_seen : (o : Option ℕ) (i : ℕ) → Contains (own_index o) i → is_file o i ≡ true
own_seen None i among = Contains-none i among
own_seen (Some k) i among = (unsigned_Decides k i).1 (Contains-one k i among)

seen_own : (o : Option ℕ) (i : ℕ) → is_file o i ≡ true → Contains (own_index o) i
seen_own None i h = absurd (false≢true h)
seen_own (Some k) i h = subst (Contains (k ∷ [])) ((unsigned_Decides k i).0 h) (Contains-push [] k)

pub seen_exact : (files : List DeclaredFile) (s : Sight) (p : PackageSet) → IsListed s.reach → ArePackagesAt files (own_index s.file ++ s.reach.reached.items) p → ArePackages (declarations files) (sees_by s) p
seen_exact files s p all are = packages_exact files (own_index s.file ++ s.reach.reached.items) (sees_by s) p
    (λ i among. ⊎_elim (λ own. or_first (is_file s.file i) (is_marked s.reach i) (own_seen s.file i own)) (λ far. or_second (is_file s.file i) (is_marked s.reach i) ((all.listed i).1 far)) (Contains-append_cases (own_index s.file) s.reach.reached.items i among))
    (λ i h seen. ⊎_elim (λ own. Contains-append_left (own_index s.file) s.reach.reached.items i (seen_own s.file i own)) (λ far. Contains-append_right (own_index s.file) s.reach.reached.items i ((all.listed i).0 far)) (or_cases (is_file s.file i) (is_marked s.reach i) seen))
    are
