-- Declarations nest: what stands between a declaration and the one around it is in that one too, and no file.
use Rattle.std.proofs.Common.{◌≡◌, ℕ, zero, suc, ◌+◌, ◌<◌, ◌≤◌, ◌⊎◌, inl, inr, ⊎_elim, List, [], ◌∷◌, ◌++◌, map, length, Bool, true, false, refl, sym, ap, ◌∙◌, subst, arith, Some}
use Rattle.std.specs.Prelude.{slice_get}
use Rattle.std.specs.List.{AllByRecursion, enumerate_from}
use Rattle.std.proofs.lemmas.Bool.{false≢true}
use Rattle.std.proofs.lemmas.Option.{none-some}
use Rattle.std.proofs.lemmas.Grind.{common_steps}
use Rattle.pb_schema.specs.Names.{in_scope}
use Rattle.pb_declarations.specs.Decls.{DeclaredEnum, MessageHead, DeclaredMessage, message, DeclaredMessages, no_messages, more_messages, DeclaredService, DeclaredFile}
use Rattle.pb_link_names.specs.Declarations.{Item, a_file, a_message, a_field, a_oneof, an_enum, a_value, a_service, a_method, Declaration, fields_of, oneofs_of, values_of, enum_declared, enums_declared, message_declared, messages_declared, service_declared, services_declared, file_declared, files_declared}
use Rattle.pb_link_rules.specs.Rules.{World}
use Rattle.pb_link_rules.specs.Link.{IsWorldOf}
use Rattle.pb_link_names.proofs.BehindLemmas.{some_same, get_split, all_get, all_map}
use Rattle.pb_link.proofs.OrderLemmas.{of_file, at_least}

abbrev pub is_file : Item → Bool
is_file (a_file f) = true
is_file (a_message head inner) = false
is_file (a_field head i f) = false
is_file (a_oneof head i name) = false
is_file (an_enum e) = false
is_file (a_value e i v) = false
is_file (a_service s) = false
is_file (a_method m) = false

-- around one declaration enums come after messages, and services after enums
abbrev pub rank : Item → ℕ
rank (a_file f) = 0
rank (a_message head inner) = 0
rank (a_field head i f) = 0
rank (a_oneof head i name) = 0
rank (an_enum e) = 1
rank (a_value e i v) = 0
rank (a_service s) = 2
rank (a_method m) = 0

pub get-less : {X : Type 0} (xs : List X) (i : ℕ) (x : X) → slice_get xs i ≡ Some x → i < length xs
get-less [] i x h = absurd (none-some x h)
get-less (y ∷ xs) zero x h = omega arith
get-less (y ∷ xs) (suc i) x h = omega (arith, get-less xs i x h)

pub le_split : (a b : ℕ) → a ≤ b → (a ≡ b) ⊎ (a < b)
le_split zero zero h = inl refl
le_split zero (suc b) h = inr (omega arith)
le_split (suc a) zero h = absurd (omega (arith, h))
le_split (suc a) (suc b) h = ⊎_elim (λ e. inl (ap suc e)) (λ l. inr (omega (arith, l))) (le_split a b (omega (arith, h)))

pub le_or_less : (a b : ℕ) → (a ≤ b) ⊎ (b < a)
le_or_less zero b = inl (omega arith)
le_or_less (suc a) zero = inr (omega arith)
le_or_less (suc a) (suc b) = ⊎_elim (λ h. inl (omega (arith, h))) (λ h. inr (omega (arith, h))) (le_or_less a b)

-- FORESTS

-- the declaration stands directly in the one at `root`, and is of a rank from `low` to `high`
record IsRoot (low high root : ℕ) (d : Declaration) : Type 0 where
  pub parent : d.parent ≡ root
  pub least : low ≤ rank d.item
  pub most : rank d.item ≤ high

-- the k-th of some declarations, which stand at a place and after it, stands in an earlier one of them
record IsInner (place k : ℕ) (d : Declaration) : Type 0 where
  pub least : place ≤ d.parent
  pub most : d.parent < place + k

-- Some declarations, which stand at a place and after it: each stands directly in the one at `root`, or in one of them.
record IsForest (low high root place : ℕ) (ds : List Declaration) : Type 0 where
  pub roots : (k : ℕ) (d : Declaration) → slice_get ds k ≡ Some d → IsRoot low high root d ⊎ IsInner place k d
  pub no_file : (k : ℕ) (d : Declaration) → slice_get ds k ≡ Some d → is_file d.item ≡ false
  pub between : (k m : ℕ) (d e : Declaration) → slice_get ds k ≡ Some d → slice_get ds m ≡ Some e → m < k → d.parent < place + m → d.parent ≤ e.parent
  pub ranked : (k m : ℕ) (d e : Declaration) → slice_get ds k ≡ Some d → slice_get ds m ≡ Some e → m < k → d.parent ≡ e.parent → rank e.item ≤ rank d.item

forest_nothing : (low high root place : ℕ) → IsForest low high root place []
forest_nothing low high root place = record {
  roots = λ k d there. absurd (none-some d there);
  no_file = λ k d there. absurd (none-some d there);
  between = λ k m d e there at less h. absurd (none-some d there);
  ranked = λ k m d e there at less h. absurd (none-some d there);
}

-- leaves in the declaration at `root`
forest_leaves : (low root place : ℕ) (ds : List Declaration) → root < place → AllByRecursion (λ d. (d.parent ≡ root) × (rank d.item ≡ low) × (is_file d.item ≡ false)) ds → IsForest low low root place ds
forest_leaves low root place ds before leaves = record {
  roots = λ k d there. let leaf = all_get _ ds k d leaves there in inl (record { parent = leaf.0; least = omega (arith, leaf.1); most = omega (arith, leaf.1) });
  no_file = λ k d there. (all_get _ ds k d leaves there).2;
  between = λ k m d e there at less h. omega (arith, (all_get _ ds k d leaves there).0, (all_get _ ds m e leaves at).0);
  ranked = λ k m d e there at less h. omega (arith, (all_get _ ds k d leaves there).1, (all_get _ ds m e leaves at).1);
}

-- a declaration, and a forest in it
forest_tree : (low high a b root place : ℕ) (x : Declaration) (ds : List Declaration) → IsRoot low high root x → is_file x.item ≡ false → root < place → IsForest a b place (place + 1) ds → IsForest low high root place (x ∷ ds)
forest_tree low high a b root place x ds own no_file before inside = record { roots = roots; no_file = none; between = between; ranked = ranked }
  where
    under : (k : ℕ) (d : Declaration) → slice_get ds k ≡ Some d → (place ≤ d.parent) × (d.parent < place + suc k)
    under k d there = ⊎_elim (λ r. (omega (arith, r.parent), omega (arith, r.parent))) (λ i. (omega (arith, i.least), omega (arith, i.most))) (inside.roots k d there)

    roots : (k : ℕ) (d : Declaration) → slice_get (x ∷ ds) k ≡ Some d → IsRoot low high root d ⊎ IsInner place k d
    roots zero d there = inl (subst (IsRoot low high root) (some_same x d there) own)
    roots (suc k) d there = inr (record { least = (under k d there).0; most = (under k d there).1 })

    none : (k : ℕ) (d : Declaration) → slice_get (x ∷ ds) k ≡ Some d → is_file d.item ≡ false
    none zero d there = ap (λ y. is_file y.item) (sym (some_same x d there)) ∙ no_file
    none (suc k) d there = inside.no_file k d there

    between : (k m : ℕ) (d e : Declaration) → slice_get (x ∷ ds) k ≡ Some d → slice_get (x ∷ ds) m ≡ Some e → m < k → d.parent < place + m → d.parent ≤ e.parent
    between zero m d e there at less h = absurd (omega (arith, less))
    between (suc k) zero d e there at less h = absurd (omega (arith, h, (under k d there).0))
    between (suc k) (suc m) d e there at less h = inside.between k m d e there at (omega (arith, less)) (omega (arith, h))

    ranked : (k m : ℕ) (d e : Declaration) → slice_get (x ∷ ds) k ≡ Some d → slice_get (x ∷ ds) m ≡ Some e → m < k → d.parent ≡ e.parent → rank e.item ≤ rank d.item
    ranked zero m d e there at less h = absurd (omega (arith, less))
    ranked (suc k) zero d e there at less h = absurd (omega (arith, h, before, ap (λ y. y.parent) (some_same x e at), own.parent, (under k d there).0))
    ranked (suc k) (suc m) d e there at less h = inside.ranked k m d e there at (omega (arith, less)) h

-- two forests in one declaration, the second of no lesser rank
forest_append : (low mid next high root place at : ℕ) (xs ys : List Declaration) → mid ≤ next → low ≤ next → mid ≤ high → root < place → at ≡ place + length xs → IsForest low mid root place xs → IsForest next high root at ys → IsForest low high root place (xs ++ ys)
forest_append low mid next high root place at xs ys rises first_low last_high before from first second = record { roots = roots; no_file = none; between = between; ranked = ranked }
  where
    roots : (k : ℕ) (d : Declaration) → slice_get (xs ++ ys) k ≡ Some d → IsRoot low high root d ⊎ IsInner place k d
    roots k d there = ⊎_elim
        (λ front. ⊎_elim (λ r. inl (record { parent = r.parent; least = r.least; most = omega (arith, r.most, last_high) })) (λ i. inr i) (first.roots k d front))
        (λ back. ⊎_elim
        (λ r. inl (record { parent = r.parent; least = omega (arith, r.least, first_low); most = r.most }))
        (λ i. inr (record { least = omega (arith, i.least, from); most = omega (arith, i.most, from, back.1) }))
        (second.roots back.0 d back.2))
        (get_split xs ys k d there)

    none : (k : ℕ) (d : Declaration) → slice_get (xs ++ ys) k ≡ Some d → is_file d.item ≡ false
    none k d there = ⊎_elim (λ front. first.no_file k d front) (λ back. second.no_file back.0 d back.2) (get_split xs ys k d there)

    -- a declaration of the front stands in the root, or in one of the front
    in_front : (m : ℕ) (e : Declaration) → slice_get xs m ≡ Some e → (root ≤ e.parent) × (e.parent < at)
    in_front m e there = ⊎_elim (λ r. (omega (arith, r.parent), omega (arith, r.parent, before, from))) (λ i. (omega (arith, i.least, before), omega (arith, i.most, from, get-less xs m e there))) (first.roots m e there)

    between : (k m : ℕ) (d e : Declaration) → slice_get (xs ++ ys) k ≡ Some d → slice_get (xs ++ ys) m ≡ Some e → m < k → d.parent < place + m → d.parent ≤ e.parent
    between k m d e there at_e less h = ⊎_elim
        (λ one. ⊎_elim
        (λ two. first.between k m d e one two less h)
        (λ two. absurd (omega (arith, less, two.1, get-less xs k d one)))
        (get_split xs ys m e at_e))
        (λ one. ⊎_elim
        (λ two. ⊎_elim (λ r. omega (arith, r.parent, (in_front m e two).0)) (λ i. absurd (omega (arith, i.least, from, h, get-less xs m e two))) (second.roots one.0 d one.2))
        (λ two. second.between one.0 two.0 d e one.2 two.2 (omega (arith, less, one.1, two.1)) (omega (arith, h, from, two.1)))
        (get_split xs ys m e at_e))
        (get_split xs ys k d there)

    -- one of the front that stands in the root is of no greater rank than one after that does
    across : (m i : ℕ) (d e : Declaration) → slice_get ys i ≡ Some d → slice_get xs m ≡ Some e → d.parent ≡ e.parent → rank e.item ≤ rank d.item
    across m i d e one two same = ⊎_elim
        (λ r. ⊎_elim (λ q. omega (arith, q.most, rises, r.least)) (λ j. absurd (omega (arith, j.least, same, r.parent, before))) (first.roots m e two))
        (λ j. absurd (omega (arith, j.least, same, (in_front m e two).1)))
        (second.roots i d one)

    ranked : (k m : ℕ) (d e : Declaration) → slice_get (xs ++ ys) k ≡ Some d → slice_get (xs ++ ys) m ≡ Some e → m < k → d.parent ≡ e.parent → rank e.item ≤ rank d.item
    ranked k m d e there at_e less same = ⊎_elim
        (λ one. ⊎_elim
        (λ two. first.ranked k m d e one two less same)
        (λ two. absurd (omega (arith, less, two.1, get-less xs k d one)))
        (get_split xs ys m e at_e))
        (λ one. ⊎_elim
        (λ two. across m one.0 d e one.2 two same)
        (λ two. second.ranked one.0 two.0 d e one.2 two.2 (omega (arith, less, one.1, two.1)) same)
        (get_split xs ys m e at_e))
        (get_split xs ys k d there)

-- THE BLOCKS

forest_enum : (file parent : ℕ) (scope : List ℕ) (place : ℕ) (e : DeclaredEnum) → parent < place → IsForest 1 1 parent place (enum_declared file parent scope place e)
forest_enum file parent scope place e before =
    let x : Declaration = record { file = file; parent = parent; scope = scope; item = an_enum e } in
    forest_tree 1 1 0 0 parent place x (values_of file place scope e e.values) (record { parent = refl; least = omega arith; most = omega arith }) refl before
    (forest_leaves 0 place (place + 1) (values_of file place scope e e.values) (omega arith)
    (all_map (λ d. (d.parent ≡ place) × (rank d.item ≡ 0) × (is_file d.item ≡ false)) (λ v. record { file = file; parent = place; scope = scope; item = a_value e v.0 v.1 }) (λ v. (refl, refl, refl)) (enumerate_from 0 e.values)))

forest_enums : (file parent : ℕ) (scope : List ℕ) (place : ℕ) (es : List DeclaredEnum) → parent < place → IsForest 1 1 parent place (enums_declared file parent scope place es)
forest_enums file parent scope place [] before = forest_nothing 1 1 parent place
forest_enums file parent scope place (e ∷ es) before =
    let own = enum_declared file parent scope place e in
    forest_append 1 1 1 1 parent place (place + length own) own (enums_declared file parent scope (place + length own) es) (omega arith) (omega arith) (omega arith) before refl
    (forest_enum file parent scope place e before)
    (forest_enums file parent scope (place + length own) es (omega (arith, before)))

forest_service : (file parent : ℕ) (scope : List ℕ) (place : ℕ) (s : DeclaredService) → parent < place → IsForest 2 2 parent place (service_declared file parent scope place s)
forest_service file parent scope place s before =
    let x : Declaration = record { file = file; parent = parent; scope = scope; item = a_service s } in
    let methods : List Declaration = map (λ m. record { file = file; parent = place; scope = in_scope scope s.name; item = a_method m }) s.methods in
    forest_tree 2 2 0 0 parent place x methods (record { parent = refl; least = omega arith; most = omega arith }) refl before
    (forest_leaves 0 place (place + 1) methods (omega arith)
    (all_map (λ d. (d.parent ≡ place) × (rank d.item ≡ 0) × (is_file d.item ≡ false)) (λ m. record { file = file; parent = place; scope = in_scope scope s.name; item = a_method m }) (λ m. (refl, refl, refl)) s.methods))

forest_services : (file parent : ℕ) (scope : List ℕ) (place : ℕ) (ss : List DeclaredService) → parent < place → IsForest 2 2 parent place (services_declared file parent scope place ss)
forest_services file parent scope place [] before = forest_nothing 2 2 parent place
forest_services file parent scope place (s ∷ ss) before =
    let own = service_declared file parent scope place s in
    forest_append 2 2 2 2 parent place (place + length own) own (services_declared file parent scope (place + length own) ss) (omega arith) (omega arith) (omega arith) before refl
    (forest_service file parent scope place s before)
    (forest_services file parent scope (place + length own) ss (omega (arith, before)))

-- the fields and oneofs of a message
forest_parts : (file place : ℕ) (name : List ℕ) (head : MessageHead) → IsForest 0 0 place (place + 1) (fields_of file place name head head.fields ++ oneofs_of file place name head head.oneofs)
forest_parts file place name head =
    let fields = fields_of file place name head head.fields in
    forest_append 0 0 0 0 place (place + 1) (place + 1 + length fields) fields (oneofs_of file place name head head.oneofs) (omega arith) (omega arith) (omega arith) (omega arith) refl
    (forest_leaves 0 place (place + 1) fields (omega arith)
    (all_map (λ d. (d.parent ≡ place) × (rank d.item ≡ 0) × (is_file d.item ≡ false)) (λ e. record { file = file; parent = place; scope = name; item = a_field head e.0 e.1 }) (λ e. (refl, refl, refl)) (enumerate_from 0 head.fields)))
    (forest_leaves 0 place (place + 1 + length fields) (oneofs_of file place name head head.oneofs) (omega arith)
    (all_map (λ d. (d.parent ≡ place) × (rank d.item ≡ 0) × (is_file d.item ≡ false)) (λ e. record { file = file; parent = place; scope = name; item = a_oneof head e.0 e.1 }) (λ e. (refl, refl, refl)) (enumerate_from 0 head.oneofs)))

sum_behind : (place : ℕ) (xs ys : List Declaration) → place + suc (length xs) + length ys ≡ place + 1 + length (xs ++ ys)
sum_behind place xs ys = grind (arith, common_steps)

mutual
  forest_message : (file parent : ℕ) (scope : List ℕ) (place : ℕ) (m : DeclaredMessage) → parent < place → IsForest 0 0 parent place (message_declared file parent scope place m)
  forest_message file parent scope place (message head inner) before =
      let name = in_scope scope head.name in
      let x : Declaration = record { file = file; parent = parent; scope = scope; item = a_message head inner } in
      let parts = fields_of file place name head head.fields ++ oneofs_of file place name head head.oneofs in
      let nested = messages_declared file place name (place + suc (length parts)) inner in
      let enums = enums_declared file place name (place + suc (length parts) + length nested) head.enums in
      forest_tree 0 0 0 1 parent place x (parts ++ nested ++ enums) (record { parent = refl; least = omega arith; most = omega arith }) refl before
      (forest_append 0 0 1 1 place (place + 1) (place + suc (length parts) + length nested) (parts ++ nested) enums (omega arith) (omega arith) (omega arith) (omega arith) (sum_behind place parts nested)
      (forest_append 0 0 0 0 place (place + 1) (place + suc (length parts)) parts nested (omega arith) (omega arith) (omega arith) (omega arith) (omega arith)
      (forest_parts file place name head)
      (forest_messages file place name (place + suc (length parts)) inner (omega arith)))
      (forest_enums file place name (place + suc (length parts) + length nested) head.enums (omega arith)))

  forest_messages : (file parent : ℕ) (scope : List ℕ) (place : ℕ) (ms : DeclaredMessages) → parent < place → IsForest 0 0 parent place (messages_declared file parent scope place ms)
  forest_messages file parent scope place no_messages before = forest_nothing 0 0 parent place
  forest_messages file parent scope place (more_messages m ms) before =
      let own = message_declared file parent scope place m in
      forest_append 0 0 0 0 parent place (place + length own) own (messages_declared file parent scope (place + length own) ms) (omega arith) (omega arith) (omega arith) before refl
      (forest_message file parent scope place m before)
      (forest_messages file parent scope (place + length own) ms (omega (arith, before)))

abbrev in_file : ℕ → ℕ → DeclaredFile → List Declaration
in_file file place f =
    let messages : List Declaration = messages_declared file place f.package_name (place + 1) f.messages in
    let enums : List Declaration = enums_declared file place f.package_name (place + 1 + length messages) f.enums in
    messages ++ enums ++ services_declared file place f.package_name (place + 1 + length messages + length enums) f.services

sum_two : (place : ℕ) (xs ys : List Declaration) → place + length xs + length ys ≡ place + length (xs ++ ys)
sum_two place xs ys = grind (arith, common_steps)

forest_file : (file place : ℕ) (f : DeclaredFile) → IsForest 0 2 place (place + 1) (in_file file place f)
forest_file file place f =
    let messages = messages_declared file place f.package_name (place + 1) f.messages in
    let enums = enums_declared file place f.package_name (place + 1 + length messages) f.enums in
    let services = services_declared file place f.package_name (place + 1 + length messages + length enums) f.services in
    forest_append 0 1 2 2 place (place + 1) (place + 1 + length messages + length enums) (messages ++ enums) services (omega arith) (omega arith) (omega arith) (omega arith) (sum_two (place + 1) messages enums)
    (forest_append 0 0 1 1 place (place + 1) (place + 1 + length messages) messages enums (omega arith) (omega arith) (omega arith) (omega arith) refl
    (forest_messages file place f.package_name (place + 1) f.messages (omega arith))
    (forest_enums file place f.package_name (place + 1 + length messages) f.enums (omega arith)))
    (forest_services file place f.package_name (place + 1 + length messages + length enums) f.services (omega arith))

-- FILES

-- Some declarations, which stand at a place and after it, none of them in one outside.
pub record AreNested (place : ℕ) (ds : List Declaration) : Type 0 where
  pub inside : (k : ℕ) (d : Declaration) → slice_get ds k ≡ Some d → (place ≤ d.parent) × (d.parent ≤ place + k)
  -- what stands between a declaration and the one around it is in that one, and no file
  pub between : (k m : ℕ) (d e : Declaration) → slice_get ds k ≡ Some d → slice_get ds m ≡ Some e → m < k → d.parent < place + m → (d.parent ≤ e.parent) × (is_file e.item ≡ false)
  -- around one declaration ranks rise
  pub ranked : (k m : ℕ) (d e : Declaration) → slice_get ds k ≡ Some d → slice_get ds m ≡ Some e → m < k → d.parent ≡ e.parent → rank e.item ≤ rank d.item
  -- a file's index is greater than those of all before it
  pub files : (k m : ℕ) (d e : Declaration) → slice_get ds k ≡ Some d → slice_get ds m ≡ Some e → m < k → is_file d.item ≡ true → e.file < d.file

nested_file : (file place : ℕ) (f : DeclaredFile) → AreNested place (file_declared file place f)
nested_file file place f = record { inside = inside; between = between; ranked = ranked; files = files }
  where
    forest : IsForest 0 2 place (place + 1) (in_file file place f)
    forest = forest_file file place f

    under : (k : ℕ) (d : Declaration) → slice_get (in_file file place f) k ≡ Some d → (place ≤ d.parent) × (d.parent < place + suc k)
    under k d there = ⊎_elim (λ r. (omega (arith, r.parent), omega (arith, r.parent))) (λ i. (omega (arith, i.least), omega (arith, i.most))) (forest.roots k d there)

    inside : (k : ℕ) (d : Declaration) → slice_get (file_declared file place f) k ≡ Some d → (place ≤ d.parent) × (d.parent ≤ place + k)
    inside zero d there = let same : place ≡ d.parent = ap (λ y. y.parent) (some_same (record { file = file; parent = place; scope = []; item = a_file f }) d there) in (omega (arith, same), omega (arith, same))
    inside (suc k) d there = ((under k d there).0, omega (arith, (under k d there).1))

    between : (k m : ℕ) (d e : Declaration) → slice_get (file_declared file place f) k ≡ Some d → slice_get (file_declared file place f) m ≡ Some e → m < k → d.parent < place + m → (d.parent ≤ e.parent) × (is_file e.item ≡ false)
    between zero m d e there at less h = absurd (omega (arith, less))
    between (suc k) zero d e there at less h = absurd (omega (arith, h, (under k d there).0))
    between (suc k) (suc m) d e there at less h = (forest.between k m d e there at (omega (arith, less)) (omega (arith, h)), forest.no_file m e at)

    ranked : (k m : ℕ) (d e : Declaration) → slice_get (file_declared file place f) k ≡ Some d → slice_get (file_declared file place f) m ≡ Some e → m < k → d.parent ≡ e.parent → rank e.item ≤ rank d.item
    ranked zero m d e there at less h = absurd (omega (arith, less))
    ranked (suc k) zero d e there at less h = let none : rank e.item ≡ 0 = ap (λ y. rank y.item) (sym (some_same (record { file = file; parent = place; scope = []; item = a_file f }) e at)) in omega (arith, none)
    ranked (suc k) (suc m) d e there at less h = forest.ranked k m d e there at (omega (arith, less)) h

    files : (k m : ℕ) (d e : Declaration) → slice_get (file_declared file place f) k ≡ Some d → slice_get (file_declared file place f) m ≡ Some e → m < k → is_file d.item ≡ true → e.file < d.file
    files zero m d e there at less is = absurd (omega (arith, less))
    files (suc k) m d e there at less is = absurd (false≢true (sym (forest.no_file k d there) ∙ is))

nested_append : (place at : ℕ) (xs ys : List Declaration) → at ≡ place + length xs → AreNested place xs → AreNested at ys → ((m k : ℕ) (d e : Declaration) → slice_get xs m ≡ Some e → slice_get ys k ≡ Some d → e.file < d.file) → AreNested place (xs ++ ys)
nested_append place at xs ys from first second rise = record { inside = inside; between = between; ranked = ranked; files = files }
  where
    inside : (k : ℕ) (d : Declaration) → slice_get (xs ++ ys) k ≡ Some d → (place ≤ d.parent) × (d.parent ≤ place + k)
    inside k d there = ⊎_elim (λ front. first.inside k d front) (λ back. let i = second.inside back.0 d back.2 in (omega (arith, i.0, from), omega (arith, i.1, from, back.1))) (get_split xs ys k d there)

    between : (k m : ℕ) (d e : Declaration) → slice_get (xs ++ ys) k ≡ Some d → slice_get (xs ++ ys) m ≡ Some e → m < k → d.parent < place + m → (d.parent ≤ e.parent) × (is_file e.item ≡ false)
    between k m d e there at_e less h = ⊎_elim
        (λ one. ⊎_elim
        (λ two. first.between k m d e one two less h)
        (λ two. absurd (omega (arith, less, two.1, get-less xs k d one)))
        (get_split xs ys m e at_e))
        (λ one. ⊎_elim
        (λ two. absurd (omega (arith, (second.inside one.0 d one.2).0, from, h, get-less xs m e two)))
        (λ two. second.between one.0 two.0 d e one.2 two.2 (omega (arith, less, one.1, two.1)) (omega (arith, h, from, two.1)))
        (get_split xs ys m e at_e))
        (get_split xs ys k d there)

    ranked : (k m : ℕ) (d e : Declaration) → slice_get (xs ++ ys) k ≡ Some d → slice_get (xs ++ ys) m ≡ Some e → m < k → d.parent ≡ e.parent → rank e.item ≤ rank d.item
    ranked k m d e there at_e less same = ⊎_elim
        (λ one. ⊎_elim
        (λ two. first.ranked k m d e one two less same)
        (λ two. absurd (omega (arith, less, two.1, get-less xs k d one)))
        (get_split xs ys m e at_e))
        (λ one. ⊎_elim
        (λ two. absurd (omega (arith, (second.inside one.0 d one.2).0, (first.inside m e two).1, from, same, get-less xs m e two)))
        (λ two. second.ranked one.0 two.0 d e one.2 two.2 (omega (arith, less, one.1, two.1)) same)
        (get_split xs ys m e at_e))
        (get_split xs ys k d there)

    files : (k m : ℕ) (d e : Declaration) → slice_get (xs ++ ys) k ≡ Some d → slice_get (xs ++ ys) m ≡ Some e → m < k → is_file d.item ≡ true → e.file < d.file
    files k m d e there at_e less is = ⊎_elim
        (λ one. ⊎_elim
        (λ two. first.files k m d e one two less is)
        (λ two. absurd (omega (arith, less, two.1, get-less xs k d one)))
        (get_split xs ys m e at_e))
        (λ one. ⊎_elim
        (λ two. rise m one.0 d e two one.2)
        (λ two. second.files one.0 two.0 d e one.2 two.2 (omega (arith, less, one.1, two.1)) is)
        (get_split xs ys m e at_e))
        (get_split xs ys k d there)

nested_nothing : (place : ℕ) → AreNested place []
nested_nothing place = record {
  inside = λ k d there. absurd (none-some d there);
  between = λ k m d e there at less h. absurd (none-some d there);
  ranked = λ k m d e there at less h. absurd (none-some d there);
  files = λ k m d e there at less is. absurd (none-some d there);
}

nested_files : (start place : ℕ) (fs : List DeclaredFile) → AreNested place (files_declared start place fs)
nested_files start place [] = nested_nothing place
nested_files start place (f ∷ fs) =
    let own = file_declared start place f in
    nested_append place (place + length own) own (files_declared (start + 1) (place + length own) fs) refl (nested_file start place f) (nested_files (start + 1) (place + length own) fs)
    (λ m k d e at there. omega (arith, of_file start place f m e at, at_least (start + 1) (place + length own) fs k d there))

pub nested : (files : List DeclaredFile) (w : World) → IsWorldOf files w → AreNested 0 w.declared
nested files w world = subst (AreNested 0) (sym world.declared) (nested_files 0 0 files)
