-- After each declaration stand the parts that it declares itself, and what is declared around each one stands before it.
use Rattle.std.proofs.Common.{◌≡◌, ℕ, zero, suc, ◌+◌, ◌<◌, ◌⊎◌, inl, inr, ⊎_elim, List, [], ◌∷◌, ◌++◌, map, length, refl, sym, ap, ◌∙◌, subst, arith, Some, add-zero, append_assoc}
use Rattle.std.specs.Prelude.{slice_get}
use Rattle.std.specs.List.{AllByRecursion, enumerate_from}
use Rattle.std.proofs.lemmas.Option.{none-some}
use Rattle.std.proofs.lemmas.Grind.{common_steps}
use Rattle.pb_schema.specs.Names.{in_scope}
use Rattle.pb_declarations.specs.Decls.{DeclaredEnum, MessageHead, DeclaredMessage, message, DeclaredMessages, no_messages, more_messages, DeclaredService, DeclaredFile}
use Rattle.pb_link_names.specs.Declarations.{Item, a_file, a_message, a_field, a_oneof, an_enum, a_value, a_service, a_method, Declaration, fields_of, oneofs_of, values_of, enum_declared, enums_declared, head_row, message_declared, messages_declared, service_declared, services_declared, file_declared, files_declared, declarations}

pub some_same : {A : Type 0} (a b : A) → Some a ≡ Some b → a ≡ b
some_same a b h = cc

pub get_behind : {X : Type 0} (xs ys : List X) (i k : ℕ) → k ≡ length xs + i → slice_get (xs ++ ys) k ≡ slice_get ys i
get_behind [] ys i k e = ap (slice_get ys) (omega (arith, e))
get_behind (x ∷ xs) ys i zero e = absurd (omega (arith, e))
get_behind (x ∷ xs) ys i (suc k) e = get_behind xs ys i k (omega (arith, e))

pub get_front : {X : Type 0} (xs ys : List X) (i : ℕ) (x : X) → slice_get xs i ≡ Some x → slice_get (xs ++ ys) i ≡ Some x
get_front [] ys i x h = absurd (none-some x h)
get_front (y ∷ xs) ys zero x h = h
get_front (y ∷ xs) ys (suc i) x h = get_front xs ys i x h

pub get_split : {X : Type 0} (xs ys : List X) (k : ℕ) (x : X) → slice_get (xs ++ ys) k ≡ Some x → (slice_get xs k ≡ Some x) ⊎ ((i : ℕ) × (k ≡ length xs + i) × (slice_get ys i ≡ Some x))
get_split [] ys k x h = inr (k, omega arith, h)
get_split (y ∷ xs) ys zero x h = inl h
get_split (y ∷ xs) ys (suc k) x h = ⊎_elim (λ front. inl front) (λ back. inr (back.0, omega (arith, back.1), back.2)) (get_split xs ys k x h)

pub all_get : {X : Type 0} (P : X → Type 0) (xs : List X) (k : ℕ) (x : X) → AllByRecursion P xs → slice_get xs k ≡ Some x → P x
all_get P [] k x all h = absurd (none-some x h)
all_get P (y ∷ xs) zero x all h = subst P (some_same y x h) all.0
all_get P (y ∷ xs) (suc k) x all h = all_get P xs k x all.1 h

pub all_append : {X : Type 0} (P : X → Type 0) (xs ys : List X) → AllByRecursion P xs → AllByRecursion P ys → AllByRecursion P (xs ++ ys)
all_append P [] ys first second = second
all_append P (x ∷ xs) ys first second = (first.0, all_append P xs ys first.1 second)

pub all_map : {X Y : Type 0} (P : Y → Type 0) (f : X → Y) → ((x : X) → P (f x)) → (xs : List X) → AllByRecursion P (map f xs)
all_map P f each [] = tt
all_map P f each (x ∷ xs) = (each x, all_map P f each xs)

-- PARTS: the fields and oneofs of a message, the values of an enum

abbrev pub parts_by_item : ℕ → ℕ → List ℕ → Item → List Declaration
parts_by_item place file scope (a_message head inner) = fields_of file place (in_scope scope head.name) head head.fields ++ oneofs_of file place (in_scope scope head.name) head head.oneofs
parts_by_item place file scope (an_enum e) = values_of file place scope e e.values
parts_by_item place file scope _ = []

abbrev pub parts_of : ℕ → Declaration → List Declaration
parts_of place d = parts_by_item place d.file d.scope d.item

-- WHAT STANDS AROUND: the declaration of an item, in a scope, stands in another

-- the scope of what is declared in a declaration
abbrev pub scope_in : Declaration → List ℕ
scope_in d = by_item d.item
  where
    by_item : Item → List ℕ
    by_item (a_file f) = f.package_name
    by_item (a_message head inner) = in_scope d.scope head.name
    by_item (a_service s) = in_scope d.scope s.name
    by_item _ = d.scope

abbrev pub HasMessages : DeclaredMessages → Type 0
HasMessages no_messages = ⊥
HasMessages (more_messages m ms) = Unit {0}

abbrev pub HasEnums : List DeclaredEnum → Type 0
HasEnums [] = ⊥
HasEnums (e ∷ es) = Unit {0}

-- what may stand in what
abbrev pub MayStandIn : Item → Item → Type 0
MayStandIn (a_message head inner) (a_file f) = Unit {0}
MayStandIn (an_enum e) (a_file f) = Unit {0}
MayStandIn (a_service s) (a_file f) = Unit {0}
MayStandIn (a_message head inner) (a_message outer among) = HasMessages among
MayStandIn (a_field head i f) (a_message outer among) = head ≡ outer
MayStandIn (a_oneof head i name) (a_message outer among) = head ≡ outer
MayStandIn (an_enum e) (a_message outer among) = HasEnums outer.enums
MayStandIn (a_value e i v) (an_enum outer) = e ≡ outer
MayStandIn (a_method m) (a_service s) = Unit {0}
MayStandIn _ _ = ⊥

pub record StandsIn (d around : Declaration) : Type 0 where
  pub file : d.file ≡ around.file
  pub scope : d.scope ≡ scope_in around
  pub item : MayStandIn d.item around.item

-- the declaration stands in the one at a place
abbrev pub In : ℕ → Declaration → Declaration → Type 0
In place around d = (d.parent ≡ place) × StandsIn d around

abbrev pub StandsBehind : ℕ → List Declaration → ℕ → Declaration → Type 0
StandsBehind place ds k d = (p : ℕ) × (o : Declaration) × (p < k) × (slice_get ds p ≡ Some o) × In (place + p) o d

-- Some declarations, which stand at a place and after it: after each stand its parts, and what is around it stands before it or outside.
pub record AreBuilt (Outside : Declaration → Type 0) (place : ℕ) (ds : List Declaration) : Type 0 where
  pub parts : (k : ℕ) (d : Declaration) → slice_get ds k ≡ Some d → (j : ℕ) (e : Declaration) → slice_get (parts_of (place + k) d) j ≡ Some e → slice_get ds (k + 1 + j) ≡ Some e
  pub around : (k : ℕ) (d : Declaration) → slice_get ds k ≡ Some d → Outside d ⊎ StandsBehind place ds k d

built_nothing : (O : Declaration → Type 0) (place : ℕ) → AreBuilt O place []
built_nothing O place = record { parts = λ k d there. absurd (none-some d there); around = λ k d there. absurd (none-some d there) }

front_behind : (place : ℕ) (xs ys : List Declaration) (k : ℕ) (d : Declaration) → StandsBehind place xs k d → StandsBehind place (xs ++ ys) k d
front_behind place xs ys k d h = (h.0, h.1, h.2, get_front xs ys h.0 h.1 h.3, h.4)

back_behind : (place mid : ℕ) (xs ys : List Declaration) (i k : ℕ) (d : Declaration) → mid ≡ place + length xs → k ≡ length xs + i → StandsBehind mid ys i d → StandsBehind place (xs ++ ys) k d
back_behind place mid xs ys i k d from at h = (length xs + h.0, h.1, omega (arith, at, h.2), get_behind xs ys h.0 (length xs + h.0) refl ∙ h.3, (h.4.0 ∙ omega (arith, from), h.4.1))

-- parts in a list, from the parts in its front and its back
parts_append : (P Q : Declaration → Type 0) (place mid : ℕ) (xs ys : List Declaration) → mid ≡ place + length xs → AreBuilt P place xs → AreBuilt Q mid ys → (k : ℕ) (d : Declaration) → slice_get (xs ++ ys) k ≡ Some d → (j : ℕ) (e : Declaration) → slice_get (parts_of (place + k) d) j ≡ Some e → slice_get (xs ++ ys) (k + 1 + j) ≡ Some e
parts_append P Q place mid xs ys from first second k d there j e at = ⊎_elim
    (λ front. get_front xs ys (k + 1 + j) e (first.parts k d front j e at))
    (λ back. get_behind xs ys (back.0 + 1 + j) (k + 1 + j) (omega (arith, back.1)) ∙ second.parts back.0 d back.2 j e (subst (λ n. slice_get (parts_of n d) j ≡ Some e) (omega (arith, back.1, from)) at))
    (get_split xs ys k d there)

built_append : (O : Declaration → Type 0) (place mid : ℕ) (xs ys : List Declaration) → mid ≡ place + length xs → AreBuilt O place xs → AreBuilt O mid ys → AreBuilt O place (xs ++ ys)
built_append O place mid xs ys from first second = record {
  parts = parts_append O O place mid xs ys from first second;
  around = λ k d there. ⊎_elim
      (λ front. ⊎_elim (λ out. inl out) (λ h. inr (front_behind place xs ys k d h)) (first.around k d front))
      (λ back. ⊎_elim (λ out. inl out) (λ h. inr (back_behind place mid xs ys back.0 k d from back.1 h)) (second.around back.0 d back.2))
      (get_split xs ys k d there);
}

-- what stands in the first declaration of a list, after the list
built_under : (O : Declaration → Type 0) (place mid : ℕ) (x : Declaration) (xs ys : List Declaration) → slice_get xs 0 ≡ Some x → mid ≡ place + length xs → AreBuilt O place xs → AreBuilt (In place x) mid ys → AreBuilt O place (xs ++ ys)
built_under O place mid x xs ys first_is from first second = record {
  parts = parts_append O (In place x) place mid xs ys from first second;
  around = λ k d there. ⊎_elim
      (λ front. ⊎_elim (λ out. inl out) (λ h. inr (front_behind place xs ys k d h)) (first.around k d front))
      (λ back. ⊎_elim
      (λ out. inr (0, x, some_before xs back.0 k x first_is back.1, get_front xs ys 0 x first_is, (out.0 ∙ sym (add-zero place), out.1)))
      (λ h. inr (back_behind place mid xs ys back.0 k d from back.1 h))
      (second.around back.0 d back.2))
      (get_split xs ys k d there);
}
  where
    some_before : (zs : List Declaration) (i k : ℕ) (z : Declaration) → slice_get zs 0 ≡ Some z → k ≡ length zs + i → 0 < k
    some_before [] i k z h e = absurd (none-some z h)
    some_before (y ∷ zs) i k z h e = omega (arith, e)

-- a declaration and leaves in it
built_own : (O : Declaration → Type 0) (place : ℕ) (x : Declaration) (ps : List Declaration) → O x → ((j : ℕ) (e : Declaration) → slice_get (parts_of place x) j ≡ Some e → slice_get ps j ≡ Some e) → AllByRecursion (λ d. In place x d × ((q : ℕ) → parts_of q d ≡ [])) ps → AreBuilt O place (x ∷ ps)
built_own O place x ps outside give leaves = record { parts = parts; around = around }
  where
    parts : (k : ℕ) (d : Declaration) → slice_get (x ∷ ps) k ≡ Some d → (j : ℕ) (e : Declaration) → slice_get (parts_of (place + k) d) j ≡ Some e → slice_get (x ∷ ps) (k + 1 + j) ≡ Some e
    parts zero d there j e at = get_behind (x ∷ []) ps j (0 + 1 + j) (omega arith) ∙ give j e (subst (λ y. slice_get (parts_of place y) j ≡ Some e) (sym (some_same x d there)) (subst (λ n. slice_get (parts_of n d) j ≡ Some e) (add-zero place) at))
    parts (suc k) d there j e at = absurd (none-some e (ap (λ zs. slice_get zs j) (sym ((all_get (λ z. In place x z × ((q : ℕ) → parts_of q z ≡ [])) ps k d leaves there).1 (place + suc k))) ∙ at))

    around : (k : ℕ) (d : Declaration) → slice_get (x ∷ ps) k ≡ Some d → O d ⊎ StandsBehind place (x ∷ ps) k d
    around zero d there = inl (subst O (some_same x d there) outside)
    around (suc k) d there =
        let leaf = all_get (λ z. In place x z × ((q : ℕ) → parts_of q z ≡ [])) ps k d leaves there in
        inr (0, x, omega arith, refl, (leaf.0.0 ∙ sym (add-zero place), leaf.0.1))

-- THE BLOCKS

built_enum : (O : Declaration → Type 0) (file parent : ℕ) (scope : List ℕ) (place : ℕ) (e : DeclaredEnum) → O (record { file = file; parent = parent; scope = scope; item = an_enum e }) → AreBuilt O place (enum_declared file parent scope place e)
built_enum O file parent scope place e outside =
    built_own O place (record { file = file; parent = parent; scope = scope; item = an_enum e }) (values_of file place scope e e.values) outside (λ j d h. h)
    (all_map (λ d. In place (record { file = file; parent = parent; scope = scope; item = an_enum e }) d × ((q : ℕ) → parts_of q d ≡ [])) (λ v. record { file = file; parent = place; scope = scope; item = a_value e v.0 v.1 }) (λ v. ((refl, record { file = refl; scope = refl; item = refl }), λ q. refl)) (enumerate_from 0 e.values))

built_enums : (O : Declaration → Type 0) (file parent : ℕ) (scope : List ℕ) (place : ℕ) (es : List DeclaredEnum) → ((e : DeclaredEnum) → O (record { file = file; parent = parent; scope = scope; item = an_enum e })) → AreBuilt O place (enums_declared file parent scope place es)
built_enums O file parent scope place [] outside = built_nothing O place
built_enums O file parent scope place (e ∷ es) outside =
    let own = enum_declared file parent scope place e in
    built_append O place (place + length own) own (enums_declared file parent scope (place + length own) es) refl (built_enum O file parent scope place e (outside e)) (built_enums O file parent scope (place + length own) es outside)

built_service : (O : Declaration → Type 0) (file parent : ℕ) (scope : List ℕ) (place : ℕ) (s : DeclaredService) → O (record { file = file; parent = parent; scope = scope; item = a_service s }) → AreBuilt O place (service_declared file parent scope place s)
built_service O file parent scope place s outside =
    built_own O place (record { file = file; parent = parent; scope = scope; item = a_service s }) (map (λ m. record { file = file; parent = place; scope = in_scope scope s.name; item = a_method m }) s.methods) outside (λ j d h. absurd (none-some d h))
    (all_map (λ d. In place (record { file = file; parent = parent; scope = scope; item = a_service s }) d × ((q : ℕ) → parts_of q d ≡ [])) (λ m. record { file = file; parent = place; scope = in_scope scope s.name; item = a_method m }) (λ m. ((refl, record { file = refl; scope = refl; item = tt }), λ q. refl)) s.methods)

built_services : (O : Declaration → Type 0) (file parent : ℕ) (scope : List ℕ) (place : ℕ) (ss : List DeclaredService) → ((s : DeclaredService) → O (record { file = file; parent = parent; scope = scope; item = a_service s })) → AreBuilt O place (services_declared file parent scope place ss)
built_services O file parent scope place [] outside = built_nothing O place
built_services O file parent scope place (s ∷ ss) outside =
    let own = service_declared file parent scope place s in
    built_append O place (place + length own) own (services_declared file parent scope (place + length own) ss) refl (built_service O file parent scope place s (outside s)) (built_services O file parent scope (place + length own) ss outside)

built_head : (O : Declaration → Type 0) (file parent : ℕ) (scope : List ℕ) (place : ℕ) (head : MessageHead) (inner : DeclaredMessages) → O (record { file = file; parent = parent; scope = scope; item = a_message head inner }) → AreBuilt O place (head_row file parent scope (in_scope scope head.name) place (message head inner))
built_head O file parent scope place head inner outside =
    let name = in_scope scope head.name in
    let x : Declaration = record { file = file; parent = parent; scope = scope; item = a_message head inner } in
    built_own O place x (fields_of file place name head head.fields ++ oneofs_of file place name head head.oneofs) outside (λ j d h. h)
    (all_append (λ d. In place x d × ((q : ℕ) → parts_of q d ≡ [])) (fields_of file place name head head.fields) (oneofs_of file place name head head.oneofs)
    (all_map (λ d. In place x d × ((q : ℕ) → parts_of q d ≡ [])) (λ e. record { file = file; parent = place; scope = name; item = a_field head e.0 e.1 }) (λ e. ((refl, record { file = refl; scope = refl; item = refl }), λ q. refl)) (enumerate_from 0 head.fields))
    (all_map (λ d. In place x d × ((q : ℕ) → parts_of q d ≡ [])) (λ e. record { file = file; parent = place; scope = name; item = a_oneof head e.0 e.1 }) (λ e. ((refl, record { file = refl; scope = refl; item = refl }), λ q. refl)) (enumerate_from 0 head.oneofs)))

sum3 : (place : ℕ) (xs ys : List Declaration) → place + length xs + length ys ≡ place + length (xs ++ ys)
sum3 place xs ys = grind (arith, common_steps)

-- outside of enums, where there are some
outside_enums : (O : Declaration → Type 0) (file parent : ℕ) (scope : List ℕ) (place : ℕ) (es : List DeclaredEnum) → ((e : DeclaredEnum) → HasEnums es → O (record { file = file; parent = parent; scope = scope; item = an_enum e })) → AreBuilt O place (enums_declared file parent scope place es)
outside_enums O file parent scope place [] outside = built_nothing O place
outside_enums O file parent scope place (e ∷ es) outside = built_enums O file parent scope place (e ∷ es) (λ d. outside d tt)

mutual
  built_message : (O : Declaration → Type 0) (file parent : ℕ) (scope : List ℕ) (place : ℕ) (m : DeclaredMessage) → ((head : MessageHead) (inner : DeclaredMessages) → O (record { file = file; parent = parent; scope = scope; item = a_message head inner })) → AreBuilt O place (message_declared file parent scope place m)
  built_message O file parent scope place (message head inner) outside =
      let name = in_scope scope head.name in
      let x : Declaration = record { file = file; parent = parent; scope = scope; item = a_message head inner } in
      let own = head_row file parent scope name place (message head inner) in
      let nested = messages_declared file place name (place + length own) inner in
      let enums = enums_declared file place name (place + length own + length nested) head.enums in
      built_under O place (place + length own + length nested) x (own ++ nested) enums refl (sum3 place own nested)
      (built_under O place (place + length own) x own nested refl refl (built_head O file parent scope place head inner (outside head inner))
      (built_messages (In place x) file place name (place + length own) inner (λ h i some. (refl, record { file = refl; scope = refl; item = some }))))
      (outside_enums (In place x) file place name (place + length own + length nested) head.enums (λ e some. (refl, record { file = refl; scope = refl; item = some })))

  built_messages : (O : Declaration → Type 0) (file parent : ℕ) (scope : List ℕ) (place : ℕ) (ms : DeclaredMessages) → ((head : MessageHead) (inner : DeclaredMessages) → HasMessages ms → O (record { file = file; parent = parent; scope = scope; item = a_message head inner })) → AreBuilt O place (messages_declared file parent scope place ms)
  built_messages O file parent scope place no_messages outside = built_nothing O place
  built_messages O file parent scope place (more_messages m ms) outside =
      let own = message_declared file parent scope place m in
      built_append O place (place + length own) own (messages_declared file parent scope (place + length own) ms) refl (built_message O file parent scope place m (λ h i. outside h i tt)) (built_messages O file parent scope (place + length own) ms (λ h i some. outside h i tt))

pub built_file : (O : Declaration → Type 0) (file place : ℕ) (f : DeclaredFile) → O (record { file = file; parent = place; scope = []; item = a_file f }) → AreBuilt O place (file_declared file place f)
built_file O file place f outside =
    let x : Declaration = record { file = file; parent = place; scope = []; item = a_file f } in
    let messages = messages_declared file place f.package_name (place + 1) f.messages in
    let enums = enums_declared file place f.package_name (place + 1 + length messages) f.enums in
    let services = services_declared file place f.package_name (place + 1 + length messages + length enums) f.services in
    built_under O place (place + 1) x (x ∷ []) (messages ++ enums ++ services) refl refl
    (built_own O place x [] outside (λ j d h. h) tt)
    (built_append (In place x) (place + 1) (place + 1 + length messages + length enums) (messages ++ enums) services (sum3 (place + 1) messages enums)
    (built_append (In place x) (place + 1) (place + 1 + length messages) messages enums refl
    (built_messages (In place x) file place f.package_name (place + 1) f.messages (λ h i some. (refl, record { file = refl; scope = refl; item = tt })))
    (built_enums (In place x) file place f.package_name (place + 1 + length messages) f.enums (λ e. (refl, record { file = refl; scope = refl; item = tt }))))
    (built_services (In place x) file place f.package_name (place + 1 + length messages + length enums) f.services (λ s. (refl, record { file = refl; scope = refl; item = tt }))))

-- the declaration is a file of the list, at its index
abbrev pub IsFileOf : List DeclaredFile → Declaration → Type 0
IsFileOf files d = (f : DeclaredFile) × (d.item ≡ a_file f) × (slice_get files d.file ≡ Some f)

built_files : (all front : List DeclaredFile) (place : ℕ) (fs : List DeclaredFile) → all ≡ front ++ fs → AreBuilt (IsFileOf all) place (files_declared (length front) place fs)
built_files all front place [] same = built_nothing (IsFileOf all) place
built_files all front place (f ∷ fs) same =
    let own = file_declared (length front) place f in
    built_append (IsFileOf all) place (place + length own) own (files_declared (length front + 1) (place + length own) fs) refl
    (built_file (IsFileOf all) (length front) place f (f, refl, ap (λ xs. slice_get xs (length front)) same ∙ get_behind front (f ∷ fs) 0 (length front) (sym (add-zero (length front)))))
    (subst (λ n. AreBuilt (IsFileOf all) (place + length own) (files_declared n (place + length own) fs)) (one_more front f) (built_files all (front ++ f ∷ []) (place + length own) fs (same ∙ sym (append_assoc front (f ∷ []) fs))))
  where
    one_more : (xs : List DeclaredFile) (x : DeclaredFile) → length (xs ++ x ∷ []) ≡ length xs + 1
    one_more xs x = grind (arith, common_steps)

pub declarations_built : (files : List DeclaredFile) → AreBuilt (IsFileOf files) 0 (declarations files)
declarations_built files = built_files files [] 0 files refl
