-- The causes that are judged at each kind of declaration are all that can fail there.
use Rattle.std.proofs.Common.{◌≡◌, ℕ, ◌+◌, ◌<◌, ℤ, List, [], ◌∷◌, length, drop, get_or, Bool, true, not, ◌&&◌, Option, Some, None, refl, sym, ap, ◌∙◌, subst}
use Rattle.std.specs.Prelude.{if◌then◌else◌}
use Rattle.std.proofs.lemmas.List.{drop_more}
use Rattle.std.specs.List.{list_all}
use Rattle.std.specs.Prelude.{is_some, option_map}
use Rattle.pb_declarations.specs.declared.decl.TypeCode.TheVariants as code
use Rattle.pb_link_rules.specs.declared.cause.LinkCause.{LinkCause}
use Rattle.pb_link_names.specs.Declarations.{Item}
use Rattle.pb_declarations.specs.Decls.{DeclaredField, DeclaredEnum, MessageHead, DeclaredMessages, DeclaredFile, DeclaredService, DeclaredMethod}
use Rattle.pb_link_rules.specs.declared.cause.LinkCause.TheVariants as cause
use Rattle.pb_link_names.specs.Declarations.{Declaration, a_file, a_message, a_field, a_oneof, an_enum, a_value, a_service, a_method}
use Rattle.pb_link_names.specs.Lookup.{not_found, not_visible, not_a_type}
use Rattle.pb_link_rules.specs.Rules.{World, name_is_right, name_is_free, is_looked_up, is_field_number, is_map_right, is_packed_right, begins_right, is_two, is_enum_right, is_message_type, is_type_right, is_packable, is_packable_by, is_type_by, passes, is_message, is_enum, lookups}
use Rattle.pb_link_names.specs.MarkRules.{number_is_free, is_not_reserved, is_oneof_right, ranges_are_right}
use Rattle.pb_link_rules.specs.Link.{first_cause, holds}
use Rattle.pb_link_rules.specs.Judging.{first_failing}

pub file_judged : (w : World) (place file parent : ℕ) (scope : List ℕ) (f : DeclaredFile) (two missing cycle name : Bool)
    → two ≡ holds w place (record { file = file; parent = parent; scope = scope; item = a_file f }) cause.TwoFiles
    → missing ≡ holds w place (record { file = file; parent = parent; scope = scope; item = a_file f }) cause.MissingImport
    → cycle ≡ holds w place (record { file = file; parent = parent; scope = scope; item = a_file f }) cause.ImportCycle
    → name ≡ name_is_right (a_file f)
    → first_failing ((cause.TwoFiles, two) ∷ (cause.MissingImport, missing) ∷ (cause.ImportCycle, cycle) ∷ (cause.BadName, name) ∷ []) ≡ first_cause w place (record { file = file; parent = parent; scope = scope; item = a_file f })
file_judged w place file parent scope f two missing cycle name h1 h2 h3 h4 = λ i. first_failing ((cause.TwoFiles, h1 i) ∷ (cause.MissingImport, h2 i) ∷ (cause.ImportCycle, h3 i) ∷ (cause.BadName, h4 i) ∷ [])

pub message_judged : (w : World) (place file parent : ℕ) (scope : List ℕ) (head : MessageHead) (inner : DeclaredMessages) (name free entry ranges : Bool)
    → name ≡ name_is_right (a_message head inner)
    → free ≡ name_is_free w place (record { file = file; parent = parent; scope = scope; item = a_message head inner })
    → entry ≡ is_map_right w place (record { file = file; parent = parent; scope = scope; item = a_message head inner })
    → ranges ≡ ranges_are_right (a_message head inner)
    → first_failing ((cause.BadName, name) ∷ (cause.NameTaken, free) ∷ (cause.BadMap, entry) ∷ (cause.BadRange, ranges) ∷ []) ≡ first_cause w place (record { file = file; parent = parent; scope = scope; item = a_message head inner })
message_judged w place file parent scope head inner name free entry ranges h1 h2 h3 h4 = λ i. first_failing ((cause.BadName, h1 i) ∷ (cause.NameTaken, h2 i) ∷ (cause.BadMap, h3 i) ∷ (cause.BadRange, h4 i) ∷ [])

pub field_judged : (w : World) (place file parent : ℕ) (scope : List ℕ) (head : MessageHead) (index : ℕ) (f : DeclaredField) (name free found visible type number first kept oneof entry packed kind closed : Bool)
    → name ≡ name_is_right (a_field head index f)
    → free ≡ name_is_free w place (record { file = file; parent = parent; scope = scope; item = a_field head index f })
    → found ≡ is_looked_up not_found w (record { file = file; parent = parent; scope = scope; item = a_field head index f })
    → visible ≡ is_looked_up not_visible w (record { file = file; parent = parent; scope = scope; item = a_field head index f })
    → type ≡ is_looked_up not_a_type w (record { file = file; parent = parent; scope = scope; item = a_field head index f })
    → number ≡ is_field_number f.number
    → first ≡ number_is_free (a_field head index f)
    → kept ≡ is_not_reserved (a_field head index f)
    → oneof ≡ (not (f.is_optional && is_two w.files file) && is_oneof_right (a_field head index f))
    → entry ≡ is_map_right w place (record { file = file; parent = parent; scope = scope; item = a_field head index f })
    → packed ≡ is_packed_right w (record { file = file; parent = parent; scope = scope; item = a_field head index f }) f
    → kind ≡ is_type_right w (record { file = file; parent = parent; scope = scope; item = a_field head index f }) f
    → closed ≡ is_enum_right w (record { file = file; parent = parent; scope = scope; item = a_field head index f })
    → first_failing ((cause.BadName, name) ∷ (cause.NameTaken, free) ∷ (cause.NotFound, found) ∷ (cause.NotVisible, visible) ∷ (cause.NotAType, type) ∷ (cause.BadNumber, number) ∷ (cause.NumberTaken, first) ∷ (cause.Reserved, kept) ∷ (cause.BadOneof, oneof) ∷ (cause.BadMap, entry) ∷ (cause.BadPacked, packed) ∷ (cause.KindMismatch, kind) ∷ (cause.ClosedEnum, closed) ∷ []) ≡ first_cause w place (record { file = file; parent = parent; scope = scope; item = a_field head index f })
field_judged w place file parent scope head index f name free found visible type number first kept oneof entry packed kind closed h1 h2 h3 h4 h5 h6 h7 h8 h9 h10 h11 h12 h13 = λ i. first_failing ((cause.BadName, h1 i) ∷ (cause.NameTaken, h2 i) ∷ (cause.NotFound, h3 i) ∷ (cause.NotVisible, h4 i) ∷ (cause.NotAType, h5 i) ∷ (cause.BadNumber, h6 i) ∷ (cause.NumberTaken, h7 i) ∷ (cause.Reserved, h8 i) ∷ (cause.BadOneof, h9 i) ∷ (cause.BadMap, h10 i) ∷ (cause.BadPacked, h11 i) ∷ (cause.KindMismatch, h12 i) ∷ (cause.ClosedEnum, h13 i) ∷ [])

pub value_judged : (w : World) (place file parent : ℕ) (scope : List ℕ) (e : DeclaredEnum) (index : ℕ) (v : List ℕ × ℤ) (name free first kept : Bool)
    → name ≡ name_is_right (a_value e index v)
    → free ≡ name_is_free w place (record { file = file; parent = parent; scope = scope; item = a_value e index v })
    → first ≡ number_is_free (a_value e index v)
    → kept ≡ is_not_reserved (a_value e index v)
    → first_failing ((cause.BadName, name) ∷ (cause.NameTaken, free) ∷ (cause.NumberTaken, first) ∷ (cause.Reserved, kept) ∷ []) ≡ first_cause w place (record { file = file; parent = parent; scope = scope; item = a_value e index v })
value_judged w place file parent scope e index v name free first kept h1 h2 h3 h4 = λ i. first_failing ((cause.BadName, h1 i) ∷ (cause.NameTaken, h2 i) ∷ (cause.NumberTaken, h3 i) ∷ (cause.Reserved, h4 i) ∷ [])

pub oneof_judged : (w : World) (place file parent : ℕ) (scope : List ℕ) (head : MessageHead) (index : ℕ) (o : List ℕ) (name free right : Bool)
    → name ≡ name_is_right (a_oneof head index o)
    → free ≡ name_is_free w place (record { file = file; parent = parent; scope = scope; item = a_oneof head index o })
    → right ≡ is_oneof_right (a_oneof head index o)
    → first_failing ((cause.BadName, name) ∷ (cause.NameTaken, free) ∷ (cause.BadOneof, right) ∷ []) ≡ first_cause w place (record { file = file; parent = parent; scope = scope; item = a_oneof head index o })
oneof_judged w place file parent scope head index o name free right h1 h2 h3 = λ i. first_failing ((cause.BadName, h1 i) ∷ (cause.NameTaken, h2 i) ∷ (cause.BadOneof, h3 i) ∷ [])

pub enum_judged : (w : World) (place file parent : ℕ) (scope : List ℕ) (e : DeclaredEnum) (name free zero_first ranges : Bool)
    → name ≡ name_is_right (an_enum e)
    → free ≡ name_is_free w place (record { file = file; parent = parent; scope = scope; item = an_enum e })
    → zero_first ≡ begins_right (is_two w.files file) e
    → ranges ≡ ranges_are_right (an_enum e)
    → first_failing ((cause.BadName, name) ∷ (cause.NameTaken, free) ∷ (cause.BadEnum, zero_first) ∷ (cause.BadRange, ranges) ∷ []) ≡ first_cause w place (record { file = file; parent = parent; scope = scope; item = an_enum e })
enum_judged w place file parent scope e name free zero_first ranges h1 h2 h3 h4 = λ i. first_failing ((cause.BadName, h1 i) ∷ (cause.NameTaken, h2 i) ∷ (cause.BadEnum, h3 i) ∷ (cause.BadRange, h4 i) ∷ [])

pub service_judged : (w : World) (place file parent : ℕ) (scope : List ℕ) (s : DeclaredService) (name free : Bool)
    → name ≡ name_is_right (a_service s)
    → free ≡ name_is_free w place (record { file = file; parent = parent; scope = scope; item = a_service s })
    → first_failing ((cause.BadName, name) ∷ (cause.NameTaken, free) ∷ []) ≡ first_cause w place (record { file = file; parent = parent; scope = scope; item = a_service s })
service_judged w place file parent scope s name free h1 h2 = λ i. first_failing ((cause.BadName, h1 i) ∷ (cause.NameTaken, h2 i) ∷ [])

pub method_judged : (w : World) (place file parent : ℕ) (scope : List ℕ) (m : DeclaredMethod) (name free found visible type entry kind : Bool)
    → name ≡ name_is_right (a_method m)
    → free ≡ name_is_free w place (record { file = file; parent = parent; scope = scope; item = a_method m })
    → found ≡ is_looked_up not_found w (record { file = file; parent = parent; scope = scope; item = a_method m })
    → visible ≡ is_looked_up not_visible w (record { file = file; parent = parent; scope = scope; item = a_method m })
    → type ≡ is_looked_up not_a_type w (record { file = file; parent = parent; scope = scope; item = a_method m })
    → entry ≡ is_map_right w place (record { file = file; parent = parent; scope = scope; item = a_method m })
    → kind ≡ holds w place (record { file = file; parent = parent; scope = scope; item = a_method m }) cause.KindMismatch
    → first_failing ((cause.BadName, name) ∷ (cause.NameTaken, free) ∷ (cause.NotFound, found) ∷ (cause.NotVisible, visible) ∷ (cause.NotAType, type) ∷ (cause.BadMap, entry) ∷ (cause.KindMismatch, kind) ∷ []) ≡ first_cause w place (record { file = file; parent = parent; scope = scope; item = a_method m })
method_judged w place file parent scope m name free found visible type entry kind h1 h2 h3 h4 h5 h6 h7 = λ i. first_failing ((cause.BadName, h1 i) ∷ (cause.NameTaken, h2 i) ∷ (cause.NotFound, h3 i) ∷ (cause.NotVisible, h4 i) ∷ (cause.NotAType, h5 i) ∷ (cause.BadMap, h6 i) ∷ (cause.KindMismatch, h7 i) ∷ [])

-- the causes from an index on, of which the one there fails or does not
pub failing_more : (rules : List (LinkCause × Bool)) (i : ℕ) (d : LinkCause × Bool) (told : Option LinkCause) → i < length rules → told ≡ first_failing (drop i rules) → told ≡ (if not (get_or rules i d).1 then Some (get_or rules i d).0 else first_failing (drop (i + 1) rules))
failing_more rules i d told h held = held ∙ ap first_failing (drop_more rules i d h)

-- what holds of a kind of declaration, at a declaration of this kind
pub of_kind : (P : Item → Type 0) (it item : Item) → item ≡ it → P it → P item
of_kind P it item e p = subst P (sym e) p

pub failing_on : (rules : List (LinkCause × Bool)) (i : ℕ) (d : LinkCause × Bool) (told : Option LinkCause) → i < length rules → told ≡ first_failing (drop i rules) → (get_or rules i d).1 ≡ true → told ≡ first_failing (drop (i + 1) rules)
failing_on rules i d told h held holds = failing_more rules i d told h held ∙ ap (λ b. if not b then Some (get_or rules i d).0 else first_failing (drop (i + 1) rules)) holds

-- the same at any declaration of the kind

pub file_told : (w : World) (place : ℕ) (d : Declaration) (f : DeclaredFile) (two missing cycle name : Bool)
    → d.item ≡ a_file f
    → two ≡ holds w place d cause.TwoFiles
    → missing ≡ holds w place d cause.MissingImport
    → cycle ≡ holds w place d cause.ImportCycle
    → name ≡ name_is_right d.item
    → first_failing ((cause.TwoFiles, two) ∷ (cause.MissingImport, missing) ∷ (cause.ImportCycle, cycle) ∷ (cause.BadName, name) ∷ []) ≡ first_cause w place d
file_told w place d f two missing cycle name is =
    let P : Item → Type 0 = λ it. two ≡ holds w place (record { file = d.file; parent = d.parent; scope = d.scope; item = it }) cause.TwoFiles → missing ≡ holds w place (record { file = d.file; parent = d.parent; scope = d.scope; item = it }) cause.MissingImport → cycle ≡ holds w place (record { file = d.file; parent = d.parent; scope = d.scope; item = it }) cause.ImportCycle → name ≡ name_is_right it → first_failing ((cause.TwoFiles, two) ∷ (cause.MissingImport, missing) ∷ (cause.ImportCycle, cycle) ∷ (cause.BadName, name) ∷ []) ≡ first_cause w place (record { file = d.file; parent = d.parent; scope = d.scope; item = it }) in
    subst P (sym is) (file_judged w place d.file d.parent d.scope f two missing cycle name)

pub message_told : (w : World) (place : ℕ) (d : Declaration) (head : MessageHead) (inner : DeclaredMessages) (name free entry ranges : Bool)
    → d.item ≡ a_message head inner
    → name ≡ name_is_right d.item
    → free ≡ holds w place d cause.NameTaken
    → entry ≡ holds w place d cause.BadMap
    → ranges ≡ ranges_are_right d.item
    → first_failing ((cause.BadName, name) ∷ (cause.NameTaken, free) ∷ (cause.BadMap, entry) ∷ (cause.BadRange, ranges) ∷ []) ≡ first_cause w place d
message_told w place d head inner name free entry ranges is =
    let P : Item → Type 0 = λ it. name ≡ name_is_right it → free ≡ holds w place (record { file = d.file; parent = d.parent; scope = d.scope; item = it }) cause.NameTaken → entry ≡ holds w place (record { file = d.file; parent = d.parent; scope = d.scope; item = it }) cause.BadMap → ranges ≡ ranges_are_right it → first_failing ((cause.BadName, name) ∷ (cause.NameTaken, free) ∷ (cause.BadMap, entry) ∷ (cause.BadRange, ranges) ∷ []) ≡ first_cause w place (record { file = d.file; parent = d.parent; scope = d.scope; item = it }) in
    subst P (sym is) (message_judged w place d.file d.parent d.scope head inner name free entry ranges)

pub value_told : (w : World) (place : ℕ) (d : Declaration) (e : DeclaredEnum) (index : ℕ) (v : List ℕ × ℤ) (name free first kept : Bool)
    → d.item ≡ a_value e index v
    → name ≡ name_is_right d.item
    → free ≡ holds w place d cause.NameTaken
    → first ≡ number_is_free d.item
    → kept ≡ is_not_reserved d.item
    → first_failing ((cause.BadName, name) ∷ (cause.NameTaken, free) ∷ (cause.NumberTaken, first) ∷ (cause.Reserved, kept) ∷ []) ≡ first_cause w place d
value_told w place d e index v name free first kept is =
    let P : Item → Type 0 = λ it. name ≡ name_is_right it → free ≡ holds w place (record { file = d.file; parent = d.parent; scope = d.scope; item = it }) cause.NameTaken → first ≡ number_is_free it → kept ≡ is_not_reserved it → first_failing ((cause.BadName, name) ∷ (cause.NameTaken, free) ∷ (cause.NumberTaken, first) ∷ (cause.Reserved, kept) ∷ []) ≡ first_cause w place (record { file = d.file; parent = d.parent; scope = d.scope; item = it }) in
    subst P (sym is) (value_judged w place d.file d.parent d.scope e index v name free first kept)

pub oneof_told : (w : World) (place : ℕ) (d : Declaration) (head : MessageHead) (index : ℕ) (o : List ℕ) (name free right : Bool)
    → d.item ≡ a_oneof head index o
    → name ≡ name_is_right d.item
    → free ≡ holds w place d cause.NameTaken
    → right ≡ is_oneof_right d.item
    → first_failing ((cause.BadName, name) ∷ (cause.NameTaken, free) ∷ (cause.BadOneof, right) ∷ []) ≡ first_cause w place d
oneof_told w place d head index o name free right is =
    let P : Item → Type 0 = λ it. name ≡ name_is_right it → free ≡ holds w place (record { file = d.file; parent = d.parent; scope = d.scope; item = it }) cause.NameTaken → right ≡ is_oneof_right it → first_failing ((cause.BadName, name) ∷ (cause.NameTaken, free) ∷ (cause.BadOneof, right) ∷ []) ≡ first_cause w place (record { file = d.file; parent = d.parent; scope = d.scope; item = it }) in
    subst P (sym is) (oneof_judged w place d.file d.parent d.scope head index o name free right)

pub enum_told : (w : World) (place : ℕ) (d : Declaration) (e : DeclaredEnum) (name free zero_first ranges : Bool)
    → d.item ≡ an_enum e
    → name ≡ name_is_right d.item
    → free ≡ holds w place d cause.NameTaken
    → zero_first ≡ begins_right (is_two w.files d.file) e
    → ranges ≡ ranges_are_right d.item
    → first_failing ((cause.BadName, name) ∷ (cause.NameTaken, free) ∷ (cause.BadEnum, zero_first) ∷ (cause.BadRange, ranges) ∷ []) ≡ first_cause w place d
enum_told w place d e name free zero_first ranges is =
    let P : Item → Type 0 = λ it. name ≡ name_is_right it → free ≡ holds w place (record { file = d.file; parent = d.parent; scope = d.scope; item = it }) cause.NameTaken → zero_first ≡ begins_right (is_two w.files d.file) e → ranges ≡ ranges_are_right it → first_failing ((cause.BadName, name) ∷ (cause.NameTaken, free) ∷ (cause.BadEnum, zero_first) ∷ (cause.BadRange, ranges) ∷ []) ≡ first_cause w place (record { file = d.file; parent = d.parent; scope = d.scope; item = it }) in
    subst P (sym is) (enum_judged w place d.file d.parent d.scope e name free zero_first ranges)

pub service_told : (w : World) (place : ℕ) (d : Declaration) (s : DeclaredService) (name free : Bool)
    → d.item ≡ a_service s
    → name ≡ name_is_right d.item
    → free ≡ holds w place d cause.NameTaken
    → first_failing ((cause.BadName, name) ∷ (cause.NameTaken, free) ∷ []) ≡ first_cause w place d
service_told w place d s name free is =
    let P : Item → Type 0 = λ it. name ≡ name_is_right it → free ≡ holds w place (record { file = d.file; parent = d.parent; scope = d.scope; item = it }) cause.NameTaken → first_failing ((cause.BadName, name) ∷ (cause.NameTaken, free) ∷ []) ≡ first_cause w place (record { file = d.file; parent = d.parent; scope = d.scope; item = it }) in
    subst P (sym is) (service_judged w place d.file d.parent d.scope s name free)

pub method_told : (w : World) (place : ℕ) (d : Declaration) (m : DeclaredMethod) (name free found visible type entry kind : Bool)
    → d.item ≡ a_method m
    → name ≡ name_is_right d.item
    → free ≡ holds w place d cause.NameTaken
    → found ≡ is_looked_up not_found w d
    → visible ≡ is_looked_up not_visible w d
    → type ≡ is_looked_up not_a_type w d
    → entry ≡ holds w place d cause.BadMap
    → kind ≡ list_all (passes w is_message) (lookups w d)
    → first_failing ((cause.BadName, name) ∷ (cause.NameTaken, free) ∷ (cause.NotFound, found) ∷ (cause.NotVisible, visible) ∷ (cause.NotAType, type) ∷ (cause.BadMap, entry) ∷ (cause.KindMismatch, kind) ∷ []) ≡ first_cause w place d
method_told w place d m name free found visible type entry kind is =
    let P : Item → Type 0 = λ it. name ≡ name_is_right it → free ≡ holds w place (record { file = d.file; parent = d.parent; scope = d.scope; item = it }) cause.NameTaken → found ≡ is_looked_up not_found w (record { file = d.file; parent = d.parent; scope = d.scope; item = it }) → visible ≡ is_looked_up not_visible w (record { file = d.file; parent = d.parent; scope = d.scope; item = it }) → type ≡ is_looked_up not_a_type w (record { file = d.file; parent = d.parent; scope = d.scope; item = it }) → entry ≡ holds w place (record { file = d.file; parent = d.parent; scope = d.scope; item = it }) cause.BadMap → kind ≡ list_all (passes w is_message) (lookups w (record { file = d.file; parent = d.parent; scope = d.scope; item = it })) → first_failing ((cause.BadName, name) ∷ (cause.NameTaken, free) ∷ (cause.NotFound, found) ∷ (cause.NotVisible, visible) ∷ (cause.NotAType, type) ∷ (cause.BadMap, entry) ∷ (cause.KindMismatch, kind) ∷ []) ≡ first_cause w place (record { file = d.file; parent = d.parent; scope = d.scope; item = it }) in
    subst P (sym is) (method_judged w place d.file d.parent d.scope m name free found visible type entry kind)

pub field_told : (w : World) (place : ℕ) (d : Declaration) (head : MessageHead) (index : ℕ) (f : DeclaredField) (name free found visible type number first kept oneof entry packed kind closed : Bool)
    → d.item ≡ a_field head index f
    → name ≡ name_is_right d.item
    → free ≡ holds w place d cause.NameTaken
    → found ≡ is_looked_up not_found w d
    → visible ≡ is_looked_up not_visible w d
    → type ≡ is_looked_up not_a_type w d
    → number ≡ is_field_number f.number
    → first ≡ number_is_free d.item
    → kept ≡ is_not_reserved d.item
    → oneof ≡ (not (f.is_optional && is_two w.files d.file) && is_oneof_right d.item)
    → entry ≡ holds w place d cause.BadMap
    → packed ≡ is_packed_right w d f
    → kind ≡ is_type_right w d f
    → closed ≡ is_enum_right w d
    → first_failing ((cause.BadName, name) ∷ (cause.NameTaken, free) ∷ (cause.NotFound, found) ∷ (cause.NotVisible, visible) ∷ (cause.NotAType, type) ∷ (cause.BadNumber, number) ∷ (cause.NumberTaken, first) ∷ (cause.Reserved, kept) ∷ (cause.BadOneof, oneof) ∷ (cause.BadMap, entry) ∷ (cause.BadPacked, packed) ∷ (cause.KindMismatch, kind) ∷ (cause.ClosedEnum, closed) ∷ []) ≡ first_cause w place d
field_told w place d head index f name free found visible type number first kept oneof entry packed kind closed is =
    let P : Item → Type 0 = λ it. name ≡ name_is_right it → free ≡ holds w place (record { file = d.file; parent = d.parent; scope = d.scope; item = it }) cause.NameTaken → found ≡ is_looked_up not_found w (record { file = d.file; parent = d.parent; scope = d.scope; item = it }) → visible ≡ is_looked_up not_visible w (record { file = d.file; parent = d.parent; scope = d.scope; item = it }) → type ≡ is_looked_up not_a_type w (record { file = d.file; parent = d.parent; scope = d.scope; item = it }) → number ≡ is_field_number f.number → first ≡ number_is_free it → kept ≡ is_not_reserved it → oneof ≡ (not (f.is_optional && is_two w.files d.file) && is_oneof_right it) → entry ≡ holds w place (record { file = d.file; parent = d.parent; scope = d.scope; item = it }) cause.BadMap → packed ≡ is_packed_right w (record { file = d.file; parent = d.parent; scope = d.scope; item = it }) f → kind ≡ is_type_right w (record { file = d.file; parent = d.parent; scope = d.scope; item = it }) f → closed ≡ is_enum_right w (record { file = d.file; parent = d.parent; scope = d.scope; item = it }) → first_failing ((cause.BadName, name) ∷ (cause.NameTaken, free) ∷ (cause.NotFound, found) ∷ (cause.NotVisible, visible) ∷ (cause.NotAType, type) ∷ (cause.BadNumber, number) ∷ (cause.NumberTaken, first) ∷ (cause.Reserved, kept) ∷ (cause.BadOneof, oneof) ∷ (cause.BadMap, entry) ∷ (cause.BadPacked, packed) ∷ (cause.KindMismatch, kind) ∷ (cause.ClosedEnum, closed) ∷ []) ≡ first_cause w place (record { file = d.file; parent = d.parent; scope = d.scope; item = it }) in
    subst P (sym is) (field_judged w place d.file d.parent d.scope head index f name free found visible type number first kept oneof entry packed kind closed)

pub packable_by_name : (w : World) (d : Declaration) (f : DeclaredField) (r n a : Bool) → f.type_code ≡ None → r ≡ (n && a) → n ≡ is_some f.type_name → a ≡ list_all (passes w is_enum) (lookups w d) → r ≡ is_packable w d f
packable_by_name w d f r n a none both named enums = both ∙ ap (λ b. b && a) named ∙ ap (λ b. is_some f.type_name && b) enums ∙ ap (is_packable_by w d f.type_name) (sym none)

pub is_some-map : {X Y : Type 0} (f : X → Y) (o : Option X) → is_some o ≡ is_some (option_map f o)
is_some-map f None = refl
is_some-map f (Some x) = refl

pub message_by_name : (w : World) (d : Declaration) (f : DeclaredField) (r n a : Bool) → f.type_code ≡ Some code.Message → r ≡ (n && a) → n ≡ is_some f.type_name → a ≡ list_all (passes w is_message) (lookups w d) → r ≡ is_type_right w d f
message_by_name w d f r n a is both named messages = both ∙ ap (λ b. b && a) named ∙ ap (λ b. is_some f.type_name && b) messages ∙ ap (is_type_by w d f.type_name) (sym is)

pub enum_by_name : (w : World) (d : Declaration) (f : DeclaredField) (r n a : Bool) → f.type_code ≡ Some code.Enum → r ≡ (n && a) → n ≡ is_some f.type_name → a ≡ list_all (passes w is_enum) (lookups w d) → r ≡ is_type_right w d f
enum_by_name w d f r n a is both named enums = both ∙ ap (λ b. b && a) named ∙ ap (λ b. is_some f.type_name && b) enums ∙ ap (is_type_by w d f.type_name) (sym is)

pub group_by_name :
    (w : World) (d : Declaration) (f : DeclaredField) (r inner two n a : Bool) → f.type_code ≡ Some code.Group → r ≡ (two && inner) → two ≡ is_two w.files d.file → inner ≡ (n && a) → n ≡ is_some f.type_name → a ≡ list_all (passes w is_message_type) (lookups w d) →
    r ≡ is_type_right w d f
group_by_name w d f r inner two n a is whole syntax both named messages =
    whole ∙ ap (λ b. b && inner) syntax
    ∙ ap (λ b. is_two w.files d.file && b) (both ∙ ap (λ b. b && a) named ∙ ap (λ b. is_some f.type_name && b) messages)
    ∙ ap (is_type_by w d f.type_name) (sym is)
