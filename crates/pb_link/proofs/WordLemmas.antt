-- Where no rule fails: names are words.
use Rattle.std.proofs.Common.{◌≡◌, ℕ, ℤ, pos, negsuc, suc, ◌+◌, List, [], ◌∷◌, Bool, true, false, not, ◌||◌, ◌==◌, IsTrue, map, length, refl, sym, ap, ◌∙◌, subst, arith, Option, Some, None}
use Rattle.std.specs.Prelude.{slice_get, filter, if◌then◌else◌, cond}
use Rattle.std.specs.List.{AllByRecursion, enumerate_from}
use Rattle.std.specs.Str.{bytes_eq}
use Rattle.std.proofs.lemmas.Bool.{false≢true}
use Rattle.std.proofs.lemmas.Slice.Eq.{bytes_eq-Decides}
use Rattle.pb_schema.specs.declared.types.Kind.{Kind}
use Rattle.pb_schema.specs.declared.types.Kind.TheVariants as kind
use Rattle.pb_schema.specs.Names.{in_scope, is_word, entry_name, names_of_field}
use Rattle.pb_schema.specs.Rules.{AreWords, MessageIsOfWords, MessageNamesAreWords, EnumIsOfWords, EnumNamesAreWords}
use Rattle.pb_declarations.specs.Decls.{DeclaredField, MessageHead, DeclaredMessages, DeclaredFile}
use Rattle.pb_link_rules.specs.declared.cause.LinkCause.TheVariants as cause
use Rattle.pb_link_names.specs.Declarations.{Item, a_message, a_field, a_oneof, an_enum, a_value, is_synthetic}
use Rattle.pb_link_rules.specs.Rules.{World, name_is_right, gives_name, is_two}
use Rattle.pb_link_rules.specs.Link.{NothingFails, IsWorldOf}
use Rattle.pb_link.specs.PoolOf.{field_type, field_by_entry, entry_of, kind_of_field, list_shape, singular_shape, number_of, real_oneofs, pool_of}
use Rattle.pb_link_rules.proofs.ThereLemmas.{some_same, and_right, place_holds, all_mapped, field_there, oneof_there, value_there}
use Rattle.pb_link.proofs.TypeLemmas.{each_message, each_enum}
use Rattle.pb_link.proofs.EntryLemmas.{entry_used}
use Rattle.pb_link.proofs.OneofLemmas.{enumerated_get}

plain_words : (two : Bool) (f : DeclaredField) (k : Kind) (b : Bool) → is_word f.name ≡ true → AreWords (names_of_field (record { name = f.name; number = number_of f.number; kind = k; shape = if b then list_shape two k f else singular_shape two k f }))
plain_words two f k true word = (word, tt)
plain_words two f k false word = by_mark f.is_optional f.oneof
  where
    by_mark : (b : Bool) (o : Option ℤ) → AreWords (names_of_field (record { name = f.name; number = number_of f.number; kind = k; shape = singular_shape two k (record f { is_optional = b; oneof = o }) }))
    by_mark true o = (word, tt)
    by_mark false (Some (pos o)) = (word, tt)
    by_mark false (Some (negsuc o)) = kinds two k
      where
        kinds : (b : Bool) (v : Kind) → AreWords (names_of_field (record { name = f.name; number = number_of f.number; kind = k; shape = singular_shape b v (record f { is_optional = false; oneof = Some (negsuc o) }) }))
        kinds true v = (word, tt)
        kinds false (kind.Message m) = (word, tt)
        kinds false (kind.Group m) = (word, tt)
        kinds false v = (word, tt)
    by_mark false None = kinds two k
      where
        kinds : (b : Bool) (v : Kind) → AreWords (names_of_field (record { name = f.name; number = number_of f.number; kind = k; shape = singular_shape b v (record f { is_optional = false; oneof = None }) }))
        kinds true v = (word, tt)
        kinds false (kind.Message m) = (word, tt)
        kinds false (kind.Group m) = (word, tt)
        kinds false v = (word, tt)

-- the entry of a map field has the name that the field gives it
pub entry_name_is : (head h : MessageHead) (inner : DeclaredMessages) (j : ℕ) (f : DeclaredField) (it : Item) → it ≡ a_message h inner → gives_name (a_field head j f) it ≡ true → entry_name f.name ≡ h.name
entry_name_is head h inner j f it same gives = (bytes_eq-Decides (entry_name f.name) h.name).0 (and_right f.is_repeated (bytes_eq (entry_name f.name) h.name) (subst (λ x. gives_name (a_field head j f) x ≡ true) same gives))

field_words : (w : World) → NothingFails w → (k file parent : ℕ) (scope : List ℕ) (head : MessageHead) (j : ℕ) (f : DeclaredField) → slice_get w.declared k ≡ Some (record { file = file; parent = parent; scope = scope; item = a_field head j f }) → AreWords (names_of_field (field_type w file scope f))
field_words w nothing k file parent scope head j f there = by_entry (entry_of w file scope f) refl (place_holds w nothing k (record { file = file; parent = parent; scope = scope; item = a_field head j f }) cause.BadName there)
  where
    by_entry : (o : Option (MessageHead × List ℕ)) → entry_of w file scope f ≡ o → is_word f.name ≡ true → AreWords (names_of_field (field_by_entry w file scope f o))
    by_entry None none word = plain_words (is_two w.files file) f (kind_of_field w file scope f) f.is_repeated word
    by_entry (Some (h, name)) uses word =
        let u = entry_used w nothing k file parent scope head j f there h name uses in
        let named : entry_name f.name ≡ h.name = entry_name_is head h u.inner j f u.entry.item u.item (and_right (parent == u.entry.parent) _ u.is_map) in
        let entry_word : is_word h.name ≡ true = subst (λ x. name_is_right x ≡ true) u.item (place_holds w nothing u.place u.entry cause.BadName u.there) in
        (word, (ap is_word named ∙ entry_word, tt))

all_filtered : {X Y : Type 0} (P : Y → Type 0) (t : X → Bool) (g : X → Y) (xs : List X) → ((i : ℕ) (x : X) → slice_get xs i ≡ Some x → t x ≡ true → P (g x)) → AllByRecursion P (map g (filter t xs))
all_filtered P t g [] each = tt
all_filtered P t g (x ∷ xs) each = step P t g x xs (t x) refl (each 0 x refl) (all_filtered P t g xs (λ i y there passes. each (suc i) y there passes))
  where
    step : {X Y : Type 0} (P : Y → Type 0) (t : X → Bool) (g : X → Y) (x : X) (xs : List X) (b : Bool) → t x ≡ b → (t x ≡ true → P (g x)) → AllByRecursion P (map g (filter t xs)) → AllByRecursion P (map g (cond b (x ∷ filter t xs) (filter t xs)))
    step P t g x xs true same first rest = (first same, rest)
    step P t g x xs false same first rest = rest

oneof_words : (files : List DeclaredFile) (w : World) → IsWorldOf files w → NothingFails w → (k file parent : ℕ) (scope : List ℕ) (head : MessageHead) (inner : DeclaredMessages) → slice_get w.declared k ≡ Some (record { file = file; parent = parent; scope = scope; item = a_message head inner }) → AreWords (real_oneofs head)
oneof_words files w world nothing k file parent scope head inner there = all_filtered (λ name. IsTrue (is_word name)) (λ e. not (is_synthetic head e.0)) (λ e. e.1) (enumerate_from 0 head.oneofs) each
  where
    zero_plus : (n : ℕ) → 0 + n ≡ n
    zero_plus n = omega arith

    real : (b c : Bool) → not b ≡ true → (not (not b) || c) ≡ true → c ≡ true
    real true c h r = absurd (false≢true h)
    real false c h r = r

    each : (i : ℕ) (e : ℕ × List ℕ) → slice_get (enumerate_from 0 head.oneofs) i ≡ Some e → not (is_synthetic head e.0) ≡ true → is_word e.1 ≡ true
    each i e at passes =
        let back = enumerated_get 0 head.oneofs i e at in
        real (is_synthetic head i) (is_word e.1) (ap (λ n. not (is_synthetic head n)) (sym (back.0 ∙ zero_plus i)) ∙ passes)
        (place_holds w nothing (k + 1 + (length head.fields + i)) (record { file = file; parent = k; scope = in_scope scope head.name; item = a_oneof head i e.1 }) cause.BadName (oneof_there files w world k file parent scope head inner there i e.1 back.1))

pub message_words : (files : List DeclaredFile) (w : World) → IsWorldOf files w → NothingFails w → MessageNamesAreWords (pool_of files w).messages
message_words files w world nothing = each_message w MessageIsOfWords (λ k file parent scope head inner there plain. (
  place_holds w nothing k (record { file = file; parent = parent; scope = scope; item = a_message head inner }) cause.BadName there,
  all_mapped (λ f. AreWords (names_of_field f)) (field_type w file (in_scope scope head.name)) head.fields (λ j f at. field_words w nothing (k + 1 + j) file k (in_scope scope head.name) head j f (field_there files w world k file parent scope head inner there j f at)),
  oneof_words files w world nothing k file parent scope head inner there,
))

pub enum_words : (files : List DeclaredFile) (w : World) → IsWorldOf files w → NothingFails w → EnumNamesAreWords (pool_of files w).enums
enum_words files w world nothing = each_enum w EnumIsOfWords (λ k file parent scope e t there made. subst EnumIsOfWords (some_same _ t made) (
  place_holds w nothing k (record { file = file; parent = parent; scope = scope; item = an_enum e }) cause.BadName there,
  all_mapped (λ name. IsTrue (is_word name)) (λ v. v.0) e.values (λ j v at. place_holds w nothing (k + 1 + j) (record { file = file; parent = k; scope = scope; item = a_value e j v }) cause.BadName (value_there files w world k file parent scope e there j v at)),
))
