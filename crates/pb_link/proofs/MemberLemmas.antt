-- Where no rule fails: numbers and file names differ, members name oneofs, oneofs have members, shapes go with kinds.
use Rattle.std.proofs.Common.{◌≡◌, ◌≢◌, ℕ, ℤ, pos, negsuc, zero, suc, ◌+◌, ◌<◌, List, [], ◌∷◌, ◌++◌, Bool, true, false, length, refl, sym, ap, ◌∙◌, arith, Option, Some, None}
use Rattle.std.specs.Prelude.{slice_get, if◌then◌else◌}
use Rattle.std.specs.Ordering.{int_eq}
use Rattle.std.proofs.lemmas.Bool.{false≢true}
use Rattle.std.proofs.lemmas.Bool.Decides.{Decides-int_eq}
use Rattle.std.proofs.lemmas.Option.{none-some}
use Rattle.std.proofs.lemmas.Slice.Eq.{bytes_eq-Decides}
use Rattle.pb_schema.specs.declared.types.Kind.{Kind}
use Rattle.pb_schema.specs.declared.types.Kind.TheVariants as kind
use Rattle.pb_schema.specs.Names.{in_scope}
use Rattle.pb_schema.specs.Rules.{FileNamesDiffer, NumbersDiffer, FieldNumbersDiffer, ImplicitAreScalars, MayBeImplicit}
use Rattle.pb_declarations.specs.Decls.{DeclaredField, MessageHead, DeclaredMessages, DeclaredFile}
use Rattle.pb_link_rules.specs.declared.cause.LinkCause.TheVariants as cause
use Rattle.pb_link_names.specs.Declarations.{a_file, a_message, a_field, Declaration, files_declared, file_declared}
use Rattle.pb_link_names.specs.Sees.{file_of, files_of}
use Rattle.pb_link_rules.specs.Rules.{World, is_field_number, is_two}
use Rattle.pb_link_rules.specs.Link.{NothingFails, IsWorldOf}
use Rattle.pb_link.specs.PoolOf.{field_type, field_by_entry, entry_of, list_shape, singular_shape, number_of, pool_of, kind_of_field}
use Rattle.pb_link_rules.proofs.ThereLemmas.{some_same, place_holds, differ_twice, none_before, field_there}
use Rattle.pb_link.proofs.TypeLemmas.{each_message, each_field}

-- NUMBERS

same_number : (w : World) (file : ℕ) (scope : List ℕ) (f : DeclaredField) (o : Option (MessageHead × List ℕ)) → (field_by_entry w file scope f o).number ≡ number_of f.number
same_number w file scope f None = refl
same_number w file scope f (Some (head, name)) = refl

is_natural : (z : ℤ) → is_field_number z ≡ true → z ≡ pos (number_of z)
is_natural (pos n) h = refl
is_natural (negsuc n) h = absurd (false≢true h)

pub numbers_differ : (files : List DeclaredFile) (w : World) → IsWorldOf files w → NothingFails w → NumbersDiffer (pool_of files w).messages
numbers_differ files w world nothing = each_message w FieldNumbersDiffer (λ k file parent scope head inner there plain. differ_twice (λ f. f.number) (field_type w file (in_scope scope head.name)) head.fields (λ i j a b less first second. apart k file parent scope head inner there i j a b less first second))
  where
    apart : (k file parent : ℕ) (scope : List ℕ) (head : MessageHead) (inner : DeclaredMessages) → slice_get w.declared k ≡ Some (record { file = file; parent = parent; scope = scope; item = a_message head inner }) → (i j : ℕ) (a b : DeclaredField) → i < j → slice_get head.fields i ≡ Some a → slice_get head.fields j ≡ Some b → (field_type w file (in_scope scope head.name) a).number ≢ (field_type w file (in_scope scope head.name) b).number
    apart k file parent scope head inner there i j a b less first second same =
        let name = in_scope scope head.name in
        let at_a = field_there files w world k file parent scope head inner there i a first in
        let at_b = field_there files w world k file parent scope head inner there j b second in
        let whole_a = is_natural a.number (place_holds w nothing (k + 1 + i) (record { file = file; parent = k; scope = name; item = a_field head i a }) cause.BadNumber at_a) in
        let whole_b = is_natural b.number (place_holds w nothing (k + 1 + j) (record { file = file; parent = k; scope = name; item = a_field head j b }) cause.BadNumber at_b) in
        let numbers : number_of a.number ≡ number_of b.number = sym (same_number w file name a (entry_of w file name a)) ∙ same ∙ same_number w file name b (entry_of w file name b) in
        let equal : b.number ≡ a.number = whole_b ∙ ap pos (sym numbers) ∙ sym whole_a in
        none_before (λ g. int_eq b.number g.number) head.fields i j a (place_holds w nothing (k + 1 + j) (record { file = file; parent = k; scope = name; item = a_field head j b }) cause.NumberTaken at_b) less first ((Decides-int_eq b.number a.number).1 equal)

-- FILE NAMES

abbrev pub file_at : ℕ → ℕ → DeclaredFile → Declaration
file_at i place f = record { file = i; parent = place; scope = []; item = a_file f }

get_shifted : {X : Type 0} (xs ys : List X) (i k : ℕ) → k ≡ length xs + i → slice_get (xs ++ ys) k ≡ slice_get ys i
get_shifted [] ys i k e = ap (slice_get ys) (omega (arith, e))
get_shifted (x ∷ xs) ys i zero e = absurd (omega (arith, e))
get_shifted (x ∷ xs) ys i (suc k) e = get_shifted xs ys i k (omega (arith, e))

abbrev pub FileStands : List Declaration → ℕ → DeclaredFile → Type 0
FileStands ds k f = (i p : ℕ) × (slice_get ds k ≡ Some (file_at i p f))

pub file_stands : (start place : ℕ) (files : List DeclaredFile) (j : ℕ) (g : DeclaredFile) → slice_get files j ≡ Some g → (l : ℕ) × FileStands (files_declared start place files) l g
file_stands start place [] j g there = absurd (none-some g there)
file_stands start place (f ∷ fs) zero g there = (0, (start, place, ap (λ q. Some (file_at start place q)) (some_same f g there)))
file_stands start place (f ∷ fs) (suc j) g there =
    let own = file_declared start place f in
    let rest = file_stands (start + 1) (place + length own) fs j g there in
    (length own + rest.0, (rest.1.0, rest.1.1, get_shifted own (files_declared (start + 1) (place + length own) fs) rest.0 (length own + rest.0) refl ∙ rest.1.2))

-- two files stand in their order
two_stand : (start place : ℕ) (files : List DeclaredFile) (i j : ℕ) (f g : DeclaredFile) → i < j → slice_get files i ≡ Some f → slice_get files j ≡ Some g → (k l : ℕ) × (k < l) × FileStands (files_declared start place files) k f × FileStands (files_declared start place files) l g
two_stand start place [] i j f g less first second = absurd (none-some f first)
two_stand start place (h ∷ fs) i zero f g less first second = absurd (omega (arith, less))
two_stand start place (h ∷ fs) zero (suc j) f g less first second =
    let own = file_declared start place h in
    let rest = file_stands (start + 1) (place + length own) fs j g second in
    (0, length own + rest.0, omega arith, (start, place, ap (λ q. Some (file_at start place q)) (some_same h f first)), (rest.1.0, rest.1.1, get_shifted own (files_declared (start + 1) (place + length own) fs) rest.0 (length own + rest.0) refl ∙ rest.1.2))
two_stand start place (h ∷ fs) (suc i) (suc j) f g less first second =
    let own = file_declared start place h in
    let ds = files_declared (start + 1) (place + length own) fs in
    let rest = two_stand (start + 1) (place + length own) fs i j f g (omega (arith, less)) first second in (
      length own + rest.0,
      length own + rest.1,
      omega (arith, rest.2),
      (rest.3.0, rest.3.1, get_shifted own ds rest.0 (length own + rest.0) refl ∙ rest.3.2),
      (rest.4.0, rest.4.1, get_shifted own ds rest.1 (length own + rest.1) refl ∙ rest.4.2),
    )

pub file_names_differ : (files : List DeclaredFile) (w : World) → IsWorldOf files w → NothingFails w → FileNamesDiffer (files_of files)
file_names_differ files w world nothing = differ_twice (λ f. f.name) (file_of files) files apart
  where
    apart : (i j : ℕ) (f g : DeclaredFile) → i < j → slice_get files i ≡ Some f → slice_get files j ≡ Some g → f.name ≢ g.name
    apart i j f g less first second same =
        let at = two_stand 0 0 files i j f g less first second in
        let at_f : slice_get w.declared at.0 ≡ Some (file_at at.3.0 at.3.1 f) = ap (λ ds. slice_get ds at.0) world.declared ∙ at.3.2 in
        let at_g : slice_get w.declared at.1 ≡ Some (file_at at.4.0 at.4.1 g) = ap (λ ds. slice_get ds at.1) world.declared ∙ at.4.2 in
        none_before _ w.declared at.0 at.1 (file_at at.3.0 at.3.1 f) (place_holds w nothing at.1 (file_at at.4.0 at.4.1 g) cause.TwoFiles at_g) at.2 at_f ((bytes_eq-Decides g.name f.name).1 (sym same))

-- SHAPES AND KINDS

implicit_singular : (two : Bool) (f : DeclaredField) (k : Kind) → MayBeImplicit (singular_shape two k f) k
implicit_singular two f k = by_mark f.is_optional f.oneof
  where
    by_mark : (b : Bool) (o : Option ℤ) → MayBeImplicit (singular_shape two k (record f { is_optional = b; oneof = o })) k
    by_mark true o = tt
    by_mark false (Some (pos o)) = tt
    by_mark false (Some (negsuc o)) = kinds two k
      where
        kinds : (b : Bool) (v : Kind) → MayBeImplicit (singular_shape b v (record f { is_optional = false; oneof = Some (negsuc o) })) v
        kinds true v = tt
        kinds false (kind.Message m) = tt
        kinds false (kind.Group m) = tt
        kinds false v = tt
    by_mark false None = kinds two k
      where
        kinds : (b : Bool) (v : Kind) → MayBeImplicit (singular_shape b v (record f { is_optional = false; oneof = None })) v
        kinds true v = tt
        kinds false (kind.Message m) = tt
        kinds false (kind.Group m) = tt
        kinds false v = tt

implicit_kind : (two : Bool) (f : DeclaredField) (k : Kind) (b : Bool) → MayBeImplicit (if b then list_shape two k f else singular_shape two k f) k
implicit_kind two f k true = tt
implicit_kind two f k false = implicit_singular two f k

implicit_field : (w : World) (file : ℕ) (scope : List ℕ) (f : DeclaredField) (o : Option (MessageHead × List ℕ)) → MayBeImplicit (field_by_entry w file scope f o).shape (field_by_entry w file scope f o).kind
implicit_field w file scope f None = implicit_kind (is_two w.files file) f (kind_of_field w file scope f) f.is_repeated
implicit_field w file scope f (Some (head, name)) = tt

pub implicit_right : (files : List DeclaredFile) (w : World) → IsWorldOf files w → NothingFails w → ImplicitAreScalars (pool_of files w).messages
implicit_right files w world nothing = each_field files w world (λ f. MayBeImplicit f.shape f.kind) (λ k file parent scope head j f there. implicit_field w file scope f (entry_of w file scope f))
