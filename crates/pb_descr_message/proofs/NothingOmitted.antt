-- A set of which lenient reading leaves nothing out is, without its parts, as it was.
use Rattle.std.proofs.Common.{◌≡◌, ℕ, ◌+◌, List, [], ◌∷◌, ◌++◌, Bool, true, false, flat_map, Option, Some, None, IsSomeAnd, option_map, refl, sym, ap, ◌∙◌, subst, arith}
use Rattle.std.specs.Prelude.{is_some, if◌then◌else◌, option_and_then}
use Rattle.std.specs.declared.cmp.Ordering.{Ordering}
use Rattle.std.specs.declared.cmp.Ordering.TheVariants.{Less, Equal, Greater}
use Rattle.std.specs.Ordering.{nat_cmp, match_ordering}
use Rattle.pb_wire.specs.Limits.{full}
use Rattle.pb_wire.specs.Ranges.{AreBytes}
use Rattle.pb_wire.specs.Record.{Record}
use Rattle.pb_schema.specs.declared.types.Kind.{Kind}
use Rattle.pb_schema.specs.declared.types.Kind.TheVariants as kind
use Rattle.pb_schema.specs.declared.types.Shape.TheVariants as shape
use Rattle.pb_schema.specs.Types.{FieldView, message_fields, field_numbered}
use Rattle.pb_schema.specs.Names.{in_scope}
use Rattle.pb_schema.specs.Scalar.{Scalar, int32, int64, uint32, uint64, boolean, float, double, enum, text, bytes}
use Rattle.pb_schema.specs.Kinds.{IsOfKind}
use Rattle.pb_value.specs.Data.{Datum, scalar, message as one_message, Datums, no_datums, datum, Holding, one, list, map as a_map, Fields, no_fields, field, Message, body, get_field, put_field, put_some, drop_field, fields_of}
use Rattle.pb_value.specs.WellFormed.{IsOfShape, IsDatum, AreDatums, IsHeld, AreFields, RisesFrom, IsBody, CanStand, IsWellFormed}
use Rattle.pb_value.proofs.ChangeLemmas.{by_order}
use Rattle.pb_value.proofs.PartLemmas.{held_at}
use Rattle.pb_value.proofs.ShapeSteps.{put_same}
use Rattle.pb_value.proofs.ValueLemmas.{derived_is_well_formed}
use Rattle.pb_declarations.specs.Decls.{DeclaredFile}
use Rattle.pb_descr_message.specs.Pool.{the_set, the_file, descriptor_types, message}
use Rattle.pb_descr_message.specs.Held.{text_in, one_held, fields_in, elements, list_held, data_at, text_at, name_at}
use Rattle.pb_descr_message.specs.Reading.{files_in, is_proto2}
use Rattle.pb_descr_message.specs.Causes.{set_causes}
use Rattle.pb_descr_message.specs.Sets.{IsSetText, IsSetOf}
use Rattle.pb_descr_message.specs.Without.{each, each_held, changed_at, over, is_required, is_closed_entry, field_fields_without, field_without, head_without, message_without, body_without, inner_without, holding_without, messages_without, file_fields_without, file_without, without_parts}
use Rattle.pb_descr_message.specs.Omitted.{OmittedView, when, extension_parts, range_parts, field_parts, own_parts, message_parts, body_parts, inner_parts, holding_parts, messages_parts, file_parts, parts_from, omitted_in}
use Rattle.pb_descr_message.specs.declared.omitted.OmittedPart.TheVariants as part
use Rattle.pb_descr_message.specs.Lenient.{IsLenientSetOf}
use Rattle.pb_descr_message.specs.NothingOmitted.{HasNoSuchPart}
use Rattle.pb_descr_message.proofs.PoolRules.{descriptor_is_pool}

-- LISTS WITH NOTHING IN THEM

nothing_first : {X : Type 0} (xs ys : List X) → xs ++ ys ≡ [] → xs ≡ []
nothing_first [] ys e = refl
nothing_first (x ∷ xs) ys e = absurd (cc)

nothing_last : {X : Type 0} (xs ys : List X) → xs ++ ys ≡ [] → ys ≡ []
nothing_last [] ys e = e
nothing_last (x ∷ xs) ys e = absurd (cc)

is_not : (b : Bool) (o : OmittedView) → when b o ≡ [] → b ≡ false
is_not true o e = absurd (cc)
is_not false o e = refl

-- each element has a part
no_element : {X : Type 0} (parts : X → OmittedView) (xs : List X) → flat_map (λ x. parts x ∷ []) xs ≡ [] → xs ≡ []
no_element parts [] e = refl
no_element parts (x ∷ xs) e = absurd (cc)

-- WHAT IS NOT THERE, AND WHAT STAYS

drop_absent : (n : ℕ) (fs : Fields) → get_field n fs ≡ None → drop_field n fs ≡ fs
drop_absent n no_fields e = refl
drop_absent n (field k h fs) e = by_case (nat_cmp n k) (drop_absent n fs) e
  where
    by_case :
        (c : Ordering) → (get_field n fs ≡ None → drop_field n fs ≡ fs) → match_ordering c (get_field n fs) (Some h) (get_field n fs) ≡ None
        → match_ordering c (field k h (drop_field n fs)) fs (field k h (drop_field n fs)) ≡ field k h fs
    by_case Less rest e = ap (field k h) (rest e)
    by_case Equal rest e = absurd (cc)
    by_case Greater rest e = ap (field k h) (rest e)

put_there : (n : ℕ) (fs : Fields) → RisesFrom 0 fs → put_some n (get_field n fs) fs ≡ fs
put_there n fs rises = by_held (get_field n fs) refl
  where
    by_held : (o : Option Holding) → get_field n fs ≡ o → put_some n o fs ≡ fs
    by_held None e = refl
    by_held (Some h) e = put_same n h fs rises e

changed_same : (n : ℕ) (f : Datum → Datum) (fs : Fields) → RisesFrom 0 fs → ((h : Holding) → get_field n fs ≡ Some h → each_held f h ≡ h) → changed_at n f fs ≡ fs
changed_same n f fs rises same = by_held (get_field n fs) refl
  where
    by_held : (o : Option Holding) → get_field n fs ≡ o → put_some n (option_map (each_held f) o) fs ≡ fs
    by_held None e = refl
    by_held (Some h) e = ap (λ g. put_field n g fs) (same h e) ∙ put_same n h fs rises e

-- the field of a number is a list, in which there is nothing
no_list : (n : ℕ) (fs : Fields) → ((h : Holding) → get_field n fs ≡ Some h → IsOfShape (shape.List false) h) → data_at n fs ≡ [] → get_field n fs ≡ None
no_list n fs shaped none = by_held (get_field n fs) refl none
  where
    by_held : (o : Option Holding) → get_field n fs ≡ o → list_held o ≡ [] → get_field n fs ≡ None
    by_held None e none = e
    by_held (Some (one d)) e none = absurd (shaped (one d) e)
    by_held (Some (list no_datums)) e none = absurd (shaped (list no_datums) e)
    by_held (Some (list (datum d ds))) e none = absurd (cc)
    by_held (Some (a_map es)) e none = absurd (shaped (a_map es) e)

-- the field of a number is a string, which is missing
no_text : (n : ℕ) (fs : Fields) → ((h : Holding) → get_field n fs ≡ Some h → IsOfShape shape.Explicit h × IsHeld descriptor_types shape.Explicit kind.Text h) → is_some (text_at n fs) ≡ false → get_field n fs ≡ None
no_text n fs stands none = by_held (get_field n fs) refl none
  where
    by_scalar : (x : Scalar) → IsOfKind kind.Text x → is_some (text_in (scalar x)) ≡ false → ⊥
    by_scalar (text s) w none = cc
    by_scalar (int32 z) w none = w
    by_scalar (int64 z) w none = w
    by_scalar (uint32 k) w none = w
    by_scalar (uint64 k) w none = w
    by_scalar (boolean b) w none = w
    by_scalar (float k) w none = w
    by_scalar (double k) w none = w
    by_scalar (enum z) w none = w
    by_scalar (bytes s) w none = w

    by_held : (o : Option Holding) → get_field n fs ≡ o → is_some (option_and_then text_in (one_held o)) ≡ false → get_field n fs ≡ None
    by_held None e none = e
    by_held (Some (one (scalar x))) e none = absurd (by_scalar x (stands (one (scalar x)) e).1 none)
    by_held (Some (one (one_message m))) e none = absurd (stands (one (one_message m)) e).1
    by_held (Some (list ds)) e none = absurd (stands (list ds) e).0
    by_held (Some (a_map es)) e none = absurd (stands (a_map es) e).0

-- FIELDS

field_same : (i : ℕ) (scope : List ℕ) (d : Datum) → IsDatum descriptor_types (message 5) d → field_parts i scope d ≡ [] → field_without d ≡ d
field_same i scope (scalar x) w none = refl
field_same i scope (one_message (body fs us)) w none =
    ap (λ gs. one_message (body gs us))
    (ap (λ b. drop_field 7 (if b then drop_field 4 fs else fs)) (is_not (is_required fs) (record { file = i; name = in_scope scope (name_at 1 fs); part = part.Required }) (nothing_first _ _ none))
    ∙ drop_absent 7 fs (no_text 7 fs (λ h e. let there = held_at descriptor_types (message_fields descriptor_types 5) 7 h fs w.0 e in (there.0, there.1))
    (is_not (is_some (text_at 7 fs)) (record { file = i; name = in_scope scope (name_at 1 fs); part = part.DefaultValue }) (nothing_last _ _ none))))

fields_same : (i : ℕ) (scope : List ℕ) (ds : Datums) → AreDatums descriptor_types (message 5) ds → flat_map (field_parts i scope) (elements ds) ≡ [] → each field_without ds ≡ ds
fields_same i scope no_datums w none = refl
fields_same i scope (datum d ds) w none =
    ap (λ e. datum e (each field_without ds)) (field_same i scope d w.0 (nothing_first _ _ none)) ∙ ap (datum d) (fields_same i scope ds w.1 (nothing_last (field_parts i scope d) _ none))

-- MESSAGES

-- the field of a number is a list of messages
AreMessages : ℕ → ℕ → Fields → Type 0
AreMessages m n fs = (h : Holding) → get_field n fs ≡ Some h → IsOfShape (shape.List false) h × IsHeld descriptor_types (shape.List false) (message m) h

listed_fields_same : (i : ℕ) (scope : List ℕ) (fs : Fields) → AreMessages 5 2 fs → RisesFrom 0 fs → flat_map (field_parts i scope) (data_at 2 fs) ≡ [] → changed_at 2 field_without fs ≡ fs
unfolding AreMessages
listed_fields_same i scope fs are rises none = changed_same 2 field_without fs rises (λ h e. by_held h e (ap (λ o. flat_map (field_parts i scope) (list_held o)) (sym e) ∙ none))
  where
    by_held : (h : Holding) → get_field 2 fs ≡ Some h → flat_map (field_parts i scope) (list_held (Some h)) ≡ [] → each_held field_without h ≡ h
    by_held (one d) e none = refl
    by_held (list ds) e none = ap list (fields_same i scope ds (are (list ds) e).1 none)
    by_held (a_map es) e none = refl

head_same :
    (i : ℕ) (two : Bool) (scope : List ℕ) (fs : Fields) → AreFields descriptor_types (message_fields descriptor_types 2) fs → RisesFrom 0 fs → own_parts i two scope fs ≡ [] → head_without (is_closed_entry two fs) fs ≡ fs
unfolding AreMessages
head_same i two scope fs are rises none =
    let mark : List OmittedView = when (is_closed_entry two fs) (record { file = i; name = scope; part = part.ClosedMap }) in
    let own_ranges : List OmittedView = flat_map (range_parts i scope) (data_at 5 fs) in
    let own_extensions : List OmittedView = flat_map (extension_parts i scope) (data_at 6 fs) in
    let fields = nothing_last (mark ++ own_ranges ++ own_extensions) (flat_map (field_parts i scope) (data_at 2 fs)) none in
    let first = nothing_first (mark ++ own_ranges ++ own_extensions) (flat_map (field_parts i scope) (data_at 2 fs)) none in
    let extensions = no_element (λ d. record { file = i; name = in_scope scope (name_at 1 (fields_in d)); part = part.Extension }) (data_at 6 fs) (nothing_last (mark ++ own_ranges) own_extensions first) in
    let marked = nothing_first (mark ++ own_ranges) own_extensions first in
    let ranges = no_element (λ d. record { file = i; name = scope; part = part.ExtensionRange }) (data_at 5 fs) (nothing_last mark own_ranges marked) in
    let closed : is_closed_entry two fs ≡ false = is_not (is_closed_entry two fs) (record { file = i; name = scope; part = part.ClosedMap }) (nothing_first mark own_ranges marked) in
    let no_ranges = no_list 5 fs (λ h e. (stands 5 h e).0) ranges in
    let no_extensions = no_list 6 fs (λ h e. (stands 6 h e).0) extensions in
    ap (λ c. head_without c fs) closed
    ∙ ap (λ gs. changed_at 2 field_without (drop_field 6 gs)) (drop_absent 5 fs no_ranges)
    ∙ ap (λ gs. changed_at 2 field_without gs) (drop_absent 6 fs no_extensions)
    ∙ listed_fields_same i scope fs (λ h e. let there = stands 2 h e in (there.0, there.1)) rises fields
  where
    stands : (n : ℕ) (h : Holding) → get_field n fs ≡ Some h → CanStand descriptor_types (message_fields descriptor_types 2) n h
    stands n h e = held_at descriptor_types (message_fields descriptor_types 2) n h fs are e

mutual
  message_same : (i : ℕ) (two : Bool) (scope : List ℕ) (d : Datum) → IsDatum descriptor_types (message 2) d → message_parts i two scope d ≡ [] → message_without two d ≡ d
  message_same i two scope (scalar x) w none = refl
  message_same i two scope (one_message m) w none = ap one_message (body_same i two scope m w none)

  body_same : (i : ℕ) (two : Bool) (scope : List ℕ) (m : Message) → IsBody descriptor_types 2 m → body_parts i two scope m ≡ [] → body_without two m ≡ m
  body_same i two scope (body fs us) w none =
      let name : List ℕ = in_scope scope (name_at 1 fs) in
      let own : own_parts i two name fs ≡ [] = nothing_first _ _ none in
      let within : inner_parts i two name 3 fs ≡ [] = nothing_last (own_parts i two name fs) _ none in
      let stands : (h : Holding) → get_field 3 fs ≡ Some h → IsHeld descriptor_types (shape.List false) (message 2) h =
      λ h e. (held_at descriptor_types (message_fields descriptor_types 2) 3 h fs w.0 e).1 in
      ap (λ gs. body gs us)
      (ap (λ o. head_without (is_closed_entry two fs) (put_some 3 o fs)) (inner_same i two name 3 fs stands within)
      ∙ ap (head_without (is_closed_entry two fs)) (put_there 3 fs w.1) ∙ head_same i two name fs w.0 w.1 own)

  -- the messages that the field of a number holds
  inner_same :
      (i : ℕ) (two : Bool) (scope : List ℕ) (n : ℕ) (fs : Fields) → ((h : Holding) → get_field n fs ≡ Some h → IsHeld descriptor_types (shape.List false) (message 2) h) → inner_parts i two scope n fs ≡ []
      → inner_without two n fs ≡ get_field n fs
  inner_same i two scope n no_fields stands none = refl
  inner_same i two scope n (field k h fs) stands none =
      by_case (nat_cmp n k) stands (holding_same i two scope h) (inner_same i two scope n fs) none
    where
      by_case :
          (c : Ordering) → ((g : Holding) → match_ordering c (get_field n fs) (Some h) (get_field n fs) ≡ Some g → IsHeld descriptor_types (shape.List false) (message 2) g)
          → (IsHeld descriptor_types (shape.List false) (message 2) h → holding_parts i two scope h ≡ [] → holding_without two h ≡ h)
          → (((g : Holding) → get_field n fs ≡ Some g → IsHeld descriptor_types (shape.List false) (message 2) g) → inner_parts i two scope n fs ≡ [] → inner_without two n fs ≡ get_field n fs)
          → match_ordering c (inner_parts i two scope n fs) (holding_parts i two scope h) (inner_parts i two scope n fs) ≡ []
          → match_ordering c (inner_without two n fs) (Some (holding_without two h)) (inner_without two n fs) ≡ match_ordering c (get_field n fs) (Some h) (get_field n fs)
      by_case Less stands here rest none = rest stands none
      by_case Equal stands here rest none = ap Some (here (stands h refl) none)
      by_case Greater stands here rest none = rest stands none

  holding_same : (i : ℕ) (two : Bool) (scope : List ℕ) (h : Holding) → IsHeld descriptor_types (shape.List false) (message 2) h → holding_parts i two scope h ≡ [] → holding_without two h ≡ h
  holding_same i two scope (one d) w none = refl
  holding_same i two scope (list ds) w none = ap list (messages_same i two scope ds w none)
  holding_same i two scope (a_map es) w none = refl

  messages_same : (i : ℕ) (two : Bool) (scope : List ℕ) (ds : Datums) → AreDatums descriptor_types (message 2) ds → messages_parts i two scope ds ≡ [] → messages_without two ds ≡ ds
  messages_same i two scope no_datums w none = refl
  messages_same i two scope (datum d ds) w none =
      ap (λ e. datum e (messages_without two ds)) (message_same i two scope d w.0 (nothing_first _ _ none))
      ∙ ap (datum d) (messages_same i two scope ds w.1 (nothing_last (message_parts i two scope d) _ none))

-- FILES AND SETS

file_same : (i : ℕ) (d : Datum) → IsDatum descriptor_types (message 1) d → file_parts i d ≡ [] → file_without d ≡ d
file_same i (scalar x) w none = refl
file_same i (one_message (body fs us)) w none =
    let scope : List ℕ = name_at 2 fs in
    let own_extensions : List OmittedView = flat_map (extension_parts i scope) (data_at 7 fs) in
    let extensions =
    no_element (λ d. record { file = i; name = in_scope scope (name_at 1 (fields_in d)); part = part.Extension }) (data_at 7 fs)
    (nothing_first own_extensions (inner_parts i (is_proto2 fs) scope 4 fs) none) in
    let within : inner_parts i (is_proto2 fs) scope 4 fs ≡ [] = nothing_last own_extensions (inner_parts i (is_proto2 fs) scope 4 fs) none in
    let no_extensions = no_list 7 fs (λ h e. (stands 7 h e).0) extensions in
    ap (λ gs. one_message (body gs us))
    (ap (λ o. drop_field 7 (put_some 4 o fs)) (inner_same i (is_proto2 fs) scope 4 fs (λ h e. (stands 4 h e).1) within)
    ∙ ap (drop_field 7) (put_there 4 fs w.1) ∙ drop_absent 7 fs no_extensions)
  where
    stands : (n : ℕ) (h : Holding) → get_field n fs ≡ Some h → CanStand descriptor_types (message_fields descriptor_types 1) n h
    stands n h e = held_at descriptor_types (message_fields descriptor_types 1) n h fs w.0 e

files_same : (i : ℕ) (ds : Datums) → AreDatums descriptor_types (message 1) ds → parts_from i (elements ds) ≡ [] → each file_without ds ≡ ds
files_same i no_datums w none = refl
files_same i (datum d ds) w none =
    ap (λ e. datum e (each file_without ds)) (file_same i d w.0 (nothing_first _ _ none)) ∙ ap (datum d) (files_same (i + 1) ds w.1 (nothing_last (file_parts i d) _ none))

pub set_same : (m : Message) → IsBody descriptor_types the_set m → omitted_in m ≡ [] → without_parts m ≡ m
set_same (body fs us) w none =
    ap (λ gs. body gs us) (changed_same 1 file_without fs w.1 (λ h e. by_held h e (ap (λ o. parts_from 0 (list_held o)) (sym e) ∙ none)))
  where
    by_held : (h : Holding) → get_field 1 fs ≡ Some h → parts_from 0 (list_held (Some h)) ≡ [] → each_held file_without h ≡ h
    by_held (one d) e none = refl
    by_held (list ds) e none = ap list (files_same 0 ds (held_at descriptor_types (message_fields descriptor_types the_set) 1 (list ds) fs w.0 e).1 none)
    by_held (a_map es) e none = refl

-- THE LAW

module _ (b : List ℕ) (are : AreBytes b) where
  well_formed : (set : Message) → IsSetText full b set → IsWellFormed descriptor_types the_set set
  well_formed set t = derived_is_well_formed descriptor_types descriptor_is_pool the_set full.depth b set (omega arith) are t.derives

  same : (set : Message) → IsSetText full b set → omitted_in set ≡ [] → without_parts set ≡ set
  same set t none = set_same set (well_formed set t).parts none

  pub read_strictly : (files : List DeclaredFile) → IsLenientSetOf full b files [] → IsSetOf full b files
  read_strictly files r =
      let e : without_parts r.set ≡ r.set = same r.set r.text (sym r.left_out) in
      record { set = r.set; text = r.text; silent = ap set_causes (sym e) ∙ r.silent; declared = r.declared ∙ ap files_in e }

  pub read_leniently : (files : List DeclaredFile) → HasNoSuchPart b → IsSetOf full b files → IsLenientSetOf full b files []
  read_leniently files none r =
      let nothing : omitted_in r.set ≡ [] = none r.set r.text in
      let e : without_parts r.set ≡ r.set = same r.set r.text nothing in
      record { set = r.set; text = r.text; silent = ap set_causes e ∙ r.silent; declared = r.declared ∙ ap files_in (sym e); left_out = sym nothing }
