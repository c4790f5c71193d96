-- A part that holds whole elements of a packed list may take more.
use Rattle.std.proofs.Common.{◌≡◌, ℕ, zero, suc, ◌<◌, List, ◌∷◌, [], ◌++◌, refl, sym, ap, ◌∙◌, subst, arith, map, Option, Some}
use Rattle.pb_wire.specs.Record.{Record, len}
use Rattle.pb_wire.specs.Fault.{Place}
use Rattle.pb_schema.specs.declared.types.Kind.{Kind}
use Rattle.pb_schema.specs.Types.{FieldView, Types, message_fields, field_numbered}
use Rattle.pb_schema.specs.Rules.{IsPool}
use Rattle.pb_schema.specs.Kinds.{message_of_kind}
use Rattle.pb_schema.specs.Names.{AllDiffer}
use Rattle.pb_value.specs.Data.{Message, fields_of}
use Rattle.pb_value.specs.Value.{value_within}
use Rattle.pb_value.specs.WellFormed.{HasOneMemberEach}
use Rattle.pb_value.proofs.MessageSteps.{value_members}
use Rattle.pb_value.proofs.OneofLemmas.{pool_differ}
use Rattle.pb_value.proofs.StepLemmas.{found_number}
use Rattle.pb_decode_parts.specs.Open.Parents.{Part, CanHold, Parent, Scope}
use Rattle.pb_decode_parts.specs.Tokens.After.{with_elements, After}
use Rattle.pb_decode_parts.proofs.ClosedLists.{list_value}
use Rattle.pb_decode_parts.proofs.WellLemmas.{type_in_pool}
use Rattle.pb_decode_parts.proofs.NumberSteps.{fits_is}
use Rattle.pb_decode_parts.proofs.ListSteps.{AtList, at_list, packed_field}
use Rattle.pb_decode_parts.specs.declared.tokens.step.Step.TheVariants as step

-- inside the list's payload the message is that of the records before it and of the elements so far
members_in :
    {pool : Types} {m depth levels : ℕ} {base : List Record} {p0 : Place} {parents : List Parent} {scope : Scope} {now : Part} {u : Place} (k : ℕ) (kd : Kind) (outer : Option ℕ)
    (list : AtList pool m depth levels base p0 parents now scope k kd outer u) → AllDiffer (map (λ (f : FieldView). f.number) (message_fields pool list.message_type)) → (i : ℕ) → scope.depth_left < i
    → list.before ≡ value_within pool i list.message_type (list.reached.earlier ++ list.reached.records_so_far)
    → HasOneMemberEach (message_fields pool list.message_type) (fields_of (with_elements pool k kd list.front list.before))
members_in k kd outer list differ zero deep w = absurd (omega (arith, deep))
members_in {pool} k kd outer list differ (suc i) deep w =
    let (f, found, e, is_kind, (p, is_shape), none, packable) = packed_field (field_numbered k (message_fields pool list.message_type)) k 2 kd list.means in
    let own : f.number ≡ k = found_number k (message_fields pool list.message_type) f found in
    let there : field_numbered f.number (message_fields pool list.message_type) ≡ Some f = ap (λ (z : ℕ). field_numbered z (message_fields pool list.message_type)) own ∙ found in
    let before : List Record = list.reached.earlier ++ list.reached.records_so_far in
    let r : Record = record { number = f.number; payload = len list.front } in
    let is : with_elements pool k kd list.front list.before ≡ value_within pool (suc i) list.message_type (before ++ r ∷ []) =
    ap (λ (z : Kind). with_elements pool k z list.front list.before) (sym is_kind) ∙ ap (λ (z : ℕ). with_elements pool z f.kind list.front list.before) (sym own)
    ∙ ap (with_elements pool f.number f.kind list.front) w
    ∙ sym (list_value pool i list.message_type differ f there p is_shape (ap message_of_kind is_kind ∙ none) before list.front (fits_is f f.number (len list.front) refl e)) in
    subst (λ (z : Message). HasOneMemberEach (message_fields pool list.message_type) (fields_of z)) (sym is) (value_members pool i list.message_type (before ++ r ∷ []) differ)

pub list_can_hold :
    {pool : Types} {m depth levels : ℕ} {base : List Record} {p0 : Place} {parents : List Parent} {scope : Scope} {now : Part} {u : Place} (k : ℕ) (kd : Kind) (outer : Option ℕ) → IsPool pool
    → After pool m depth levels base p0 parents (step.Elements k kd outer) now scope u → CanHold pool now
list_can_hold {pool} k kd outer ok begun =
    let list = at_list k kd outer begun in
    let within = type_in_pool list.message_type list.before list.reached in
    subst (CanHold pool) (sym list.now_is)
    (within, members_in k kd outer list (pool_differ pool list.message_type ok within) list.reached.inner list.reached.deep list.reached.worth)
