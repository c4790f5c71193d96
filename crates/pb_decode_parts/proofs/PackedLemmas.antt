-- A packed list that is open: its whole elements so far are in the field, and a fault of an element is reported at once.
use Rattle.std.proofs.Common.{◌≡◌, ◌≢◌, ℕ, zero, suc, ◌<◌, List, [], ◌∷◌, ◌++◌, map, refl, sym, ap, ◌∙◌, subst, arith, append_assoc, Some}
use Rattle.std.proofs.lemmas.List.{append-nil}
use Rattle.std.specs.Prelude.{Bool, true, None}
use Rattle.pb_wire.specs.Record.{len, Record}
use Rattle.pb_wire.specs.Fault.{Fault, inside, Place, Moves, HasTag, HasLength}
use Rattle.pb_wire.specs.Schema.{Element, packed, records, context_of}
use Rattle.pb_wire.specs.Sound.{Sound, IsElement, AreElements, no_elements, element}
use Rattle.pb_wire.specs.Grammar.{Bad, RecordFault, payload_at, ElementFault}
use Rattle.pb_wire.proofs.ReadingLemmas.{moves_both}
use Rattle.pb_schema.specs.declared.types.Shape.TheVariants as shape
use Rattle.pb_schema.specs.Types.{FieldView, Types, message_fields, field_numbered}
use Rattle.pb_schema.specs.Names.{AllDiffer}
use Rattle.pb_schema.specs.Kinds.{message_of_kind}
use Rattle.pb_schema.specs.Fits.{fits}
use Rattle.pb_schema.specs.Context.{a_message as in_message, schema_of}
use Rattle.pb_value.specs.Data.{Message}
use Rattle.pb_value.specs.Value.{value_within}
use Rattle.pb_decode_parts.specs.Open.Opened.{below, outside}
use Rattle.pb_decode_parts.specs.Tokens.After.{Elements, with_elements}
use Rattle.pb_decode_parts.proofs.ClosedLists.{list_value}
use Rattle.pb_decode_parts.specs.Open.Parents.{Part, message_part, up_to, next_step, path_of, Parent, Reached, Scope, one_more_in}
use Rattle.pb_decode_parts.proofs.OpenedLemmas.{len_record, payload_bytes}
use Rattle.pb_decode_parts.proofs.ParentLemmas.{place_up_to, one_more}
use Rattle.pb_decode_parts.proofs.AfterLemmas.{reported_inside}

push_element : {e : Element} (front first : List ℕ) → AreElements e front → IsElement e first → AreElements e (front ++ first)
push_element front first no_elements i = element i no_elements (sym (append-nil first))
push_element front first (element {first = a} {others = b} j rest joined) i =
    element j (push_element b first rest i) (ap (λ (z : List ℕ). z ++ first) joined ∙ append_assoc a b first)

-- one more element
pub elements_more : {e : Element} {p u w : Place} (front first : List ℕ) → Elements e p u front → IsElement e first → Moves u first w → Elements e p w (front ++ first)
elements_more front first h i m = record { whole = push_element front first h.whole i; moves = moves_both front first h.moves m }

-- the fault of an element is the fault of the whole
pub element_reported :
    {pool : Types} {m depth levels : ℕ} {base : List Record} {p0 : Place} {parents : List Parent} {scope : Scope} {now : Part} {q r t u : Place} {k n : ℕ} {e : Element} {front : List ℕ} (g : Fault)
    → (s : Reached pool m depth levels base p0 parents now scope q) → HasTag q k 2 r → (schema_of pool).reading (context_of s.open_now) k ≡ packed e → HasLength r n t
    → Elements e (payload_at t n) u front → u.known ≢ Some 0 → ElementFault e u g
    → Bad (schema_of pool) (records (in_message m)) depth p0 (below (path_of parents) (inside (next_step k scope) g))
element_reported {u = u} {k = k} {front = front} g s tag re l h open_end bad =
    reported_inside k 2 g s tag (RecordFault.in_a_list tag re l (front, u, h.whole, h.moves, open_end, bad) refl)

-- a packed list that ends is one more record, whose elements are where they belong
pub list_ends :
    {pool : Types} {m depth levels : ℕ} {base : List Record} {p0 : Place} {parents : List Parent} {scope : Scope} {q r t u : Place} {n : ℕ} {e : Element} {front : List ℕ} (k : ℕ) (v : Message)
    → (s : Reached pool m depth levels base p0 parents (message_part k v) scope q) → AllDiffer (map (λ (f : FieldView). f.number) (message_fields pool k))
    → (f : FieldView) → field_numbered f.number (message_fields pool k) ≡ Some f → (p : Bool) → f.shape ≡ shape.List p → message_of_kind f.kind ≡ None
    → fits f (record { number = f.number; payload = len front }) ≡ true → HasTag q f.number 2 r → (schema_of pool).reading (context_of s.open_now) f.number ≡ packed e → HasLength r n t
    → Elements e (payload_at t n) u front → u.known ≡ Some 0
    → Reached pool m depth levels base p0 parents (message_part k (with_elements pool f.number f.kind front v)) (one_more_in f.number scope) (up_to scope.end u)
list_ends {pool} {m} {depth} {levels} {base} {p0} {parents} {scope} {t = t} {u = u} {n = n} {front = front} k v s differ f found p at none fit tag re l h end =
    let parts = payload_bytes front l h.moves end in
    let stood = one_more s (record { number = f.number; payload = len front }) (message_part k (with_elements pool f.number f.kind front v))
    (len_record (context_of s.open_now) scope.depth_left f.number n front tag l parts.0 parts.1 (Sound.a_list re h.whole)) refl (by_level s.inner s.deep s.worth) in
    subst (λ (z : Place). Reached pool m depth levels base p0 parents (message_part k (with_elements pool f.number f.kind front v)) (one_more_in f.number scope) z)
    (place_up_to (outside t n u) scope.end stood.ends) stood
  where
    by_level : (i : ℕ) → scope.depth_left < i → v ≡ value_within pool i k (s.earlier ++ s.records_so_far)
        → with_elements pool f.number f.kind front v ≡ value_within pool i k ((s.earlier ++ s.records_so_far) ++ record { number = f.number; payload = len front } ∷ [])
    by_level zero deep w = absurd (omega (arith, deep))
    by_level (suc i) deep w =
        ap (with_elements pool f.number f.kind front) w ∙ sym (list_value pool i k differ f found p at none (s.earlier ++ s.records_so_far) front fit)
