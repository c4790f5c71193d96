-- What is begun after the last whole record: more bytes, tokens that go on, and elements of a list.
use Rattle.std.proofs.Common.{◌≡◌, ℕ, List, [], ◌∷◌, ◌++◌, map, refl, sym, ap, ◌∙◌, subst, Option, Some, IsTrue}
use Rattle.std.specs.Prelude.{true, false, option_to_list}
use Rattle.std.proofs.lemmas.Bool.{false≢true}
use Rattle.std.proofs.lemmas.List.{map-append}
use Rattle.pb_wire.specs.Record.{Payload, len, Record}
use Rattle.pb_wire.specs.declared.fault.PathStep.{PathStep}
use Rattle.pb_wire.specs.Fault.{Fault, step as step_into, inside as in_record, Place, HasTag, HasLength}
use Rattle.pb_wire.specs.Schema.{Element, a_varint as a_varint_element, Open, records}
use Rattle.pb_wire.specs.Sound.{IsElement, AreElements}
use Rattle.pb_wire.specs.Grammar.{Bad, RecordFault, Begins}
use Rattle.pb_wire.specs.Exact.{longer}
use Rattle.pb_wire.specs.Ranges.{AreBytes}
use Rattle.pb_wire.proofs.Longer.{moves_longer, tag_longer, length_longer}
use Rattle.pb_schema.specs.declared.types.Kind.{Kind}
use Rattle.pb_schema.specs.declared.types.Kind.TheVariants as kind
use Rattle.pb_schema.specs.Types.{Types}
use Rattle.pb_schema.specs.Scalar.{Scalar}
use Rattle.pb_schema.specs.Kinds.{is_packable, closed_enum, read}
use Rattle.pb_schema.specs.Packed.{elements, numbers_of}
use Rattle.pb_schema.specs.Closed.{is_undeclared}
use Rattle.pb_schema.specs.Context.{Context, a_message as in_message, element_of, schema_of}
use Rattle.pb_value.specs.Data.{Datum, Message, body, scalar, fields_of, unknown_of}
use Rattle.pb_value.specs.Change.{push_at, push_each, with_fields}
use Rattle.pb_value.proofs.ShapeSteps.{push_each-append}
use Rattle.pb_decode_parts.specs.declared.tokens.step.Step.{Step}
use Rattle.pb_decode_parts.specs.declared.tokens.step.Step.TheVariants as step
use Rattle.pb_decode_parts.specs.Open.Parents.{Part, next_step, Parent, path_of, Held, at_top, inside, Reached, Scope}
use Rattle.pb_decode_parts.specs.Open.Occurrences.{CountsOf}
use Rattle.pb_decode_parts.specs.declared.open.target.Target.{Target}
use Rattle.pb_decode_parts.specs.Tokens.Numbers.{NumberFault, a_varint, eight_bytes, four_bytes}
use Rattle.pb_decode_parts.specs.Open.Opened.{below}
use Rattle.pb_decode_parts.specs.Open.Targets.{Means, part_context}
use Rattle.pb_decode_parts.specs.Values.PayloadValue.{IsBytesTarget}
use Rattle.pb_decode_parts.specs.Tokens.After.{Tag, tag, awaited, HasLevelFor, end_of_part, part_scope, Elements, with_numbers, with_elements, Underway, nothing, a_tag, a_length, some_elements, After}
use Rattle.pb_decode_parts.proofs.OpenedLemmas.{begins_at_tag}
use Rattle.pb_decode_parts.proofs.ParentLemmas.{reported, ends_longer, ends_along, reached_longer}
use Rattle.pb_decode_parts.proofs.PackedNumbers.{elements_next, elements_none, number_of, numbers_next}
use Rattle.pb_decode_parts.proofs.ClosedLists.{declared_number, undeclared_number, with_numbers-append}

-- MORE BYTES: what is begun stays begun, whatever follows
elements_longer : {e : Element} {p u : Place} {front : List ℕ} (more : List ℕ) → Elements e p u front → Elements e (longer p more) (longer u more) front
elements_longer {front = front} more h = record { whole = h.whole; moves = moves_longer front more h.moves }

underway_longer :
    {pool : Types} {depth_left : ℕ} {v now : Part} {q u : Place} {next : Step} (more : List ℕ) → Underway pool depth_left v q next now u → Underway pool depth_left v (longer q more) next now (longer u more)
underway_longer more (nothing is same place) = nothing is same (ap (λ (z : Place). longer z more) place)
underway_longer more (a_tag t is has means has_level same) = a_tag t is (tag_longer more has) means has_level same
underway_longer more (a_length is has l means has_level bytes same) = a_length is (tag_longer more has) (length_longer more l) means has_level bytes same
underway_longer more (some_elements is has l means h was same) = some_elements is (tag_longer more has) (length_longer more l) means (elements_longer more h) was same

pub after_longer :
    {pool : Types} {m depth levels : ℕ} {base : List Record} {p0 : Place} {parents : List Parent} {scope : Scope} {next : Step} {now : Part} {u : Place} (more : List ℕ) → AreBytes more
    → After pool m depth levels base p0 parents next now scope u → After pool m depth levels base (longer p0 more) parents next now scope (longer u more)
after_longer {scope = scope} {u = u} more bytes a = record {
  before = a.before;
  place = longer a.place more;
  reached = reached_longer more bytes a.reached;
  begun = underway_longer more a.begun;
  ends = ends_longer u more scope.end a.ends;
}

-- A WHOLE RECORD: nothing is begun after it
pub after_record :
    {pool : Types} {m depth levels : ℕ} {base : List Record} {p0 : Place} {parents : List Parent} {scope : Scope} {now : Part} {q : Place}
    → Reached pool m depth levels base p0 parents now scope q → After pool m depth levels base p0 parents step.Tag now scope q
after_record {now = now} {q = q} s = record { before = now; place = q; reached = s; begun = nothing refl refl refl; ends = s.ends }

-- and where nothing is begun the reader is after a whole record
pub at_record :
    {pool : Types} {m depth levels : ℕ} {base : List Record} {p0 : Place} {parents : List Parent} {scope : Scope} {now : Part} {u : Place}
    → After pool m depth levels base p0 parents step.Tag now scope u → Reached pool m depth levels base p0 parents now scope u
at_record {pool} {m} {depth} {levels} {base} {p0} {parents} {scope} {now} {u} a = from_underway a.before a.place a.reached a.begun
  where
    from_underway : (v : Part) (q : Place) → Reached pool m depth levels base p0 parents v scope q → Underway pool scope.depth_left v q step.Tag now u → Reached pool m depth levels base p0 parents now scope u
    from_underway v q s (nothing at same place) = subst (λ (z : Part). Reached pool m depth levels base p0 parents z scope u) (sym same) (subst (λ (z : Place). Reached pool m depth levels base p0 parents v scope z) (sym place) s)
    from_underway v q s (a_tag t at has means has_level same) = absurd (cc)
    from_underway v q s (a_length at has l means has_level bytes same) = absurd (cc)
    from_underway v q s (some_elements at has l means h was same) = absurd (cc)

-- A TAG whose value or length comes next

-- the part goes on to its own end
same_end : (next : Step) (t : Tag) (e : Option ℕ) → awaited next ≡ Some t → end_of_part next e ≡ e
same_end step.Tag t e is = refl
same_end (step.Varint n p) t e is = refl
same_end (step.I64 n p) t e is = refl
same_end (step.I32 n p) t e is = refl
same_end (step.Length n p) t e is = refl
same_end (step.Payload n p size) t e is = refl
same_end (step.Elements n k outer) t e is = absurd (cc)

pub same_scope : (next : Step) (t : Tag) (scope : Scope) → awaited next ≡ Some t → part_scope next scope ≡ scope
same_scope next t scope is = ap (λ (z : Option ℕ). record scope { end = z }) (same_end next t scope.end is)

pub after_tag :
    {pool : Types} {m depth levels : ℕ} {base : List Record} {p0 : Place} {parents : List Parent} {scope : Scope} {now : Part} {q u : Place} (next : Step) (t : Tag)
    → Reached pool m depth levels base p0 parents now scope q → awaited next ≡ Some t → HasTag q t.number t.type u → Means pool (part_context now) t.number t.type t.meant → HasLevelFor scope.depth_left t.meant
    → After pool m depth levels base p0 parents next now scope u
after_tag {pool} {m} {depth} {levels} {base} {p0} {parents} {scope} {now} {q} {u} next t s is has means has_level = record {
  before = now;
  place = q;
  reached = subst (λ (z : Scope). Reached pool m depth levels base p0 parents now z q) (sym (same_scope next t scope is)) s;
  begun = a_tag t is has means has_level refl;
  ends = ends_along has.tag.0 scope.end has.tag.2 s.ends;
}

-- ONE MORE ELEMENT OF A LIST
pub with_no_elements : (pool : Types) (n : ℕ) (k : Kind) (v : Message) → IsTrue (is_packable k) → with_elements pool n k [] v ≡ v
with_no_elements pool n (kind.ClosedEnum e) v can = refl
with_no_elements pool n k (body fs us) can = ap (λ (z : List Scalar). with_fields (body fs us) (push_each n (map scalar z) fs)) (elements_none k can)

-- a value at the end of the list
pub with_next_element :
    (pool : Types) (n : ℕ) (k : Kind) (front first : List ℕ) (x : Scalar) (v : Message) → IsTrue (is_packable k) → AreElements (element_of k) front → IsElement (element_of k) first → read k (number_of (element_of k) first) ≡ Some x
    → is_undeclared pool (closed_enum k) (number_of (element_of k) first) ≡ false
    → with_elements pool n k (front ++ first) v ≡ with_fields (with_elements pool n k front v) (push_at n (scalar x) (fields_of (with_elements pool n k front v)))
with_next_element pool n (kind.ClosedEnum e) front first x v can all i is declared =
    let w : Message = with_elements pool n (kind.ClosedEnum e) front v in
    ap (λ (z : List Payload). with_numbers pool n (kind.ClosedEnum e) z v) (numbers_next a_varint_element front first all i)
    ∙ with_numbers-append pool n (kind.ClosedEnum e) (numbers_of 0 front) (number_of a_varint_element first) v
    ∙ declared_number pool n (kind.ClosedEnum e) w (number_of a_varint_element first) declared
    ∙ ap (λ (z : List Scalar). with_fields w (push_each n (map scalar z) (fields_of w))) (ap option_to_list is)
with_next_element pool n k front first x v can all i is declared = ap (λ (z : List Datum). with_fields v (push_each n z (fields_of v))) (ap (map scalar) (elements_next k front first x can all i is) ∙ map-append scalar (elements k (len front)) (x ∷ []))
    ∙ ap (λ (z : _). with_fields v z) (push_each-append n (map scalar (elements k (len front))) (scalar x ∷ []) (fields_of v))

-- an undeclared number among the unknown records
pub with_next_undeclared :
    (pool : Types) (n : ℕ) (k : Kind) (front first : List ℕ) (v : Message) → AreElements (element_of k) front → IsElement (element_of k) first → is_undeclared pool (closed_enum k) (number_of (element_of k) first) ≡ true
    → with_elements pool n k (front ++ first) v
    ≡ body (fields_of (with_elements pool n k front v)) (unknown_of (with_elements pool n k front v) ++ record { number = n; payload = number_of (element_of k) first } ∷ [])
with_next_undeclared pool n (kind.ClosedEnum e) front first v all i undeclared =
    ap (λ (z : List Payload). with_numbers pool n (kind.ClosedEnum e) z v) (numbers_next a_varint_element front first all i)
    ∙ with_numbers-append pool n (kind.ClosedEnum e) (numbers_of 0 front) (number_of a_varint_element first) v
    ∙ undeclared_number pool n (kind.ClosedEnum e) (with_elements pool n (kind.ClosedEnum e) front v) (number_of a_varint_element first) undeclared
with_next_undeclared pool n k front first v all i undeclared = absurd (false≢true undeclared)

-- WHAT A STEP SAYS of what is before it

-- after the tag of a record in the part
pub record AtTag (pool : Types) (m depth levels : ℕ) (base : List Record) (p0 : Place) (parents : List Parent) (now : Part) (scope : Scope) (t : Tag) (u : Place) : Type 0 where
  pub place : Place
  pub reached : Reached pool m depth levels base p0 parents now scope place
  pub has : HasTag place t.number t.type u
  pub means : Means pool (part_context now) t.number t.type t.meant
  pub has_level : HasLevelFor scope.depth_left t.meant

pub at_tag :
    {pool : Types} {m depth levels : ℕ} {base : List Record} {p0 : Place} {parents : List Parent} {scope : Scope} {next : Step} {now : Part} {u : Place} (t : Tag)
    → After pool m depth levels base p0 parents next now scope u → awaited next ≡ Some t → AtTag pool m depth levels base p0 parents now scope t u
at_tag {pool} {m} {depth} {levels} {base} {p0} {parents} {scope} {next} {now} {u} t a is =
    from_underway a.before a.place (subst (λ (z : Scope). Reached pool m depth levels base p0 parents a.before z a.place) (same_scope next t scope is) a.reached) a.begun
  where
    from_underway : (v : Part) (q : Place) → Reached pool m depth levels base p0 parents v scope q → Underway pool scope.depth_left v q next now u → AtTag pool m depth levels base p0 parents now scope t u
    from_underway v q s (nothing at same place) = absurd (cc)
    from_underway v q s (a_length at has l means has_level bytes same) = absurd (cc)
    from_underway v q s (some_elements at has l means h was same) = absurd (cc)
    from_underway v q s (a_tag t2 at has means has_level same) =
        let alike : t2 ≡ t = cc in
        record {
          place = q;
          reached = subst (λ (z : Part). Reached pool m depth levels base p0 parents z scope q) (sym same) s;
          has = subst (λ (z : Tag). HasTag q z.number z.type u) alike has;
          means = subst (λ (z : Tag). Means pool (part_context now) z.number z.type z.meant) alike (subst (λ (z : Part). Means pool (part_context z) t2.number t2.type t2.meant) (sym same) means);
          has_level = subst (λ (z : Tag). HasLevelFor scope.depth_left z.meant) alike has_level;
        }

-- after the tag and the length of a record in the part
pub record AtPayload (pool : Types) (m depth levels : ℕ) (base : List Record) (p0 : Place) (parents : List Parent) (now : Part) (scope : Scope) (k : ℕ) (meant : Target) (n : ℕ) (u : Place) : Type 0 where
  pub place : Place
  pub length_at : Place
  pub reached : Reached pool m depth levels base p0 parents now scope place
  pub has : HasTag place k 2 length_at
  pub length_is : HasLength length_at n u
  pub means : Means pool (part_context now) k 2 meant
  pub has_level : HasLevelFor scope.depth_left meant
  pub for_bytes : IsBytesTarget meant

pub at_payload :
    {pool : Types} {m depth levels : ℕ} {base : List Record} {p0 : Place} {parents : List Parent} {scope : Scope} {now : Part} {u : Place} (k : ℕ) (meant : Target) (n : ℕ)
    → After pool m depth levels base p0 parents (step.Payload k meant n) now scope u → AtPayload pool m depth levels base p0 parents now scope k meant n u
at_payload {pool} {m} {depth} {levels} {base} {p0} {parents} {scope} {now} {u} k meant n a = from_underway a.before a.place a.reached a.begun
  where
    from_underway : (v : Part) (q : Place) → Reached pool m depth levels base p0 parents v scope q → Underway pool scope.depth_left v q (step.Payload k meant n) now u → AtPayload pool m depth levels base p0 parents now scope k meant n u
    from_underway v q s (nothing at same place) = absurd (cc)
    from_underway v q s (a_tag t at has means has_level same) = absurd (cc)
    from_underway v q s (some_elements at has l means h was same) = absurd (cc)
    from_underway v q s (a_length {r = r} {k = k2} {n = n2} {p = p} at has l means has_level bytes same) =
        let own : k2 ≡ k = cc in
        let size : n2 ≡ n = cc in
        let alike : p ≡ meant = cc in
        record {
          place = q;
          length_at = r;
          reached = subst (λ (z : Part). Reached pool m depth levels base p0 parents z scope q) (sym same) s;
          has = subst (λ (z : ℕ). HasTag q z 2 r) own has;
          length_is = subst (λ (z : ℕ). HasLength r z u) size l;
          means =
              subst (λ (z : Target). Means pool (part_context now) k 2 z) alike
              (subst (λ (z : ℕ). Means pool (part_context now) z 2 p) own (subst (λ (z : Part). Means pool (part_context z) k2 2 p) (sym same) means));
          has_level = subst (HasLevelFor scope.depth_left) alike has_level;
          for_bytes = subst IsBytesTarget alike bytes;
        }

-- A LENGTH: its payload comes next
pub after_length :
    {pool : Types} {m depth levels : ℕ} {base : List Record} {p0 : Place} {parents : List Parent} {scope : Scope} {next : Step} {now : Part} {u t : Place} (k : ℕ) (meant : Target) (n : ℕ)
    → After pool m depth levels base p0 parents next now scope u → awaited next ≡ Some (tag k 2 meant) → IsBytesTarget meant → HasLength u n t → After pool m depth levels base p0 parents (step.Payload k meant n) now scope t
after_length {scope = scope} {now = now} k meant n a is bytes l =
    let after = at_tag (tag k 2 meant) a is in
    record {
      before = now;
      place = after.place;
      reached = after.reached;
      begun = a_length refl after.has l after.means after.has_level bytes refl;
      ends = ends_along l.length_is.0 scope.end l.length_is.2 a.ends;
    }

-- THE PATH: the steps of the parents
pub path_held :
    {pool : Types} {m depth levels : ℕ} {base : List Record} {p0 : Place} {parents : List Parent} {now : Part} {o : Open Context} {depth_left inner : ℕ} {path : List PathStep} {p : Place} {earlier : List Record}
    → Held pool m depth levels base p0 parents now o depth_left inner path p earlier → path ≡ path_of parents
path_held (at_top v form is_open is_depth is_inner is_path is_place is_base goes_on) = is_path
path_held (inside {parent = parent} {parents = parents} {rs = rs} up h begun form can deep completes is_path counts ends goes_on takes) =
    is_path ∙ ap (λ (z : List PathStep). z ++ step_into parent.number rs ∷ []) (path_held up) ∙ ap (λ (z : ℕ). path_of parents ++ record { number = parent.number; occurrence = z } ∷ []) (sym (counts parent.number))

-- the step of the record that comes next
pub step_here : (k : ℕ) (scope : Scope) (rs : List Record) → CountsOf scope.counts rs → step_into k rs ≡ next_step k scope
step_here k scope rs counts = ap (λ (z : ℕ). record { number = k; occurrence = z }) (sym (counts k))

-- A FAULT OF THE RECORD THAT COMES NEXT is the fault of the whole, below the steps of the parents
pub reported_here :
    {pool : Types} {m depth levels : ℕ} {base : List Record} {p0 : Place} {parents : List Parent} {scope : Scope} {now : Part} {q : Place} (f : Fault)
    → (s : Reached pool m depth levels base p0 parents now scope q) → Begins s.open_now q → RecordFault (schema_of pool) s.open_now s.records_so_far scope.depth_left q f
    → Bad (schema_of pool) (records (in_message m)) depth p0 (below (path_of parents) f)
reported_here {pool} {m} {depth} {p0 = p0} f s goes bad = subst (λ (z : List PathStep). Bad (schema_of pool) (records (in_message m)) depth p0 (below z f)) (path_held s.held) (reported f s goes bad)

-- and one inside it is below its own step too
pub reported_inside :
    {pool : Types} {m depth levels : ℕ} {base : List Record} {p0 : Place} {parents : List Parent} {scope : Scope} {now : Part} {q u : Place} (k w : ℕ) (g : Fault)
    → (s : Reached pool m depth levels base p0 parents now scope q) → HasTag q k w u → RecordFault (schema_of pool) s.open_now s.records_so_far scope.depth_left q (in_record (step_into k s.records_so_far) g)
    → Bad (schema_of pool) (records (in_message m)) depth p0 (below (path_of parents) (in_record (next_step k scope) g))
reported_inside {pool} {m} {depth} {p0 = p0} {parents} {scope} k w g s has bad =
    subst (λ (z : PathStep). Bad (schema_of pool) (records (in_message m)) depth p0 (below (path_of parents) (in_record z g))) (step_here k scope s.records_so_far s.counted)
    (reported_here (in_record (step_into k s.records_so_far) g) s (begins_at_tag s.open_now has) bad)

-- THE FAULT OF WHAT IS AFTER A TAG is the fault of the whole, below the step of its record
record_fault :
    (pool : Types) (o : Open Context) (before : List Record) (depth_left k w : ℕ) {q u : Place} (g : Fault) → HasTag q k w u → NumberFault w u g → RecordFault (schema_of pool) o before depth_left q (in_record (step_into k before) g)
record_fault pool o before depth_left k w {q} {u} g has (a_varint type bad) = RecordFault.varint (subst (λ (z : ℕ). HasTag q k z u) type has) bad refl
record_fault pool o before depth_left k w {q} {u} g has (eight_bytes type bad) = RecordFault.fixed64 (subst (λ (z : ℕ). HasTag q k z u) type has) bad refl
record_fault pool o before depth_left k w {q} {u} g has (four_bytes type bad) = RecordFault.fixed32 (subst (λ (z : ℕ). HasTag q k z u) type has) bad refl

pub number_reported :
    {pool : Types} {m depth levels : ℕ} {base : List Record} {p0 : Place} {parents : List Parent} {scope : Scope} {next : Step} {now : Part} {u : Place} (t : Tag) (g : Fault)
    → After pool m depth levels base p0 parents next now scope u → awaited next ≡ Some t → NumberFault t.type u g → Bad (schema_of pool) (records (in_message m)) depth p0 (below (path_of parents) (in_record (next_step t.number scope) g))
number_reported {pool} {scope = scope} t g a is bad =
    let after = at_tag t a is in
    reported_inside t.number t.type g after.reached after.has (record_fault pool after.reached.open_now after.reached.records_so_far scope.depth_left t.number t.type g after.has bad)
