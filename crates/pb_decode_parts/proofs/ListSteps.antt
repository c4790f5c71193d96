-- A packed list: its length, one more element, a fault of an element, and its end.
use Rattle.std.proofs.Common.{◌≡◌, ◌≢◌, ℕ, ◌+◌, List, [], ◌∷◌, ◌++◌, length, refl, sym, ap, ◌∙◌, subst, arith, Option, Some, None, IsTrue}
use Rattle.std.specs.Prelude.{Bool, true, false}
use Rattle.std.proofs.lemmas.Bool.{false≢true}
use Rattle.std.proofs.lemmas.Nat.{from_le_bytes-to_le_bytes_4, from_le_bytes-to_le_bytes_8}
use Rattle.pb_wire.specs.Record.{Payload, varint, fixed64, len, fixed32, Record, wire_type}
use Rattle.pb_wire.specs.Spell.{Body}
use Rattle.pb_wire.specs.Fault.{Fault, inside, Place, HasTag, HasLength}
use Rattle.pb_wire.specs.Schema.{Element, a_varint, four_bytes, eight_bytes, packed, records, context_of}
use Rattle.pb_wire.specs.Sound.{IsElement, varint_element, four_element, eight_element, no_elements}
use Rattle.pb_wire.specs.Grammar.{Bad, payload_at, ElementFault}
use Rattle.pb_wire.proofs.Places.{moves_nothing}
use Rattle.pb_schema.specs.declared.types.Kind.{Kind}
use Rattle.pb_schema.specs.declared.types.Kind.TheVariants as kind
use Rattle.pb_schema.specs.declared.types.Shape.{Shape}
use Rattle.pb_schema.specs.declared.types.Shape.TheVariants as shape
use Rattle.pb_schema.specs.Types.{FieldView, Types, message_fields, field_numbered}
use Rattle.pb_schema.specs.Rules.{IsPool}
use Rattle.pb_schema.specs.Scalar.{Scalar}
use Rattle.pb_schema.specs.Kinds.{wire_type_of, is_packable, message_of_kind, closed_enum, read}
use Rattle.pb_schema.specs.Closed.{is_undeclared}
use Rattle.pb_schema.specs.Fits.{fits_type}
use Rattle.pb_schema.specs.Context.{Context, a_message as in_message, element_of, read_listed, read_field, read_shaped, schema_of}
use Rattle.pb_value.specs.Data.{Message, scalar, body, fields_of, unknown_of}
use Rattle.pb_value.proofs.OneofLemmas.{pool_differ}
use Rattle.pb_value.proofs.StepLemmas.{found_number}
use Rattle.pb_wire.specs.declared.scan.Number.{Number}
use Rattle.pb_wire.specs.declared.scan.Number.TheVariants as number
use Rattle.pb_decode_parts.specs.declared.open.target.Target.TheVariants as target
use Rattle.pb_decode_parts.specs.declared.tokens.step.Step.{Step}
use Rattle.pb_decode_parts.specs.declared.tokens.step.Step.TheVariants as step
use Rattle.pb_decode_parts.specs.Tokens.Number.{number_view}
use Rattle.pb_decode_parts.specs.Tokens.Numbers.{Follows}
use Rattle.pb_decode_parts.specs.Values.Put.{put_datum, put_record}
use Rattle.pb_decode_parts.specs.Open.Opened.{below}
use Rattle.pb_decode_parts.specs.Open.Targets.{OfShape, AtField, Means, part_context}
use Rattle.pb_decode_parts.specs.Open.Parents.{Part, message_part, entry_part, group_part, CanHold, up_to, next_step, Parent, path_of, Reached, Scope, one_more_in}
use Rattle.pb_decode_parts.specs.Tokens.After.{tag, awaited, Elements, with_elements, Underway, nothing, a_tag, a_length, some_elements, After}
use Rattle.pb_decode_parts.proofs.PackedLemmas.{elements_more, element_reported, list_ends}
use Rattle.pb_decode_parts.proofs.PackedNumbers.{element_type, number_of, type_of_element}
use Rattle.pb_decode_parts.proofs.AfterLemmas.{at_tag, with_no_elements, with_next_element, with_next_undeclared}
use Rattle.pb_decode_parts.proofs.ParentLemmas.{ends_along}
use Rattle.pb_decode_parts.proofs.NumberSteps.{fits_is}

-- an element's bytes are those of its number
element_spelled : (e : Element) (a : Number) (s : List ℕ) → wire_type (number_view a) ≡ element_type e → Body 0 (number_view a) s → IsElement e s × (number_of e s ≡ number_view a)
element_spelled a_varint (number.Varint n) s type (small, v) = (varint_element v, ap varint v.value)
element_spelled eight_bytes (number.I64 n) s type (small, is) = (eight_element (ap length is), ap (λ (z : List ℕ). number_of eight_bytes z) is ∙ ap fixed64 (from_le_bytes-to_le_bytes_8 n small))
element_spelled four_bytes (number.I32 n) s type (small, is) = (four_element (ap length is), ap (λ (z : List ℕ). number_of four_bytes z) is ∙ ap fixed32 (from_le_bytes-to_le_bytes_4 n small))
element_spelled a_varint (number.I64 n) s type h = absurd (omega (arith, type))
element_spelled a_varint (number.I32 n) s type h = absurd (omega (arith, type))
element_spelled eight_bytes (number.Varint n) s type h = absurd (omega (arith, type))
element_spelled eight_bytes (number.I32 n) s type h = absurd (omega (arith, type))
element_spelled four_bytes (number.Varint n) s type h = absurd (omega (arith, type))
element_spelled four_bytes (number.I64 n) s type h = absurd (omega (arith, type))

listed_reading : (c : Context) (k : Kind) → IsTrue (is_packable k) → read_listed c k ≡ packed (element_of k)
listed_reading c kind.Int32 can = refl
listed_reading c kind.Int64 can = refl
listed_reading c kind.Uint32 can = refl
listed_reading c kind.Uint64 can = refl
listed_reading c kind.Sint32 can = refl
listed_reading c kind.Sint64 can = refl
listed_reading c kind.Bool can = refl
listed_reading c (kind.Enum e) can = refl
listed_reading c (kind.ClosedEnum e) can = refl
listed_reading c kind.Fixed64 can = refl
listed_reading c kind.Sfixed64 can = refl
listed_reading c kind.Double can = refl
listed_reading c kind.Fixed32 can = refl
listed_reading c kind.Sfixed32 can = refl
listed_reading c kind.Float can = refl
listed_reading c kind.Text can = absurd (false≢true can)
listed_reading c kind.Bytes can = absurd (false≢true can)
listed_reading c (kind.Message m) can = absurd (false≢true can)
listed_reading c (kind.Group m) can = absurd (false≢true can)

pub packed_field :
    (o : Option FieldView) (k w : ℕ) (kd : Kind) → AtField o k w (target.Packed kd)
    → (f : FieldView) × (o ≡ Some f) × (fits_type f w ≡ true) × (f.kind ≡ kd) × ((p : Bool) × (f.shape ≡ shape.List p)) × (message_of_kind kd ≡ None) × IsTrue (is_packable kd)
packed_field None k w kd h = absurd (cc)
packed_field (Some f) k w kd (e, h) = by_shape f.shape refl h
  where
    by_shape : (t : Shape) → f.shape ≡ t → OfShape f.kind t k w (target.Packed kd)
        → (g : FieldView) × (Some f ≡ Some g) × (fits_type g w ≡ true) × (g.kind ≡ kd) × ((p : Bool) × (g.shape ≡ shape.List p)) × (message_of_kind kd ≡ None) × IsTrue (is_packable kd)
    by_shape (shape.Map key) is h = absurd h
    by_shape (shape.List p) is (a, none, can, same) = (f, refl, e, sym a, (p, is), ap message_of_kind a ∙ none, ap is_packable a ∙ can)
    by_shape shape.Implicit is h = absurd h
    by_shape shape.Explicit is h = absurd h
    by_shape (shape.OneofMember o) is h = absurd h

-- a list is in a message, and its elements have a kind of numbers
packs : (pool : Types) (now : Part) (k : ℕ) (kd : Kind) → Means pool (part_context now) k 2 (target.Packed kd) → ((t : ℕ) × (v : Message) × (now ≡ message_part t v)) × IsTrue (is_packable kd)
packs pool (message_part t v) k kd means = let found = packed_field (field_numbered k (message_fields pool t)) k 2 kd means in ((t, v, refl), found.6)
packs pool (entry_part key k2 x d) k kd means = absurd means
packs pool (group_part us) k kd means = absurd (cc)

-- A LENGTH OF A PACKED LIST: its elements come next, up to their known end
pub list_begins :
    {pool : Types} {m depth levels : ℕ} {base : List Record} {p0 : Place} {parents : List Parent} {scope : Scope} {next : Step} {now : Part} {u t : Place} (k : ℕ) (kd : Kind) (n : ℕ)
    → After pool m depth levels base p0 parents next now scope u → awaited next ≡ Some (tag k 2 (target.Packed kd)) → HasLength u n t
    → After pool m depth levels base p0 parents (step.Elements k kd scope.end) now (record scope { end = Some (t.at + n) }) (payload_at t n)
list_begins {pool} {now = now} {t = t} k kd n a is l =
    let after = at_tag (tag k 2 (target.Packed kd)) a is in
    let list = packs pool now k kd after.means in
    let at = list.0 in
    record {
      before = now;
      place = after.place;
      reached = after.reached;
      begun =
          some_elements refl after.has l after.means (record { whole = no_elements; moves = moves_nothing (payload_at t n) }) at.2
          (at.2 ∙ ap (message_part at.0) (sym (with_no_elements pool k kd at.1 list.1)));
      ends = (n, refl, refl);
    }

-- inside the payload of a packed list
pub record AtList (pool : Types) (m depth levels : ℕ) (base : List Record) (p0 : Place) (parents : List Parent) (now : Part) (scope : Scope) (k : ℕ) (kd : Kind) (outer : Option ℕ) (u : Place) : Type 0 where
  pub message_type : ℕ
  pub before : Message
  pub place : Place
  pub length_at : Place
  pub payload : Place
  pub size : ℕ
  pub front : List ℕ
  pub reached : Reached pool m depth levels base p0 parents (message_part message_type before) (record scope { end = outer }) place
  pub has : HasTag place k 2 length_at
  pub length_is : HasLength length_at size payload
  pub means : Means pool (in_message message_type) k 2 (target.Packed kd)
  pub elements_are : Elements (element_of kd) (payload_at payload size) u front
  pub now_is : now ≡ message_part message_type (with_elements pool k kd front before)

pub at_list :
    {pool : Types} {m depth levels : ℕ} {base : List Record} {p0 : Place} {parents : List Parent} {scope : Scope} {now : Part} {u : Place} (k : ℕ) (kd : Kind) (outer : Option ℕ)
    → After pool m depth levels base p0 parents (step.Elements k kd outer) now scope u → AtList pool m depth levels base p0 parents now scope k kd outer u
at_list {pool} {m} {depth} {levels} {base} {p0} {parents} {scope} {now} {u} k kd outer a = from_underway a.before a.place a.reached a.begun
  where
    from_underway : (v : Part) (q : Place) → Reached pool m depth levels base p0 parents v (record scope { end = outer }) q → Underway pool scope.depth_left v q (step.Elements k kd outer) now u → AtList pool m depth levels base p0 parents now scope k kd outer u
    from_underway v q s (nothing at same place) = absurd (cc)
    from_underway v q s (a_tag t at has means has_level same) = absurd (cc)
    from_underway v q s (a_length at has l means has_level bytes same) = absurd (cc)
    from_underway v q s (some_elements {r = r} {t = t} {k = k2} {n = n} {m = j} {kd = kd2} {w = w} {front = front} at has l means h was same) =
        let own : k2 ≡ k = cc in
        let kind_is : kd2 ≡ kd = cc in
        record {
          message_type = j;
          before = w;
          place = q;
          length_at = r;
          payload = t;
          size = n;
          front = front;
          reached = subst (λ (z : Part). Reached pool m depth levels base p0 parents z (record scope { end = outer }) q) was s;
          has = subst (λ (z : ℕ). HasTag q z 2 r) own has;
          length_is = l;
          means =
              subst (λ (z : Kind). Means pool (in_message j) k 2 (target.Packed z)) kind_is
              (subst (λ (z : ℕ). Means pool (in_message j) z 2 (target.Packed kd2)) own (subst (λ (z : Part). Means pool (part_context z) k2 2 (target.Packed kd2)) was means));
          elements_are = subst (λ (z : Kind). Elements (element_of z) (payload_at t n) u front) kind_is h;
          now_is = same ∙ ap (λ (z : ℕ). message_part j (with_elements pool z kd2 front w)) own ∙ ap (λ (z : Kind). message_part j (with_elements pool k z front w)) kind_is;
        }

-- ONE MORE ELEMENT: it goes to the end of the list, and the reader is after it
pub list_goes_on :
    {pool : Types} {m depth levels : ℕ} {base : List Record} {p0 : Place} {parents : List Parent} {scope : Scope} {now : Part} {u w : Place} (k : ℕ) (kd : Kind) (outer : Option ℕ) (a : Number) (x : Scalar)
    → After pool m depth levels base p0 parents (step.Elements k kd outer) now scope u → wire_type (number_view a) ≡ wire_type_of kd → read kd (number_view a) ≡ Some x → is_undeclared pool (closed_enum kd) (number_view a) ≡ false
    → Follows u (number_view a) w → After pool m depth levels base p0 parents (step.Elements k kd outer) (put_datum pool k (target.Element kd) now (scalar x)) scope w
list_goes_on {pool} {m} {depth} {levels} {base} {p0} {parents} {scope} {now} {u} {w} k kd outer a x begun type value declared (first, spelled, moves) =
    let list = at_list k kd outer begun in
    let can = (packs pool (message_part list.message_type list.before) k kd list.means).1 in
    let one = element_spelled (element_of kd) a first (type ∙ type_of_element kd can) spelled in
    record {
      before = message_part list.message_type list.before;
      place = list.place;
      reached = list.reached;
      begun =
          some_elements refl list.has list.length_is list.means (elements_more list.front first list.elements_are one.0 moves) refl
          (ap (λ (z : Part). put_datum pool k (target.Element kd) z (scalar x)) list.now_is
          ∙ ap (message_part list.message_type) (sym (with_next_element pool k kd list.front first x list.before can list.elements_are.whole one.0 (ap (read kd) one.1 ∙ value) (ap (is_undeclared pool (closed_enum kd)) one.1 ∙ declared))));
      ends = ends_along first scope.end moves begun.ends;
    }

-- one that a closed enum doesn't declare goes among the unknown records
list_passes :
    {pool : Types} {m depth levels : ℕ} {base : List Record} {p0 : Place} {parents : List Parent} {scope : Scope} {now : Part} {u w : Place} (k : ℕ) (kd : Kind) (outer : Option ℕ) (a : Number)
    → After pool m depth levels base p0 parents (step.Elements k kd outer) now scope u → wire_type (number_view a) ≡ wire_type_of kd → is_undeclared pool (closed_enum kd) (number_view a) ≡ true
    → Follows u (number_view a) w → After pool m depth levels base p0 parents (step.Elements k kd outer) (put_record k (number_view a) now) scope w
list_passes {pool} {m} {depth} {levels} {base} {p0} {parents} {scope} {now} {u} {w} k kd outer a begun type undeclared (first, spelled, moves) =
    let list = at_list k kd outer begun in
    let can = (packs pool (message_part list.message_type list.before) k kd list.means).1 in
    let one = element_spelled (element_of kd) a first (type ∙ type_of_element kd can) spelled in
    let so_far : Message = with_elements pool k kd list.front list.before in
    record {
      before = message_part list.message_type list.before;
      place = list.place;
      reached = list.reached;
      begun =
          some_elements refl list.has list.length_is list.means (elements_more list.front first list.elements_are one.0 moves) refl
          (ap (put_record k (number_view a)) list.now_is
          ∙ ap (λ (z : Payload). message_part list.message_type (body (fields_of so_far) (unknown_of so_far ++ record { number = k; payload = z } ∷ []))) (sym one.1)
          ∙ ap (message_part list.message_type) (sym (with_next_undeclared pool k kd list.front first list.before list.elements_are.whole one.0 (ap (is_undeclared pool (closed_enum kd)) one.1 ∙ undeclared))));
      ends = ends_along first scope.end moves begun.ends;
    }

pub list_reading : (pool : Types) (c : Context) (t k : ℕ) (kd : Kind) → c ≡ in_message t → Means pool (in_message t) k 2 (target.Packed kd) → (schema_of pool).reading c k ≡ packed (element_of kd)
list_reading pool c t k kd is means =
    let (f, found, e, is_kind, (p, is_shape), none, can) = packed_field (field_numbered k (message_fields pool t)) k 2 kd means in
    ap (λ (z : Context). (schema_of pool).reading z k) is ∙ ap (read_field (in_message t)) found ∙ ap (λ (z : Shape). read_shaped (in_message t) z f.kind) is_shape
    ∙ ap (read_listed (in_message t)) is_kind ∙ listed_reading (in_message t) kd can

-- THE END OF THE LIST: the record is whole, and the reader is after it in the part
pub list_over :
    {pool : Types} {m depth levels : ℕ} {base : List Record} {p0 : Place} {parents : List Parent} {scope : Scope} {now : Part} {u : Place} (k : ℕ) (kd : Kind) (outer : Option ℕ) → IsPool pool → CanHold pool now
    → After pool m depth levels base p0 parents (step.Elements k kd outer) now scope u → u.known ≡ Some 0
    → Reached pool m depth levels base p0 parents now (one_more_in k (record scope { end = outer })) (up_to outer u)
list_over {pool} {m} {depth} {levels} {base} {p0} {parents} {scope} {now} {u} k kd outer ok can begun over =
    let list = at_list k kd outer begun in
    let (f, found, e, is_kind, (p, is_shape), none, packable) = packed_field (field_numbered k (message_fields pool list.message_type)) k 2 kd list.means in
    let within : CanHold pool (message_part list.message_type (with_elements pool k kd list.front list.before)) = subst (CanHold pool) list.now_is can in
    let own : f.number ≡ k = found_number k (message_fields pool list.message_type) f found in
    let there : field_numbered f.number (message_fields pool list.message_type) ≡ Some f = ap (λ (z : ℕ). field_numbered z (message_fields pool list.message_type)) own ∙ found in
    let ended = list_ends list.message_type list.before list.reached (pool_differ pool list.message_type ok within.0) f there p is_shape (ap message_of_kind is_kind ∙ none) (fits_is f f.number (len list.front) refl e)
    (subst (λ (z : ℕ). HasTag list.place z 2 list.length_at) (sym own) list.has)
    (ap ((schema_of pool).reading (context_of list.reached.open_now)) own ∙ list_reading pool (context_of list.reached.open_now) list.message_type k kd list.reached.form list.means) list.length_is list.elements_are over in
    subst (λ (z : Part). Reached pool m depth levels base p0 parents z (one_more_in k (record scope { end = outer })) (up_to outer u)) (sym list.now_is)
    (subst (λ (z : Kind). Reached pool m depth levels base p0 parents (message_part list.message_type (with_elements pool k z list.front list.before)) (one_more_in k (record scope { end = outer })) (up_to outer u)) is_kind
    (subst (λ (z : ℕ). Reached pool m depth levels base p0 parents (message_part list.message_type (with_elements pool z f.kind list.front list.before)) (one_more_in z (record scope { end = outer })) (up_to outer u)) own ended))

-- THE FAULT OF AN ELEMENT is the fault of the whole
pub list_reported :
    {pool : Types} {m depth levels : ℕ} {base : List Record} {p0 : Place} {parents : List Parent} {scope : Scope} {now : Part} {u : Place} (k : ℕ) (kd : Kind) (outer : Option ℕ) (g : Fault)
    → After pool m depth levels base p0 parents (step.Elements k kd outer) now scope u → u.known ≢ Some 0 → ElementFault (element_of kd) u g
    → Bad (schema_of pool) (records (in_message m)) depth p0 (below (path_of parents) (inside (next_step k scope) g))
list_reported {pool} {m} {depth} {p0 = p0} k kd outer g begun open_end bad =
    let list = at_list k kd outer begun in
    element_reported g list.reached list.has (list_reading pool (context_of list.reached.open_now) list.message_type k kd list.reached.form list.means) list.length_is list.elements_are open_end bad

-- where the part holds the element too, the reader is after it
pub element_put :
    {pool : Types} {m depth levels : ℕ} {base : List Record} {p0 : Place} {parents : List Parent} {scope : Scope} {now : Part} {u w : Place} (k : ℕ) (kd : Kind) (outer : Option ℕ) (a : Number) (x : Scalar) (put : Part)
    → After pool m depth levels base p0 parents (step.Elements k kd outer) now scope u → wire_type (number_view a) ≡ wire_type_of kd → read kd (number_view a) ≡ Some x → is_undeclared pool (closed_enum kd) (number_view a) ≡ false
    → Follows u (number_view a) w → put ≡ put_datum pool k (target.Element kd) now (scalar x) → After pool m depth levels base p0 parents (step.Elements k kd outer) put scope w
element_put {pool} {m} {depth} {levels} {base} {p0} {parents} {scope} {now} {u} {w} k kd outer a x put begun type value declared follows made =
    subst (λ (z : Part). After pool m depth levels base p0 parents (step.Elements k kd outer) z scope w) (sym made) (list_goes_on k kd outer a x begun type value declared follows)

pub element_passed :
    {pool : Types} {m depth levels : ℕ} {base : List Record} {p0 : Place} {parents : List Parent} {scope : Scope} {now : Part} {u w : Place} (k : ℕ) (kd : Kind) (outer : Option ℕ) (a : Number) (put : Part)
    → After pool m depth levels base p0 parents (step.Elements k kd outer) now scope u → wire_type (number_view a) ≡ wire_type_of kd → is_undeclared pool (closed_enum kd) (number_view a) ≡ true
    → Follows u (number_view a) w → put ≡ put_record k (number_view a) now → After pool m depth levels base p0 parents (step.Elements k kd outer) put scope w
element_passed {pool} {m} {depth} {levels} {base} {p0} {parents} {scope} {now} {u} {w} k kd outer a put begun type undeclared follows made =
    subst (λ (z : Part). After pool m depth levels base p0 parents (step.Elements k kd outer) z scope w) (sym made) (list_passes k kd outer a begun type undeclared follows)
