-- Elements of a packed list, and what is reported of them.
use Rattle.std.proofs.Common.{◌≡◌, ◌≢◌, ℕ, ◌+◌, List, [], ◌∷◌, ◌++◌, drop, length, refl, sym, ap, subst, arith, inl, inr, Option, Some, IsTrue}
use Rattle.std.proofs.lemmas.Bool.{false≢true}
use Rattle.pb_wire.specs.Record.{Record}
use Rattle.pb_wire.specs.declared.fault.Cause.{Cause}
use Rattle.pb_wire.specs.declared.fault.Cause.TheVariants.{Truncated}
use Rattle.pb_wire.specs.declared.fault.PathStep.{PathStep}
use Rattle.pb_wire.specs.Fault.{Fault, fault, Place, input_end, VarintFault, FixedFault}
use Rattle.pb_wire.specs.Scan.{passed}
use Rattle.pb_wire.specs.Schema.{records}
use Rattle.pb_wire.specs.Grammar.{Bad, ElementFault}
use Rattle.pb_schema.specs.declared.types.Kind.{Kind}
use Rattle.pb_schema.specs.declared.types.Kind.TheVariants as kind
use Rattle.pb_schema.specs.Types.{Types, message_fields, field_numbered}
use Rattle.pb_schema.specs.Kinds.{wire_type_of, is_packable}
use Rattle.pb_schema.specs.Context.{a_message as in_message, element_of, schema_of}
use Rattle.pb_decode_parts.specs.declared.tokens.step.Step.{Step}
use Rattle.pb_decode_parts.specs.declared.tokens.step.Step.TheVariants as step
use Rattle.pb_decode_parts.specs.Open.Parents.{path_of, next_step, Part, Parent, Scope}
use Rattle.pb_decode_parts.specs.Tokens.Numbers.{NumberFault, a_varint, eight_bytes, four_bytes}
use Rattle.pb_decode_parts.specs.Tokens.After.{After}
use Rattle.pb_decode_parts.specs.Tokens.Number.{IsNumberType}
use Rattle.pb_decode.specs.Reader.{State, here, own_step, path_here, Reads, AfterAt, Stops, cut, Reported}
use Rattle.pb_decode_parts.proofs.ListSteps.{at_list, packed_field, list_reported}
use Rattle.pb_decode.proofs.ReaderLemmas.{passed_here}

varint_of : {u : Place} {g : Fault} → NumberFault 0 u g → VarintFault u g
varint_of (a_varint type bad) = bad
varint_of (eight_bytes type bad) = absurd (omega (arith, type))
varint_of (four_bytes type bad) = absurd (omega (arith, type))

eight_of : {u : Place} {g : Fault} → NumberFault 1 u g → FixedFault 8 u g
eight_of (a_varint type bad) = absurd (omega (arith, type))
eight_of (eight_bytes type bad) = bad
eight_of (four_bytes type bad) = absurd (omega (arith, type))

four_of : {u : Place} {g : Fault} → NumberFault 5 u g → FixedFault 4 u g
four_of (a_varint type bad) = absurd (omega (arith, type))
four_of (eight_bytes type bad) = absurd (omega (arith, type))
four_of (four_bytes type bad) = bad

-- the fault of a number is that of the element that it is
pub element_fault : (kd : Kind) {u : Place} {g : Fault} → IsTrue (is_packable kd) → NumberFault (wire_type_of kd) u g → ElementFault (element_of kd) u g
element_fault kind.Int32 can bad = varint_of bad
element_fault kind.Int64 can bad = varint_of bad
element_fault kind.Uint32 can bad = varint_of bad
element_fault kind.Uint64 can bad = varint_of bad
element_fault kind.Sint32 can bad = varint_of bad
element_fault kind.Sint64 can bad = varint_of bad
element_fault kind.Bool can bad = varint_of bad
element_fault (kind.Enum e) can bad = varint_of bad
element_fault (kind.ClosedEnum e) can bad = varint_of bad
element_fault kind.Fixed64 can bad = eight_of bad
element_fault kind.Sfixed64 can bad = eight_of bad
element_fault kind.Double can bad = eight_of bad
element_fault kind.Fixed32 can bad = four_of bad
element_fault kind.Sfixed32 can bad = four_of bad
element_fault kind.Float can bad = four_of bad
element_fault kind.Text can bad = absurd (false≢true can)
element_fault kind.Bytes can bad = absurd (false≢true can)
element_fault (kind.Message j) can bad = absurd (false≢true can)
element_fault (kind.Group j) can bad = absurd (false≢true can)

type_of_packed : (kd : Kind) → IsTrue (is_packable kd) → IsNumberType (wire_type_of kd)
type_of_packed kind.Int32 can = inl refl
type_of_packed kind.Int64 can = inl refl
type_of_packed kind.Uint32 can = inl refl
type_of_packed kind.Uint64 can = inl refl
type_of_packed kind.Sint32 can = inl refl
type_of_packed kind.Sint64 can = inl refl
type_of_packed kind.Bool can = inl refl
type_of_packed (kind.Enum e) can = inl refl
type_of_packed (kind.ClosedEnum e) can = inl refl
type_of_packed kind.Fixed64 can = inr (inl refl)
type_of_packed kind.Sfixed64 can = inr (inl refl)
type_of_packed kind.Double can = inr (inl refl)
type_of_packed kind.Fixed32 can = inr (inr refl)
type_of_packed kind.Sfixed32 can = inr (inr refl)
type_of_packed kind.Float can = inr (inr refl)
type_of_packed kind.Text can = absurd (false≢true can)
type_of_packed kind.Bytes can = absurd (false≢true can)
type_of_packed (kind.Message j) can = absurd (false≢true can)
type_of_packed (kind.Group j) can = absurd (false≢true can)

-- inside a list
in_list :
    {pool : Types} {m depth levels : ℕ} {base : List Record} {p0 : Place} (s : State) (rest : List ℕ) (k : ℕ) (kd : Kind) (outer : Option ℕ) → Reads pool m depth levels base p0 s rest → s.next ≡ step.Elements k kd outer
    → After pool m depth levels base p0 s.parents (step.Elements k kd outer) s.now s.scope (here s rest)
in_list {pool} {m} {depth} {levels} {base} {p0} s rest k kd outer begun is = subst (λ (z : Step). After pool m depth levels base p0 s.parents z s.now s.scope (here s rest)) is begun

pub packs_here : {pool : Types} {m depth levels : ℕ} {base : List Record} {p0 u : Place} {parents : List Parent} {now : Part} {scope : Scope} (k : ℕ) (kd : Kind) (outer : Option ℕ) → After pool m depth levels base p0 parents (step.Elements k kd outer) now scope u → IsTrue (is_packable kd)
packs_here {pool} k kd outer begun =
    let list = at_list k kd outer begun in
    let (f, found, e, is_kind, (p, is_shape), none, can) = packed_field (field_numbered k (message_fields pool list.message_type)) k 2 kd list.means in
    can

pub list_types :
    {pool : Types} {m depth levels : ℕ} {base : List Record} {p0 : Place} (s : State) (rest : List ℕ) (k : ℕ) (kd : Kind) (outer : Option ℕ) → Reads pool m depth levels base p0 s rest → s.next ≡ step.Elements k kd outer
    → IsNumberType (wire_type_of kd)
list_types s rest k kd outer begun is = type_of_packed kd (packs_here k kd outer (in_list s rest k kd outer begun is))

own_list : (next : Step) (k : ℕ) (kd : Kind) (outer : Option ℕ) (scope : Scope) → next ≡ step.Elements k kd outer → own_step next scope ≡ next_step k scope ∷ []
own_list next k kd outer scope is = ap (λ (z : Step). own_step z scope) is

element_bad :
    {pool : Types} {m depth levels : ℕ} {base : List Record} {p0 : Place} (s : State) (rest : List ℕ) (k : ℕ) (kd : Kind) (outer : Option ℕ) (byte : ℕ) (c : Cause) → Reads pool m depth levels base p0 s rest → s.next ≡ step.Elements k kd outer
    → (here s rest).known ≢ Some 0 → NumberFault (wire_type_of kd) (here s rest) (fault byte [] c) → Bad (schema_of pool) (records (in_message m)) depth p0 (fault byte (path_here s) c)
element_bad {pool} {m} {depth} {p0 = p0} s rest k kd outer byte c begun is goes_on bad =
    let inside_list = in_list s rest k kd outer begun is in
    subst (λ (z : List PathStep). Bad (schema_of pool) (records (in_message m)) depth p0 (fault byte (path_of s.parents ++ z) c)) (sym (own_list s.next k kd outer s.scope is))
    (list_reported k kd outer (fault byte [] c) inside_list goes_on (element_fault kd (packs_here k kd outer inside_list) bad))

pub element_short :
    {pool : Types} {m depth levels : ℕ} {base : List Record} {p0 : Place} (s : State) (rest : List ℕ) (k : ℕ) (kd : Kind) (outer : Option ℕ) → Reads pool m depth levels base p0 s rest → s.next ≡ step.Elements k kd outer
    → (here s rest).known ≢ Some 0 → NumberFault (wire_type_of kd) (here s rest) (fault (input_end (here s rest)) [] Truncated) → Stops pool m depth p0 s rest
element_short s rest k kd outer begun is goes_on bad = cut (element_bad s rest k kd outer (s.at + length rest) Truncated begun is goes_on bad)

pub element_refused :
    {pool : Types} {m depth levels : ℕ} {base : List Record} {p0 : Place} (s : State) (rest : List ℕ) (k : ℕ) (kd : Kind) (outer : Option ℕ) (c : Cause) → Reads pool m depth levels base p0 s rest → s.next ≡ step.Elements k kd outer
    → (here s rest).known ≢ Some 0 → c ≢ Truncated → NumberFault (wire_type_of kd) (here s rest) (fault s.at [] c) → Reported pool m depth p0 (fault s.at (path_here s) c)
element_refused s rest k kd outer c begun is goes_on not_cut bad = record { bad = element_bad s rest k kd outer s.at c begun is goes_on bad; settled = not_cut }

-- AFTER AN ELEMENT the next one comes
pub after_reads :
    {pool : Types} {m depth levels : ℕ} {base : List Record} {p0 : Place} (s t : State) (size : ℕ) (rest : List ℕ) → t.at ≡ s.at + size → t.scope.end ≡ s.scope.end → AfterAt pool m depth levels base p0 t (passed (here s rest) size)
    → Reads pool m depth levels base p0 t (drop size rest)
after_reads {pool} {m} {depth} {levels} {base} {p0} s t size rest at end h = subst (AfterAt pool m depth levels base p0 t) (passed_here s t size rest at end) h
