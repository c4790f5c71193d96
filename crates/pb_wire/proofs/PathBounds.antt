-- How long the path of a fault is. A record whose payload or group holds the fault adds its step and uses a level; a record that is read at the level of
-- what holds it adds a step alone, and holds no further one that does.
use Rattle.std.proofs.Common.{◌≡◌, ℕ, suc, ◌+◌, ◌*◌, ◌≤◌, List, [], ◌∷◌, length, ap, arith, Option}
use Rattle.pb_wire.specs.Record.{Record}
use Rattle.pb_wire.specs.declared.fault.PathStep.{PathStep}
use Rattle.pb_wire.specs.Fault.{Fault, fault, inside, Place, TagFault, VarintFault, FixedFault, LengthFault}
use Rattle.pb_wire.specs.Schema.{Schema, Element, a_varint, four_bytes, eight_bytes, Open, records, context_of}
use Rattle.pb_wire.specs.Levels.{UsesLevels, NestsOnce}
use Rattle.pb_wire.specs.Limits.{Bounds}
use Rattle.pb_wire.specs.Grammar.{Bad, RecordFault, ElementFault, beyond, HasFault}
use Rattle.pb_wire.specs.declared.fault.Cause.{Cause}
use Rattle.pb_wire.specs.declared.fault.Cause.TheVariants as cause

-- what is known of a fault in a context
pub record Bounded (plain : Type 0) (depth_left : ℕ) (f : Fault) : Type 0 where
  pub any : length f.path ≤ 2 * depth_left + 2
  pub plainly : plain → length f.path ≤ 2 * depth_left + 1

no_steps : {f : Fault} {byte : ℕ} {c : Cause} → f ≡ fault byte [] c → length f.path ≡ 0
no_steps is = ap (λ (z : Fault). length z.path) is

one_step : {f : Fault} {byte : ℕ} {s : PathStep} {c : Cause} → f ≡ fault byte (s ∷ []) c → length f.path ≡ 1
one_step is = ap (λ (z : Fault). length z.path) is

a_step_more : {f g : Fault} {s : PathStep} → f ≡ inside s g → length f.path ≡ suc (length g.path)
a_step_more is = ap (λ (z : Fault). length z.path) is

short : {plain : Type 0} {depth_left : ℕ} {f : Fault} → length f.path ≤ 1 → Bounded plain depth_left f
short few = record { any = omega (arith, few); plainly = λ h. omega (arith, few) }

of_varint : {p : Place} {f : Fault} → VarintFault p f → length f.path ≡ 0
of_varint (VarintFault.too_long a b is) = no_steps is
of_varint (VarintFault.past_end a b c is) = no_steps is
of_varint (VarintFault.cut_short a b c is) = no_steps is

of_fixed : {p : Place} {n : ℕ} {f : Fault} → FixedFault n p f → length f.path ≡ 0
of_fixed (FixedFault.past_end a is) = no_steps is
of_fixed (FixedFault.cut_short a b is) = no_steps is

of_length : {p : Place} {f : Fault} → LengthFault p f → length f.path ≡ 0
of_length (LengthFault.token v) = of_varint v
of_length (LengthFault.too_large r a is) = no_steps is
of_length (LengthFault.past_end r a b is) = no_steps is

of_tag : {o : Option ℕ} {p : Place} {f : Fault} → TagFault o p f → length f.path ≡ 0
of_tag (TagFault.token v) = of_varint v
of_tag (TagFault.too_large r a is) = no_steps is
of_tag (TagFault.number_zero r a is) = no_steps is
of_tag (TagFault.bad_type r a b c is) = no_steps is
of_tag (TagFault.stray_end t a is) = no_steps is
of_tag (TagFault.wrong_end t a b is) = no_steps is

of_element : (e : Element) (p : Place) (f : Fault) → ElementFault e p f → length f.path ≡ 0
of_element a_varint p f h = of_varint h
of_element four_bytes p f h = of_fixed h
of_element eight_bytes p f h = of_fixed h

here : {plain : Type 0} {depth_left : ℕ} {f : Fault} → length f.path ≡ 0 → Bounded plain depth_left f
here none = short (omega (arith, none))

in_record : {plain : Type 0} {depth_left : ℕ} {f g : Fault} {s : PathStep} → f ≡ inside s g → length g.path ≡ 0 → Bounded plain depth_left f
in_record is none = short (omega (arith, a_step_more is, none))

-- a level down
below : {plain in_it : Type 0} {depth_left : ℕ} {f g : Fault} {s : PathStep} → f ≡ inside s g → Bounded in_it depth_left g → Bounded plain (suc depth_left) f
below is b =
    let more = a_step_more is in
    let any = b.any in
    record { any = omega (arith, more, any); plainly = λ h. omega (arith, more, any) }

mutual
  pub bounded :
      {S : Schema} {o : Open S.Context} {depth_left : ℕ} {p : Place} {f : Fault}
      → NestsOnce S.reading → Bad S o depth_left p f → Bounded (UsesLevels S.reading (context_of o)) depth_left f
  bounded once (Bad.at_record w m goes bad) = record_bounded once bad
  bounded once (Bad.at_end is w m end e) = here (no_steps e)

  record_bounded :
      {S : Schema} {o : Open S.Context} {before : List Record} {depth_left : ℕ} {p : Place} {f : Fault}
      → NestsOnce S.reading → RecordFault S o before depth_left p f → Bounded (UsesLevels S.reading (context_of o)) depth_left f
  record_bounded once (RecordFault.tag t) = here (of_tag t)
  record_bounded once (RecordFault.group_too_deep t z is) = short (omega (arith, one_step is))
  record_bounded once (RecordFault.message_too_deep t re z is) = short (omega (arith, one_step is))
  record_bounded once (RecordFault.varint t v is) = in_record is (of_varint v)
  record_bounded once (RecordFault.fixed64 t v is) = in_record is (of_fixed v)
  record_bounded once (RecordFault.fixed32 t v is) = in_record is (of_fixed v)
  record_bounded once (RecordFault.in_a_group t bad is) = below is (bounded once bad)
  record_bounded once (RecordFault.length_of t a v is) = in_record is (of_length v)
  record_bounded once (RecordFault.cut_payload t re v is) = in_record is (no_steps v.fault_is)
  record_bounded once (RecordFault.bad_text t re l given bad is) = short (omega (arith, one_step is))
  record_bounded once (RecordFault.in_a_list {g = g} t re l bad is) = in_record is (of_element _ _ g bad.5)
  record_bounded once (RecordFault.in_a_message t re l bad is) = below is (bounded once bad)
  record_bounded {o = o} once (RecordFault.in_a_value {k = k} {d = d} t re l bad is) =
      let more = a_step_more is in
      let plain = (bounded once bad).plainly (once (context_of o) d k re) in
      record { any = omega (arith, more, plain); plainly = λ h. absurd (h k d re) }

-- what is known of a fault where each message uses a level
mutual
  pub leveled :
      {S : Schema} {o : Open S.Context} {depth_left : ℕ} {p : Place} {f : Fault}
      → ((c : S.Context) → UsesLevels S.reading c) → Bad S o depth_left p f → length f.path ≤ depth_left + 1
  leveled uses (Bad.at_record w m goes bad) = record_leveled uses bad
  leveled uses (Bad.at_end is w m end e) = omega (arith, no_steps e)

  record_leveled :
      {S : Schema} {o : Open S.Context} {before : List Record} {depth_left : ℕ} {p : Place} {f : Fault}
      → ((c : S.Context) → UsesLevels S.reading c) → RecordFault S o before depth_left p f → length f.path ≤ depth_left + 1
  record_leveled uses (RecordFault.tag t) = omega (arith, of_tag t)
  record_leveled uses (RecordFault.group_too_deep t z is) = omega (arith, one_step is)
  record_leveled uses (RecordFault.message_too_deep t re z is) = omega (arith, one_step is)
  record_leveled uses (RecordFault.varint t v is) = omega (arith, a_step_more is, of_varint v)
  record_leveled uses (RecordFault.fixed64 t v is) = omega (arith, a_step_more is, of_fixed v)
  record_leveled uses (RecordFault.fixed32 t v is) = omega (arith, a_step_more is, of_fixed v)
  record_leveled uses (RecordFault.in_a_group t bad is) = omega (arith, a_step_more is, leveled uses bad)
  record_leveled uses (RecordFault.length_of t a v is) = omega (arith, a_step_more is, of_length v)
  record_leveled uses (RecordFault.cut_payload t re v is) = omega (arith, a_step_more is, no_steps v.fault_is)
  record_leveled uses (RecordFault.bad_text t re l given bad is) = omega (arith, one_step is)
  record_leveled uses (RecordFault.in_a_list {g = g} t re l bad is) = omega (arith, a_step_more is, of_element _ _ g bad.5)
  record_leveled uses (RecordFault.in_a_message t re l bad is) = omega (arith, a_step_more is, leveled uses bad)
  record_leveled {o = o} uses (RecordFault.in_a_value {k = k} {d = d} t re l bad is) = absurd (uses (context_of o) k d re)

-- the fault of a longer text leads no further than that of the bytes within the limit
beyond_path : (n : ℕ) (g : Fault) → length (beyond n g).path ≤ length g.path
beyond_path n g = by_cause g.cause
  where
    by_cause : (c : Cause) → length (beyond n (record g { cause = c })).path ≤ length g.path
    by_cause cause.Truncated = omega arith
    by_cause c = omega arith

-- a bound of the paths of texts within the limit is one of all texts
pub text_path :
    {S : Schema} {c : S.Context} {limits : Bounds} {b : List ℕ} {f : Fault} (most : ℕ)
    → ((p : Place) (g : Fault) → Bad S (records c) limits.depth p g → length g.path ≤ most) → HasFault S c limits b f → length f.path ≤ most
text_path most small (HasFault.bad within bad) = small _ _ bad
text_path {limits = limits} most small (HasFault.bad_front {g = g} past bad is) =
    let size = ap (λ (z : Fault). length z.path) is in
    omega (arith, size, beyond_path limits.bytes g, small _ _ bad)
text_path most small (HasFault.too_large past w is) = omega (arith, no_steps is)
