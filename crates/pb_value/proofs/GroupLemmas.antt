-- Records as the payload of a kind: after their length, or as a group.
use Rattle.std.proofs.Common.{◌≡◌, ℕ, List, [], ◌∷◌, refl, ap, Some}
use Rattle.pb_wire.specs.Record.{Record, group_of, records_in, wire_type}
use Rattle.pb_wire.specs.Ranges.{IsInRangeGroup, AreInRange}
use Rattle.pb_wire.specs.Inside.{records_inside}
use Rattle.pb_wire.proofs.InsideLemmas.{records_spelled-shortest}
use Rattle.pb_schema.specs.declared.types.Kind.{Kind}
use Rattle.pb_schema.specs.declared.types.Kind.TheVariants as kind
use Rattle.pb_schema.specs.Kinds.{wire_type_of, message_of_kind}
use Rattle.pb_value.specs.Canon.{wrapped}
use Rattle.pb_value.proofs.CanonLemmas.{AreGood}

pub records_in-group_of : (rs : List Record) → records_in (group_of rs) ≡ rs
records_in-group_of [] = refl
records_in-group_of (r ∷ rs) = ap (λ (l : List Record). r ∷ l) (records_in-group_of rs)

pub group_in_range : (rs : List Record) → IsInRangeGroup (group_of rs) → AreInRange rs
group_in_range [] h = tt
group_in_range (r ∷ rs) h = (h.0, group_in_range rs h.1)

pub wire_type-wrapped : (k : Kind) (m : ℕ) (rs : List Record) → message_of_kind k ≡ Some m → wire_type (wrapped k rs) ≡ wire_type_of k
wire_type-wrapped (kind.Message j) m rs e = refl
wire_type-wrapped (kind.Group j) m rs e = refl
wire_type-wrapped k m rs e = absurd (cc)

-- what was wrapped stands inside
pub inside-wrapped : (k : Kind) (m : ℕ) (rs : List Record) → message_of_kind k ≡ Some m → AreGood rs → records_inside (wrapped k rs) ≡ rs
inside-wrapped (kind.Message j) m rs e g = records_spelled-shortest rs g.in_range g.numbered
inside-wrapped (kind.Group j) m rs e g = records_in-group_of rs
inside-wrapped k m rs e g = absurd (cc)
