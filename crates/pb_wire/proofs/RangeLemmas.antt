-- What bytes spell is in range, and can be written.
use Rattle.std.proofs.Common.{◌≡◌, ℕ, List, [], ◌∷◌, ◌++◌, subst}
use Rattle.pb_wire.specs.Record.{Payload, varint, fixed64, len, group, fixed32, Group, no_more, more, Record}
use Rattle.pb_wire.specs.Spell.{Body, SpellsGroup, AreRecords}
use Rattle.pb_wire.specs.Ranges.{AreBytes, IsInRange, IsInRangeGroup, AreInRange}
use Rattle.pb_wire.specs.Writable.{IsWritable, IsWritableGroup, AreWritable}

bytes_before : (a b : List ℕ) → AreBytes (a ++ b) → AreBytes a
bytes_before [] b h = tt
bytes_before (x ∷ a) b h = (h.0, bytes_before a b h.1)

bytes_after : (a b : List ℕ) → AreBytes (a ++ b) → AreBytes b
bytes_after [] b h = h
bytes_after (x ∷ a) b h = bytes_after a b h.1

-- both parts of bytes are bytes
parts : (a b s : List ℕ) → s ≡ a ++ b → AreBytes s → AreBytes a × AreBytes b
parts a b s e h = let whole : AreBytes (a ++ b) = subst AreBytes e h in (bytes_before a b whole, bytes_after a b whole)

mutual
  payload_in_range : (p : Payload) (k : ℕ) (b : List ℕ) → Body k p b → AreBytes b → IsInRange p
  payload_in_range (varint n) k b h bytes = h.0
  payload_in_range (fixed64 n) k b h bytes = h.0
  payload_in_range (len s) k b h bytes = (parts h.1 s b h.3 bytes).1
  payload_in_range (group g) k b h bytes = group_in_range g h.0 h.2 (parts h.0 h.1 b h.4 bytes).0
  payload_in_range (fixed32 n) k b h bytes = h.0

  group_in_range : (g : Group) (b : List ℕ) → SpellsGroup g b → AreBytes b → IsInRangeGroup g
  group_in_range no_more b h bytes = tt
  group_in_range (more k p g) b h bytes =
      let both = parts h.0 h.1 b h.4 bytes in
      (payload_in_range p k h.2.body h.2.follows (parts h.2.tag h.2.body h.0 h.2.joined both.0).1, group_in_range g h.1 h.3 both.1)

pub spelled_in_range : (rs : List Record) (b : List ℕ) → AreRecords rs b → AreBytes b → AreInRange rs
spelled_in_range [] b h bytes = tt
spelled_in_range (r ∷ rs) b h bytes =
    let both = parts h.0 h.1 b h.4 bytes in
    (payload_in_range r.payload r.number h.2.body h.2.follows (parts h.2.tag h.2.body h.0 h.2.joined both.0).1, spelled_in_range rs h.1 h.3 both.1)

mutual
  payload_writable : (p : Payload) (k : ℕ) (b : List ℕ) → Body k p b → IsWritable p
  payload_writable (varint n) k b h = tt
  payload_writable (fixed64 n) k b h = tt
  payload_writable (len s) k b h = h.0
  payload_writable (group g) k b h = group_writable g h.0 h.2
  payload_writable (fixed32 n) k b h = tt

  group_writable : (g : Group) (b : List ℕ) → SpellsGroup g b → IsWritableGroup g
  group_writable no_more b h = tt
  group_writable (more k p g) b h = (h.2.number, payload_writable p k h.2.body h.2.follows, group_writable g h.1 h.3)

pub spelled_writable : (rs : List Record) (b : List ℕ) → AreRecords rs b → AreWritable rs
spelled_writable [] b h = tt
spelled_writable (r ∷ rs) b h = (h.2.number, payload_writable r.payload r.number h.2.body h.2.follows, spelled_writable rs h.1 h.3)
