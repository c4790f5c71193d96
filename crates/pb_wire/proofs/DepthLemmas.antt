-- Where no field is known, records are sound exactly where they nest no deeper than the levels left.
use Rattle.std.proofs.Common.{◌≡◌, ℕ, zero, suc, ◌≤◌, List, [], ◌∷◌, refl, ap, arith}
use Rattle.pb_wire.specs.Record.{Payload, varint, fixed64, len, group, fixed32, Group, no_more, more, Record, group_of, records_in, depth, group_depth, records_depth}
use Rattle.pb_wire.specs.Schema.{blank}
use Rattle.pb_wire.specs.Sound.{Sound, AllSound, is_varint, is_fixed64, is_fixed32, some_bytes, a_text, a_list, a_message, a_value, a_group, none, one}

group_of-records_in : (g : Group) → g ≡ group_of (records_in g)
group_of-records_in no_more = refl
group_of-records_in (more k p g) = ap (λ (h : Group). more k p h) (group_of-records_in g)

mutual
  sound_payload : (p : Payload) (k depth_left : ℕ) → depth p ≤ depth_left → Sound blank tt depth_left k p
  sound_payload (varint n) k depth_left h = Sound.is_varint
  sound_payload (fixed64 n) k depth_left h = Sound.is_fixed64
  sound_payload (len s) k depth_left h = Sound.some_bytes refl
  sound_payload (group g) k zero h = absurd (omega arith)
  sound_payload (group g) k (suc depth_left) h = Sound.a_group (group_of-records_in g) (sound_group g depth_left (omega arith))
  sound_payload (fixed32 n) k depth_left h = Sound.is_fixed32

  sound_group : (g : Group) (depth_left : ℕ) → group_depth g ≤ depth_left → AllSound blank tt depth_left (records_in g)
  sound_group no_more depth_left h = AllSound.none
  sound_group (more k p g) depth_left h = AllSound.one (sound_payload p k depth_left (omega arith)) (sound_group g depth_left (omega arith))

pub sound_records : (rs : List Record) (depth_left : ℕ) → records_depth rs ≤ depth_left → AllSound blank tt depth_left rs
sound_records [] depth_left h = AllSound.none
sound_records (r ∷ rs) depth_left h = AllSound.one (sound_payload r.payload r.number depth_left (omega arith)) (sound_records rs depth_left (omega arith))

pub group_records_sound : (rs : List Record) (depth_left : ℕ) → group_depth (group_of rs) ≤ depth_left → AllSound blank tt depth_left rs
group_records_sound [] depth_left h = AllSound.none
group_records_sound (r ∷ rs) depth_left h = AllSound.one (sound_payload r.payload r.number depth_left (omega arith)) (group_records_sound rs depth_left (omega arith))

mutual
  pub sound_depth : {depth_left k : ℕ} {p : Payload} → Sound blank tt depth_left k p → depth p ≤ depth_left
  sound_depth is_varint = omega arith
  sound_depth is_fixed64 = omega arith
  sound_depth is_fixed32 = omega arith
  sound_depth (some_bytes e) = omega arith
  sound_depth (a_text e u) = omega arith
  sound_depth (a_list e l) = omega arith
  sound_depth (a_message e r s) = omega arith
  sound_depth (a_value e r s) = omega arith
  sound_depth (a_group e s) = let inner = group_sound_depth s in rw e (omega arith)

  pub group_sound_depth : {depth_left : ℕ} {rs : List Record} → AllSound blank tt depth_left rs → group_depth (group_of rs) ≤ depth_left
  group_sound_depth none = omega arith
  group_sound_depth (one s others) = let first = sound_depth s in let rest = group_sound_depth others in omega arith

pub records_sound_depth : {depth_left : ℕ} {rs : List Record} → AllSound blank tt depth_left rs → records_depth rs ≤ depth_left
records_sound_depth none = omega arith
records_sound_depth (one s others) = let first = sound_depth s in let rest = records_sound_depth others in omega arith

-- what is sound stays so with more levels left
pub sound_higher : {depth_left : ℕ} {rs : List Record} (higher : ℕ) → depth_left ≤ higher → AllSound blank tt depth_left rs → AllSound blank tt higher rs
sound_higher {rs = rs} higher h sound = let low = records_sound_depth sound in sound_records rs higher (omega arith)
