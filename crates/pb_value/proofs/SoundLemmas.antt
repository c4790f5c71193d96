-- What soundness says of a payload by how it is read, and how deep sound records nest.
use Rattle.std.proofs.Common.{◌≡◌, ℕ, suc, ◌≤◌, List, arith, refl, ap, ◌∙◌, subst}
use Rattle.std.specs.Prelude.{IsUtf8}
use Rattle.pb_wire.specs.Record.{Payload, len, group, Group, group_of, Record, depth, group_depth, records_depth}
use Rattle.pb_wire.specs.Spell.{AreRecords}
use Rattle.pb_wire.specs.Schema.{Schema, text, message, same_level}
use Rattle.pb_wire.specs.Sound.{Sound, AllSound}
use Rattle.pb_value.proofs.Views.{group_depth-group_of}

-- bytes spell records that are sound in a context
pub record SpellsSound (S : Schema) (d : S.Context) (depth_left : ℕ) (s : List ℕ) : Type 0 where
  pub records : List Record
  pub spelled : AreRecords records s
  pub sound : AllSound S d depth_left records

pub sound_text : {S : Schema} {c : S.Context} {depth_left k : ℕ} {s : List ℕ} → Sound S c depth_left k (len s) → S.reading c k ≡ text → IsUtf8 s
sound_text (Sound.some_bytes r) e = absurd (cc)
sound_text (Sound.a_text r h) e = h
sound_text (Sound.a_list r h) e = absurd (cc)
sound_text (Sound.a_message r h g) e = absurd (cc)
sound_text (Sound.a_value r h g) e = absurd (cc)

pub sound_message :
    {S : Schema} {c : S.Context} {depth_left k : ℕ} {s : List ℕ} → Sound S c depth_left k (len s) → (d : S.Context) → S.reading c k ≡ message d
    → (below : ℕ) × (depth_left ≡ suc below) × SpellsSound S d below s
sound_message (Sound.some_bytes r) d e = absurd (cc)
sound_message (Sound.a_text r h) d e = absurd (cc)
sound_message (Sound.a_list r h) d e = absurd (cc)
sound_message {S} (Sound.a_message {d = b} {depth_left = depth_left} {rs = rs} r h g) d e =
    let same : b ≡ d = cc in (depth_left, refl, record { records = rs; spelled = h; sound = subst (λ (x : S.Context). AllSound S x depth_left rs) same g })
sound_message (Sound.a_value r h g) d e = absurd (cc)

pub sound_value :
    {S : Schema} {c : S.Context} {depth_left k : ℕ} {s : List ℕ} → Sound S c depth_left k (len s) → (d : S.Context) → S.reading c k ≡ same_level d → SpellsSound S d depth_left s
sound_value (Sound.some_bytes r) d e = absurd (cc)
sound_value (Sound.a_text r h) d e = absurd (cc)
sound_value (Sound.a_list r h) d e = absurd (cc)
sound_value (Sound.a_message r h g) d e = absurd (cc)
sound_value {S} (Sound.a_value {d = b} {depth_left = depth_left} {rs = rs} r h g) d e =
    let same : b ≡ d = cc in record { records = rs; spelled = h; sound = subst (λ (x : S.Context). AllSound S x depth_left rs) same g }

-- of a group the records inside are sound, one level down
pub sound_inside :
    {S : Schema} {c : S.Context} {depth_left k : ℕ} {g : Group} → Sound S c depth_left k (group g)
    → (below : ℕ) × (depth_left ≡ suc below) × (rs : List Record) × (g ≡ group_of rs) × AllSound S (S.group_context c k) below rs
sound_inside (Sound.a_group {depth_left = depth_left} {rs = rs} e h) = (depth_left, refl, rs, e, h)

mutual
  pub sound_depth : {S : Schema} {c : S.Context} {depth_left k : ℕ} {p : Payload} → Sound S c depth_left k p → depth p ≤ depth_left
  sound_depth Sound.is_varint = omega arith
  sound_depth Sound.is_fixed64 = omega arith
  sound_depth Sound.is_fixed32 = omega arith
  sound_depth (Sound.some_bytes r) = omega arith
  sound_depth (Sound.a_text r h) = omega arith
  sound_depth (Sound.a_list r h) = omega arith
  sound_depth (Sound.a_message r h g) = omega arith
  sound_depth (Sound.a_value r h g) = omega arith
  sound_depth (Sound.a_group {g = g} {rs = rs} e h) =
      let same : group_depth g ≡ records_depth rs = ap group_depth e ∙ group_depth-group_of rs in
      let within = all_sound_depth h in omega (arith, same, within)

  pub all_sound_depth : {S : Schema} {c : S.Context} {depth_left : ℕ} {rs : List Record} → AllSound S c depth_left rs → records_depth rs ≤ depth_left
  all_sound_depth AllSound.none = omega arith
  all_sound_depth (AllSound.one x xs) = let here = sound_depth x in let more = all_sound_depth xs in omega (arith, here, more)
