-- Which records are sound by themselves, in a context with this many levels left.
use Rattle.std.specs.Prelude.{◌≡◌, ℕ, suc, List, [], ◌∷◌, ◌++◌, length, IsUtf8}
use Rattle.pb_wire.specs.Varint.{IsVarint}
use Rattle.pb_wire.specs.Record.{Payload, varint, fixed64, len, group, fixed32, Group, group_of, Record}
use Rattle.pb_wire.specs.Spell.{AreRecords}
use Rattle.pb_wire.specs.Schema.{Schema, Element, a_varint, four_bytes, eight_bytes, unread, text, message, same_level, packed}

-- s is one element
pub data IsElement : Element → List ℕ → Type 0 where
  varint_element : {n : ℕ} {s : List ℕ} → IsVarint n s → IsElement a_varint s
  four_element : {s : List ℕ} → length s ≡ 4 → IsElement four_bytes s
  eight_element : {s : List ℕ} → length s ≡ 8 → IsElement eight_bytes s

-- s is whole elements, one after another
pub data AreElements (e : Element) : List ℕ → Type 0 where
  no_elements : AreElements e []
  element : {first others s : List ℕ} → IsElement e first → AreElements e others → s ≡ first ++ others → AreElements e s

mutual
  pub data Sound (S : Schema) : S.Context → ℕ → ℕ → Payload → Type 0 where
    is_varint : {c : S.Context} {depth_left k n : ℕ} → Sound S c depth_left k (varint n)
    is_fixed64 : {c : S.Context} {depth_left k n : ℕ} → Sound S c depth_left k (fixed64 n)
    is_fixed32 : {c : S.Context} {depth_left k n : ℕ} → Sound S c depth_left k (fixed32 n)
    some_bytes : {c : S.Context} {depth_left k : ℕ} {s : List ℕ} → S.reading c k ≡ unread → Sound S c depth_left k (len s)
    a_text : {c : S.Context} {depth_left k : ℕ} {s : List ℕ} → S.reading c k ≡ text → IsUtf8 s → Sound S c depth_left k (len s)
    a_list : {c : S.Context} {depth_left k : ℕ} {s : List ℕ} {e : Element} → S.reading c k ≡ packed e → AreElements e s → Sound S c depth_left k (len s)
    a_message :
        {c d : S.Context} {depth_left k : ℕ} {s : List ℕ} {rs : List Record}
        → S.reading c k ≡ message d → AreRecords rs s → AllSound S d depth_left rs → Sound S c (suc depth_left) k (len s)
    a_value :
        {c d : S.Context} {depth_left k : ℕ} {s : List ℕ} {rs : List Record}
        → S.reading c k ≡ same_level d → AreRecords rs s → AllSound S d depth_left rs → Sound S c depth_left k (len s)
    a_group :
        {c : S.Context} {depth_left k : ℕ} {g : Group} {rs : List Record}
        → g ≡ group_of rs → AllSound S (S.group_context c k) depth_left rs → Sound S c (suc depth_left) k (group g)

  -- each of the records is sound
  pub data AllSound (S : Schema) : S.Context → ℕ → List Record → Type 0 where
    none : {c : S.Context} {depth_left : ℕ} → AllSound S c depth_left []
    one : {c : S.Context} {depth_left : ℕ} {r : Record} {rs : List Record} → Sound S c depth_left r.number r.payload → AllSound S c depth_left rs → AllSound S c depth_left (r ∷ rs)
