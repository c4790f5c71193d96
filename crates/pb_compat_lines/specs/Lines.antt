-- The lines of a comparison of two pools. Each begins with a prefix.
use Rattle.std.specs.Prelude.{ℕ, zero, suc, List, [], ◌∷◌, ◌++◌, codes, Bool, false, ◌||◌, if◌then◌else◌, flat_map, is_none, Option, Some, None, slice_get}
use Rattle.std.specs.Str.{bytes_eq}
use Rattle.pb_schema.specs.Names.{message_names, name_at}
use Rattle.pb_schema.specs.Types.{FieldView, Types}
use Rattle.pb_compat.specs.Lines.{difference_text, field_at}
use Rattle.pb_compat.specs.Namesakes.{namesake}
use Rattle.pb_compat.specs.declared.difference.ComparedTypes.{ComparedTypes}
use Rattle.pb_compat.specs.declared.difference.Difference.{Difference}
use Rattle.pb_compat.specs.declared.difference.Step.{Step}

abbrev pub line_of : List ℕ → List ℕ → List ℕ
line_of prefix text = prefix ++ text ++ codes "\n"

-- PAIRS OF TWO NAMES

-- the full name of a field of the old pool that leads to a pair
abbrev pub field_lead : Types → ℕ → Option FieldView → List ℕ
field_lead old m None = []
field_lead old m (Some f) = name_at (message_names old) m ++ codes "." ++ f.name ++ codes ": "

abbrev pub pair_lead : Types → ℕ → Option ComparedTypes → List ℕ
pair_lead old k None = []
pair_lead old k (Some c) = field_lead old c.old.0 (field_at old c.old.0 k)

-- the field by which a pair was reached first; nothing where the comparison began
abbrev pub lead_text : Types → List ComparedTypes → Option Step → List ℕ
lead_text old cs None = []
lead_text old cs (Some s) = pair_lead old s.field (slice_get cs s.from)

-- Where the types of a pair have two full names: the field that leads there, and both names. Nothing where they have one name.
abbrev pub pair_note : Types → Types → List ComparedTypes → ComparedTypes → List ℕ
pair_note old new cs c =
    let from = name_at (message_names old) c.old.0 in
    let to = name_at (message_names new) c.new.0 in
    if bytes_eq from to then [] else codes " (" ++ lead_text old cs c.reached_by ++ from ++ codes " -> " ++ to ++ codes ")"

-- DIFFERENCES

abbrev pub difference_line : List ℕ → Types → Types → List ComparedTypes → ComparedTypes → Difference → List ℕ
difference_line prefix old new cs c d = line_of prefix (difference_text old new c.old.0 c.new.0 d ++ pair_note old new cs c)

-- of a pair of a comparison, by rising field number
abbrev pub types_lines : List ℕ → Types → Types → List ComparedTypes → ComparedTypes → List ℕ
types_lines prefix old new cs c = flat_map (difference_line prefix old new cs c) c.differences.items

-- of all pairs, in their order
abbrev pub compared_lines : List ℕ → Types → Types → List ComparedTypes → List ℕ
compared_lines prefix old new cs = flat_map (types_lines prefix old new cs) cs

-- TYPES THAT THE NEW POOL LACKS: it has none of this full name

abbrev pub lacks : Types → Types → ℕ → Bool
lacks old new m = is_none (namesake old new m)

abbrev pub missing_line : List ℕ → Types → ℕ → List ℕ
missing_line prefix old m = line_of prefix (name_at (message_names old) m ++ codes " breaks missing")

abbrev pub missing_at : List ℕ → Types → Types → ℕ → List ℕ
missing_at prefix old new m = if lacks old new m then missing_line prefix old m else []

-- those below an index, in the order of the old pool, and whether there is one
abbrev pub missing_below : List ℕ → Types → Types → ℕ → List ℕ
missing_below prefix old new zero = []
missing_below prefix old new (suc m) = missing_below prefix old new m ++ missing_at prefix old new m

abbrev pub lacks_below : Types → Types → ℕ → Bool
lacks_below old new zero = false
lacks_below old new (suc m) = lacks_below old new m || lacks old new m

-- WHERE THERE IS NOTHING TO REPORT

abbrev pub or_ok : List ℕ → List ℕ → List ℕ
or_ok prefix [] = line_of prefix (codes "ok")
or_ok prefix (b ∷ bs) = b ∷ bs
