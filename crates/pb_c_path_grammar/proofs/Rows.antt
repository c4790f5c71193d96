-- Examples that pin the definitions, each worked by hand.
use Rattle.std.proofs.Common.{◌≡◌, ℕ, List, [], ◌∷◌, Some, None, Err, true, false, inl, refl, arith, codes}
use lib.Utf8.{encode}
use Rattle.std.specs.Prelude.{pos, negsuc, FitsSigned, ◌++◌, ◌<◌, ◌^◌}
use Rattle.std.specs.Int.{w32}
use Rattle.pb_c_paths.specs.Reading.{is_many}
use Rattle.std.specs.Fmt.{digits}
use Rattle.std.specs.Str.{chars, is_utf8}
use Rattle.pb_schema.specs.Types.{FieldView, Types}
use Rattle.pb_schema.specs.declared.types.Kind.{Kind}
use Rattle.pb_schema.specs.declared.types.Kind.TheVariants as kind
use Rattle.pb_schema.specs.declared.types.Shape.TheVariants as shape
use Rattle.pb_schema.specs.Scalar.{int32, int64, uint32, uint64, boolean, text}
use Rattle.pb_c_message.specs.Places.{Step, field, index, key}
use Rattle.pb_c_path_grammar.specs.Grammar.{Names, SpellsInside, SpellsNumber, SpellsPart, SpellsParts, SpellsPath, SpellsString, all, by_digits, escaped, in_brackets, inside, itself, last, minus, nothing, one, one_of_many, parts, plain_steps, spelled}
use Rattle.pb_c_paths.specs.Path.{path_read, plain}
use Rattle.pb_c_paths.specs.declared.unread.Unread.TheVariants.{NoField, NoPath}

-- message M { int32 id = 1; M in = 3; repeated M l = 4; map<string, int32> s = 5; map<sint32, M> i = 6; map<bool, M> b = 7; map<uint32, M> n = 8; }
abbrev own : Kind
own = kind.Message (record { 0 = 0 })

abbrev id_field : FieldView
id_field = record { name = codes "id"; number = 1; kind = kind.Int32; shape = shape.Implicit }

abbrev in_field : FieldView
in_field = record { name = codes "in"; number = 3; kind = own; shape = shape.Explicit }

abbrev list_field : FieldView
list_field = record { name = codes "l"; number = 4; kind = own; shape = shape.List false }

abbrev string_field : FieldView
string_field = record { name = codes "s"; number = 5; kind = kind.Int32; shape = shape.Map kind.Text }

abbrev integer_field : FieldView
integer_field = record { name = codes "i"; number = 6; kind = own; shape = shape.Map kind.Sint32 }

abbrev bool_field : FieldView
bool_field = record { name = codes "b"; number = 7; kind = own; shape = shape.Map kind.Bool }

abbrev natural_field : FieldView
natural_field = record { name = codes "n"; number = 8; kind = own; shape = shape.Map kind.Uint32 }

abbrev sample : Types
sample = record {
  files = [];
  messages =
      record {
        name = codes "M";
        file = 0;
        parent = None;
        fields = id_field ∷ in_field ∷ list_field ∷ string_field ∷ integer_field ∷ bool_field ∷ natural_field ∷ [];
        oneofs = [];
      }
      ∷ [];
  enums = [];
}

-- a name and brackets, a name of one value, and a part before a dot
bracket : (w s : List ℕ) (f : FieldView) (t : Step) → Names sample 0 w f → SpellsInside f.shape s t → SpellsPart sample 0 (w ++ in_brackets s) (field f.number ∷ t ∷ []) f.kind
bracket w s f t name is = one_of_many s t name is

single : (w : List ℕ) (f : FieldView) → Names sample 0 w f → is_many f.shape ≡ false → SpellsPart sample 0 w (field f.number ∷ []) f.kind
single w f name is = one name is

before : (p q : List ℕ) (ss ts : List Step) → SpellsPart sample 0 p ss own → SpellsParts sample 0 q ts → SpellsParts sample 0 (p ++ (46 ∷ q)) (ss ++ ts)
before p q ss ts part rest = inside part refl rest

two : SpellsNumber (codes "02") 2
two = ((omega arith, (omega arith, (omega arith, tt))), refl)

seven : SpellsNumber (codes "7") 7
seven = ((omega arith, (omega arith, tt)), refl)

-- l[02].in.id
list_row : SpellsPath sample 0 (codes "l[02].in.id") (field 4 ∷ index 2 ∷ field 3 ∷ field 1 ∷ [])
list_row =
    parts (before (codes "l[02]") (codes "in.id") (field 4 ∷ index 2 ∷ []) (field 3 ∷ field 1 ∷ [])
    (bracket (codes "l") (codes "02") list_field (index 2) (record { word = refl; found = refl }) (2, refl, two, omega arith))
    (before (codes "in") (codes "id") (field 3 ∷ []) (field 1 ∷ []) (single (codes "in") in_field (record { word = refl; found = refl }) refl)
    (last (single (codes "id") id_field (record { word = refl; found = refl }) refl))))

-- s["a\"\x4A"]
string_row : SpellsPath sample 0 (codes "s[\"a\\\"\\x4A\"]") (field 5 ∷ key (text (codes "a\"J")) ∷ [])
string_row =
    let is : SpellsString (codes "a\\\"\\x4A") (codes "a\"J") =
    itself (λ e. omega (arith, e)) (λ e. omega (arith, e)) (escaped (inl refl) (by_digits refl refl nothing)) in
    parts (last (bracket (codes "s") (codes "\"a\\\"\\x4A\"") string_field (key (text (codes "a\"J"))) (record { word = refl; found = refl })
    (text (codes "a\"J"), refl, (codes "a\\\"\\x4A", codes "a\"J", refl, is, refl))))

-- i[-7].l
key_row : SpellsPath sample 0 (codes "i[-7].l") (field 6 ∷ key (int32 (negsuc 6)) ∷ field 4 ∷ [])
key_row =
    let fits : FitsSigned w32 (negsuc 6) = let small : 6 < 2 ^ 31 = omega arith in record { sfits = small } in
    parts (before (codes "i[-7]") (codes "l") (field 6 ∷ key (int32 (negsuc 6)) ∷ []) (field 4 ∷ [])
    (bracket (codes "i") (codes "-7") integer_field (key (int32 (negsuc 6))) (record { word = refl; found = refl })
    (int32 (negsuc 6), refl, (negsuc 6, refl, minus seven, fits)))
    (all {f = list_field} (record { word = refl; found = refl }) refl))

true_row : SpellsPath sample 0 (codes "b[true]") (field 7 ∷ key (boolean true) ∷ [])
true_row =
    parts (last (bracket (codes "b") (codes "true") bool_field (key (boolean true)) (record { word = refl; found = refl })
    (boolean true, refl, inl (refl, refl))))

-- the steps of C: strings by their index
plain_row : plain_steps 0 (field 5 ∷ key (text (codes "a")) ∷ key (text []) ∷ key (int32 (negsuc 0)) ∷ key (boolean true) ∷ key (uint32 7) ∷ key (uint64 8) ∷ key (int64 (pos 9)) ∷ index 2 ∷ [])
    ≡ plain 21 5 ∷ plain 9 0 ∷ plain 9 1 ∷ plain 5 18_446_744_073_709_551_615 ∷ plain 8 1 ∷ plain 13 7 ∷ plain 4 8 ∷ plain 3 9 ∷ plain 22 2 ∷ []
plain_row = refl

spelled_row : (spelled sample 0 (field 4 ∷ index 12 ∷ field 5 ∷ key (text (codes "a\\\"")) ∷ []) ≡ Some (codes "l[12].s[\"a\\\\\\\"\"]"))
    × (spelled sample 0 (field 6 ∷ key (int32 (negsuc 6)) ∷ field 7 ∷ key (boolean false) ∷ field 8 ∷ key (uint32 5) ∷ field 3 ∷ []) ≡ Some (codes "i[-7].b[false].n[5].in"))
    × (spelled sample 0 (field 2 ∷ []) ≡ None) × (spelled sample 0 [] ≡ Some [])
unfolding digits
spelled_row = (refl, refl, refl, refl)

-- where paths are refused
refused_row : (path_read sample 0 (codes "l[2]x") ≡ Err (NoPath 4)) × (path_read sample 0 (codes "l.id") ≡ Err (NoPath 1)) × (path_read sample 0 (codes "id.x") ≡ Err (NoPath 2))
    × (path_read sample 0 (codes "in.no") ≡ Err (NoField 3)) × (path_read sample 0 (codes "l[]") ≡ Err (NoPath 2)) × (path_read sample 0 (codes "l[-1]") ≡ Err (NoPath 2))
    × (path_read sample 0 (codes "s[a]") ≡ Err (NoPath 2)) × (path_read sample 0 (codes "s[\"\\q\"]") ≡ Err (NoPath 4)) × (path_read sample 0 (codes "n[-1]") ≡ Err (NoPath 2))
unfolding is_utf8 chars encode
refused_row = (refl, refl, refl, refl, refl, refl, refl, refl, refl)

-- the ends of keys and indexes
limits_row : (path_read sample 0 (codes "i[2147483648]") ≡ Err (NoPath 2)) × (path_read sample 0 (codes "i[-2147483649]") ≡ Err (NoPath 2))
    × (path_read sample 0 (codes "n[4294967296]") ≡ Err (NoPath 2)) × (path_read sample 0 (codes "l[18446744073709551616]") ≡ Err (NoPath 2))
unfolding is_utf8 chars encode
limits_row = (refl, refl, refl, refl)
