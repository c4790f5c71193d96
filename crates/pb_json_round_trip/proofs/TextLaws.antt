-- The text that a JSON value is written as is a text of JSON, and of this value.
use Rattle.std.proofs.Common.{◌≡◌, ℕ, zero, suc, ◌+◌, ◌*◌, ◌<◌, ◌≤◌, Bool, true, false, List, [], ◌∷◌, ◌++◌, length, IsUtf8, refl, sym, ◌∙◌, subst, arith, append_assoc, append-nil, length-append, codes, replicate, ℤ}
use Rattle.std.specs.Prelude.{unsigned_abs}
use Rattle.std.specs.List.{flat_map}
use Rattle.std.proofs.lemmas.Str.{IsUtf8-append, IsUtf8-nil}
use Rattle.pb_json.specs.declared.form.Layout.{Layout}
use Rattle.pb_json.specs.declared.form.Layout.TheVariants.{Compact, Indented}
use Rattle.pb_json.specs.Json as written
use Rattle.pb_json.specs.JsonText.{IsJsonText, AreElements, AreMembers, bool_text, closing_line, colon, in_quotes, member_start, new_line, separator, string_byte, string_text}
use Rattle.pb_json_text.specs.Json as read
use Rattle.pb_json_text.specs.Grammar as grammar
use Rattle.pb_json_text.specs.Grammar.{AreBlanks, Blanks, IsString, IsValue, Place, Spells}
use Rattle.pb_json_text.specs.Texts.{IsJson}
use Rattle.pb_json_round_trip.specs.Texts.{AreJsonElements, AreJsonMembers, IsJsonValue, Means, MeanElements, MeanMembers, elements_depth, json_depth, members_depth}
use Rattle.pb_json_round_trip.proofs.CharacterLaws.{ascii_utf8, byte_utf8, plain_characters, plain_utf8, string_characters, string_utf8}
use Rattle.pb_json_round_trip.proofs.NumberTexts.{instant_nanos, instant_plain, number_utf8, real_number}

-- ---- places

record Between (a b : List ℕ) (here after : Place) : Type 0 where
  at : Place
  before : Spells a here at
  rest : Spells b at after

between : (a b : List ℕ) (here after : Place) → Spells (a ++ b) here after → Between a b here after
between a b here after (e, n) = record {
  at = (here.0 + length a, b ++ after.1);
  before = (e ∙ append_assoc a b after.1, refl);
  rest = (refl, omega (arith, n, length-append a b));
}

spelled : (s t : List ℕ) (here after : Place) → s ≡ t → Spells s here after → Spells t here after
spelled s t here after e h = subst (λ (l : List ℕ). Spells l here after) e h

no_blanks : (here : Place) → Blanks here here
no_blanks here = ([], (refl, omega arith), tt)

all_blanks : (n : ℕ) → AreBlanks (replicate n 32)
all_blanks zero = tt
all_blanks (suc n) = (refl, all_blanks n)

one_more : (d levels : ℕ) → suc d ≤ levels → (m : ℕ) × (levels ≡ suc m) × (d ≤ m)
one_more d zero deep = absurd (omega arith)
one_more d (suc m) deep = (m, refl, omega arith)

module _ (layout : Layout) where
  line_blanks : (indent : ℕ) → AreBlanks (new_line layout indent)
  line_blanks indent = by_layout layout
    where
      by_layout : (l : Layout) → AreBlanks (new_line l indent)
      by_layout Compact = tt
      by_layout Indented = (refl, all_blanks (2 * indent))

  line : (indent : ℕ) (here after : Place) → Spells (new_line layout indent) here after → Blanks here after
  line indent here after h = (new_line layout indent, h, line_blanks indent)

  -- the colon, and blanks after it
  record AfterColon (here after : Place) : Type 0 where
    at : Place
    colon_is : Spells (codes ":") here at
    blanks : Blanks at after

  after_colon : (here after : Place) → Spells (colon layout) here after → AfterColon here after
  after_colon here after h = by_layout layout h
    where
      by_layout : (l : Layout) → Spells (colon l) here after → AfterColon here after
      by_layout Compact h = record { at = after; colon_is = h; blanks = no_blanks after }
      by_layout Indented h =
          let b = between (codes ":") (codes " ") here after h in
          record { at = b.at; colon_is = b.before; blanks = (codes " ", b.rest, (refl, tt)) }

  string_is : (s : List ℕ) (here after : Place) → Spells (string_text s) here after → IsString s here after
  string_is s here after h = (flat_map string_byte s, h, string_characters s)

  -- ---- the value that is read
  record Value (levels : ℕ) (j : written.Json) (here after : Place) : Type 0 where
    value : read.Json
    is : IsValue levels value here after
    means : Means j value

  -- what follows an element: blanks, and then other elements up to the bracket
  record MoreElements (levels : ℕ) (js : written.Elements) (here after : Place) : Type 0 where
    elements : read.Elements
    at : Place
    blanks : Blanks here at
    are : grammar.AreMoreElements levels elements at after
    means : MeanElements js elements

  record MoreMembers (levels : ℕ) (ms : written.Members) (here after : Place) : Type 0 where
    members : read.Members
    at : Place
    blanks : Blanks here at
    are : grammar.AreMoreMembers levels members at after
    means : MeanMembers ms members

  instant_value : (levels : ℕ) (z n : ℤ) (s : List ℕ) → IsJsonText layout 0 (written.instant z n) s → IsJsonValue (written.instant z n)
      → (here after : Place) → Spells s here after → Value levels (written.instant z n) here after
  instant_value levels z n s (t, e, is) fits here after h =
      let nanos = instant_nanos z n fits in
      let plain = instant_plain z (unsigned_abs n) t (subst (λ (k : ℤ). unsigned_abs k < 1_000_000_000) (sym nanos.1) nanos.2) is in
      record { value = read.string t; is = (t, spelled s (in_quotes t) here after e h, plain_characters t plain); means = (t, refl, is) }

  mutual
    value : (levels indent : ℕ) (j : written.Json) (s : List ℕ) → IsJsonText layout indent j s → IsJsonValue j → json_depth j ≤ levels → (here after : Place) → Spells s here after
        → Value levels j here after
    value levels indent written.null s e fits deep here after h = record { value = read.null; is = spelled s (codes "null") here after e h; means = refl }
    value levels indent (written.truth b) s e fits deep here after h =
        record { value = read.boolean b; is = spelled s (grammar.bool_word b) here after (e ∙ same_word b) h; means = refl }
      where
        same_word : (b : Bool) → bool_text b ≡ grammar.bool_word b
        same_word true = refl
        same_word false = refl
    value levels indent (written.number d) s e fits deep here after h =
        record { value = read.number d; is = (spelled s d here after e h, fits); means = refl }
    value levels indent (written.real f x) s (plain, parses, short) fits deep here after h =
        record { value = read.number s; is = (h, real_number s plain); means = (s, refl, plain, parses) }
    value levels indent (written.plain c) s e fits deep here after h =
        record { value = read.string c; is = (c, spelled s (in_quotes c) here after e h, plain_characters c fits); means = refl }
    value levels indent (written.string c) s e fits deep here after h =
        record { value = read.string c; is = string_is c here after (spelled s (string_text c) here after e h); means = refl }
    value levels indent (written.instant z n) s text fits deep here after h = instant_value levels z n s text fits here after h
    value levels indent (written.array js) s (rest, e, are) fits deep here after h =
        let b = between (codes "[") rest here after (spelled s (codes "[" ++ rest) here after e h) in
        let l = one_more (elements_depth js) levels deep in
        let k = elements l.0 indent js rest are fits l.2 b.at after b.rest in
        record { value = read.array k.0; is = (l.0, b.at, l.1, b.before, k.1); means = (k.0, refl, k.2) }
    value levels indent (written.object ms) s (rest, e, are) fits deep here after h =
        let b = between (codes "{") rest here after (spelled s (codes "{" ++ rest) here after e h) in
        let l = one_more (members_depth ms) levels deep in
        let k = members l.0 indent ms rest are fits l.2 b.at after b.rest in
        record { value = read.object k.0; is = (l.0, b.at, l.1, b.before, k.1); means = (k.0, refl, k.2) }

    elements : (m indent : ℕ) (js : written.Elements) (s : List ℕ) → AreElements layout indent true js s → AreJsonElements js → elements_depth js ≤ m → (here after : Place) → Spells s here after
        → (rs : read.Elements) × grammar.AreElements m rs here after × MeanElements js rs
    elements m indent written.no_elements s e fits deep here after h =
        (read.no_elements, (here, no_blanks here, spelled s (codes "]") here after e h), refl)
    elements m indent (written.element j js) s (one, rest, e, text, are) fits deep here after h =
        let b = between (new_line layout (indent + 1) ++ one) rest here after (spelled s ((new_line layout (indent + 1) ++ one) ++ rest) here after e h) in
        let c = between (new_line layout (indent + 1)) one here b.at b.before in
        let v = value m (indent + 1) j one text fits.0 (omega arith) c.at b.at c.rest in
        let k = more_elements m indent js rest are fits.1 (omega arith) b.at after b.rest in (
          read.element c.at.0 v.value k.elements,
          (k.at, (c.at, b.at, line (indent + 1) here c.at c.before, (refl, v.is), k.blanks), k.are),
          (c.at.0, v.value, k.elements, refl, v.means, k.means),
        )

    more_elements : (m indent : ℕ) (js : written.Elements) (s : List ℕ) → AreElements layout indent false js s → AreJsonElements js → elements_depth js ≤ m → (here after : Place)
        → Spells s here after → MoreElements m js here after
    more_elements m indent written.no_elements s e fits deep here after h =
        let b = between (new_line layout indent) (codes "]") here after (spelled s (new_line layout indent ++ codes "]") here after e h) in
        record { elements = read.no_elements; at = b.at; blanks = line indent here b.at b.before; are = b.rest; means = refl }
    more_elements m indent (written.element j js) s (one, rest, e, text, are) fits deep here after h =
        let b = between ((codes "," ++ new_line layout (indent + 1)) ++ one) rest here after
        (spelled s (((codes "," ++ new_line layout (indent + 1)) ++ one) ++ rest) here after e h) in
        let c = between (codes "," ++ new_line layout (indent + 1)) one here b.at b.before in
        let d = between (codes ",") (new_line layout (indent + 1)) here c.at c.before in
        let v = value m (indent + 1) j one text fits.0 (omega arith) c.at b.at c.rest in
        let k = more_elements m indent js rest are fits.1 (omega arith) b.at after b.rest in
        record {
          elements = read.element c.at.0 v.value k.elements;
          at = here;
          blanks = no_blanks here;
          are = (d.at, k.at, d.before, (c.at, b.at, line (indent + 1) d.at c.at d.rest, (refl, v.is), k.blanks), k.are);
          means = (c.at.0, v.value, k.elements, refl, v.means, k.means);
        }

    members : (m indent : ℕ) (ms : written.Members) (s : List ℕ) → AreMembers layout indent true ms s → AreJsonMembers ms → members_depth ms ≤ m → (here after : Place) → Spells s here after
        → (rs : read.Members) × grammar.AreMembers m rs here after × MeanMembers ms rs
    members m indent written.no_members s e fits deep here after h =
        (read.no_members, (here, no_blanks here, spelled s (codes "}") here after e h), refl)
    members m indent (written.member name j ms) s (one, rest, e, text, are) fits deep here after h =
        let b = between (member_start layout (indent + 1) true name ++ one) rest here after
        (spelled s ((member_start layout (indent + 1) true name ++ one) ++ rest) here after e h) in
        let c = between (member_start layout (indent + 1) true name) one here b.at b.before in
        let d = between (new_line layout (indent + 1) ++ string_text name) (colon layout) here c.at c.before in
        let f = between (new_line layout (indent + 1)) (string_text name) here d.at d.before in
        let g = after_colon d.at c.at d.rest in
        let v = value m (indent + 1) j one text fits.1 (omega arith) c.at b.at c.rest in
        let k = more_members m indent ms rest are fits.2 (omega arith) b.at after b.rest in (
          read.member f.at.0 name c.at.0 v.value k.members,
          (
            d.at,
            g.at,
            k.at,
            (f.at, d.at, line (indent + 1) here f.at f.before, (refl, string_is name f.at d.at f.rest), no_blanks d.at),
            g.colon_is,
            (c.at, b.at, g.blanks, (refl, v.is), k.blanks),
            k.are,
          ),
          (f.at.0, c.at.0, v.value, k.members, refl, v.means, k.means),
        )

    more_members : (m indent : ℕ) (ms : written.Members) (s : List ℕ) → AreMembers layout indent false ms s → AreJsonMembers ms → members_depth ms ≤ m → (here after : Place)
        → Spells s here after → MoreMembers m ms here after
    more_members m indent written.no_members s e fits deep here after h =
        let b = between (new_line layout indent) (codes "}") here after (spelled s (new_line layout indent ++ codes "}") here after e h) in
        record { members = read.no_members; at = b.at; blanks = line indent here b.at b.before; are = b.rest; means = refl }
    more_members m indent (written.member name j ms) s (one, rest, e, text, are) fits deep here after h =
        let b = between (member_start layout (indent + 1) false name ++ one) rest here after
        (spelled s ((member_start layout (indent + 1) false name ++ one) ++ rest) here after e h) in
        let c = between (member_start layout (indent + 1) false name) one here b.at b.before in
        let d = between ((codes "," ++ new_line layout (indent + 1)) ++ string_text name) (colon layout) here c.at c.before in
        let f = between (codes "," ++ new_line layout (indent + 1)) (string_text name) here d.at d.before in
        let l = between (codes ",") (new_line layout (indent + 1)) here f.at f.before in
        let g = after_colon d.at c.at d.rest in
        let v = value m (indent + 1) j one text fits.1 (omega arith) c.at b.at c.rest in
        let k = more_members m indent ms rest are fits.2 (omega arith) b.at after b.rest in
        record {
          members = read.member f.at.0 name c.at.0 v.value k.members;
          at = here;
          blanks = no_blanks here;
          are = (
            l.at,
            d.at,
            g.at,
            k.at,
            l.before,
            (f.at, d.at, line (indent + 1) l.at f.at l.rest, (refl, string_is name f.at d.at f.rest), no_blanks d.at),
            g.colon_is,
            (c.at, b.at, g.blanks, (refl, v.is), k.blanks),
            k.are,
          );
          means = (f.at.0, c.at.0, v.value, k.members, refl, v.means, k.means);
        }

  -- ---- UTF-8

  quotes_utf8 : (s : List ℕ) → IsUtf8 s → IsUtf8 (in_quotes s)
  quotes_utf8 s u = IsUtf8-append (34 ∷ s) (codes "\"") (byte_utf8 34 s (omega arith) u) (ascii_utf8 (codes "\"") refl)

  line_utf8 : (indent : ℕ) → IsUtf8 (new_line layout indent)
  line_utf8 indent = by_layout layout
    where
      blanks_utf8 : (n : ℕ) → IsUtf8 (replicate n 32)
      blanks_utf8 zero = IsUtf8-nil
      blanks_utf8 (suc n) = byte_utf8 32 (replicate n 32) (omega arith) (blanks_utf8 n)

      by_layout : (l : Layout) → IsUtf8 (new_line l indent)
      by_layout Compact = IsUtf8-nil
      by_layout Indented = byte_utf8 10 (replicate (2 * indent) 32) (omega arith) (blanks_utf8 (2 * indent))

  closing_utf8 : (indent : ℕ) (is_first : Bool) → IsUtf8 (closing_line layout indent is_first)
  closing_utf8 indent true = IsUtf8-nil
  closing_utf8 indent false = line_utf8 indent

  separator_utf8 : (is_first : Bool) → IsUtf8 (separator is_first)
  separator_utf8 true = IsUtf8-nil
  separator_utf8 false = ascii_utf8 (codes ",") refl

  colon_utf8 : IsUtf8 (colon layout)
  colon_utf8 = by_layout layout
    where
      by_layout : (l : Layout) → IsUtf8 (colon l)
      by_layout Compact = ascii_utf8 (codes ":") refl
      by_layout Indented = ascii_utf8 (codes ": ") refl

  start_utf8 : (indent : ℕ) (is_first : Bool) (name : List ℕ) → IsUtf8 name → IsUtf8 (member_start layout indent is_first name)
  start_utf8 indent is_first name u =
      IsUtf8-append _ (colon layout)
      (IsUtf8-append _ (string_text name) (IsUtf8-append (separator is_first) (new_line layout indent) (separator_utf8 is_first) (line_utf8 indent))
      (quotes_utf8 (flat_map string_byte name) (string_utf8 name u))) colon_utf8

  bool_utf8 : (b : Bool) → IsUtf8 (bool_text b)
  bool_utf8 true = ascii_utf8 (codes "true") refl
  bool_utf8 false = ascii_utf8 (codes "false") refl

  mutual
    value_utf8 : (indent : ℕ) (j : written.Json) (s : List ℕ) → IsJsonText layout indent j s → IsJsonValue j → IsUtf8 s
    value_utf8 indent written.null s e fits = rw e (ascii_utf8 (codes "null") refl)
    value_utf8 indent (written.truth b) s e fits = rw e (bool_utf8 b)
    value_utf8 indent (written.number d) s e fits = rw e (number_utf8 d fits)
    value_utf8 indent (written.real f x) s (plain, parses, short) fits = number_utf8 s (real_number s plain)
    value_utf8 indent (written.plain c) s e fits = subst IsUtf8 (sym e) (quotes_utf8 c (plain_utf8 c fits))
    value_utf8 indent (written.string c) s e fits = subst IsUtf8 (sym e) (quotes_utf8 (flat_map string_byte c) (string_utf8 c fits))
    value_utf8 indent (written.instant z n) s (t, e, is) fits =
        let nanos = instant_nanos z n fits in
        let plain = instant_plain z (unsigned_abs n) t (subst (λ (k : ℤ). unsigned_abs k < 1_000_000_000) (sym nanos.1) nanos.2) is in
        subst IsUtf8 (sym e) (quotes_utf8 t (plain_utf8 t plain))
    value_utf8 indent (written.array js) s (rest, e, are) fits =
        subst IsUtf8 (sym e) (byte_utf8 91 rest (omega arith) (elements_utf8 indent true js rest are fits))
    value_utf8 indent (written.object ms) s (rest, e, are) fits =
        subst IsUtf8 (sym e) (byte_utf8 123 rest (omega arith) (members_utf8 indent true ms rest are fits))

    elements_utf8 : (indent : ℕ) (is_first : Bool) (js : written.Elements) (s : List ℕ) → AreElements layout indent is_first js s → AreJsonElements js → IsUtf8 s
    elements_utf8 indent is_first written.no_elements s e fits =
        subst IsUtf8 (sym e) (IsUtf8-append (closing_line layout indent is_first) (codes "]") (closing_utf8 indent is_first) (ascii_utf8 (codes "]") refl))
    elements_utf8 indent is_first (written.element j js) s (one, rest, e, text, are) fits =
        subst IsUtf8 (sym e)
        (IsUtf8-append _ rest
        (IsUtf8-append _ one (IsUtf8-append (separator is_first) (new_line layout (indent + 1)) (separator_utf8 is_first) (line_utf8 (indent + 1)))
        (value_utf8 (indent + 1) j one text fits.0))
        (elements_utf8 indent false js rest are fits.1))

    members_utf8 : (indent : ℕ) (is_first : Bool) (ms : written.Members) (s : List ℕ) → AreMembers layout indent is_first ms s → AreJsonMembers ms → IsUtf8 s
    members_utf8 indent is_first written.no_members s e fits =
        subst IsUtf8 (sym e) (IsUtf8-append (closing_line layout indent is_first) (codes "}") (closing_utf8 indent is_first) (ascii_utf8 (codes "}") refl))
    members_utf8 indent is_first (written.member name j ms) s (one, rest, e, text, are) fits =
        subst IsUtf8 (sym e)
        (IsUtf8-append _ rest
        (IsUtf8-append _ one (start_utf8 (indent + 1) is_first name fits.0) (value_utf8 (indent + 1) j one text fits.1))
        (members_utf8 indent false ms rest are fits.2))

  pub text_read : (j : written.Json) (s : List ℕ) → IsJsonValue j → json_depth j ≤ 100 → IsJsonText layout 0 j s → (v : read.Placed) × IsJson v s × Means j v.1
  text_read j s fits deep text =
      let here : Place = (0, s) in
      let after : Place = (length s, []) in
      let v = value 100 0 j s text fits deep here after (sym (append-nil s), omega arith) in
      ((0, v.value), (value_utf8 0 j s text fits, (length s, (here, after, no_blanks here, (refl, v.is), no_blanks after))), v.means)
