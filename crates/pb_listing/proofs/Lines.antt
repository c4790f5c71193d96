-- The parts of a listing, and of a shortest spelling.
use Rattle.std.proofs.Common.{◌≡◌, ℕ, List, [], ◌∷◌, ◌++◌, length, false, refl, sym, ap, ◌∙◌, append_assoc, append-nil, add-one, suc, ◌+◌, ◌*◌, codes, decimal}
use Rattle.std.specs.Prelude.{◌==◌}
use Rattle.std.specs.Int.{to_le_bytes, w32, w64}
use Rattle.hex.specs.Hex.{encode_lower}
use Rattle.pb_wire.specs.Record.{Record, Payload, group_of}
use Rattle.pb_wire.specs.Record as wire
use Rattle.pb_wire.specs.Varint.{shortest}
use Rattle.pb_wire.specs.Spell.{shortest_record, shortest_records}
use Rattle.pb_listing.specs.RawListing.{indent, line, line_feed, record_lines, group_lines, shown_bytes}
use Rattle.pb_output.proofs.HexParts.{encode_lower-append}

pub shown_bytes-some : (xs : List ℕ) → false ≡ (length xs == 0) → shown_bytes xs ≡ codes " " ++ encode_lower xs
shown_bytes-some [] some = cc
shown_bytes-some (x ∷ xs) some = refl

-- a line, and where its value ends
pub line-parts : (level : ℕ) (text value : List ℕ) → line level (text ++ value) ≡ (indent level ++ text) ++ value ++ line_feed
line-parts level text value = ap (λ (l : List ℕ). l ++ line_feed) (sym (append_assoc (indent level) text value))

-- a label, and what opens the lines of a message
pub start-parts : (level : ℕ) (label : List ℕ) → line level (label ++ codes " {") ≡ (indent level ++ label) ++ codes " {\n"
start-parts level label = simp append_assoc

-- a label and a value
pub scalar-parts :
    (level : ℕ) (label value : List ℕ) → line level (label ++ codes ": " ++ value) ≡ (indent level ++ label) ++ codes ": " ++ value ++ codes "\n"
scalar-parts level label value = simp append_assoc

-- the lines of a group
pub record_lines-group :
    (mark : List ℕ) (level number : ℕ) (r : Record) (rs : List Record) → number ≡ r.number → r.payload ≡ wire.group (group_of rs)
    → record_lines mark level r.number r.payload
    ≡ line level (mark ++ decimal number ++ codes " group {") ++ group_lines (level + 1) (group_of rs) ++ line level (codes "}")
record_lines-group mark level number r rs same payload =
    ap (record_lines mark level r.number) payload
    ∙ ap (λ (k : ℕ). line level (mark ++ decimal k ++ codes " group {") ++ group_lines (suc level) (group_of rs) ++ line level (codes "}")) (sym same)
    ∙ ap (λ (l : ℕ). line level (mark ++ decimal number ++ codes " group {") ++ group_lines l (group_of rs) ++ line level (codes "}")) (sym (add-one level))

-- the shortest spelling of a group, in hexadecimal
pub shortest-group :
    (number : ℕ) (r : Record) (rs : List Record) → number ≡ r.number → r.payload ≡ wire.group (group_of rs)
    → encode_lower (shortest_record r.number r.payload)
    ≡ encode_lower (shortest (8 * number + 3)) ++ encode_lower (shortest_records rs) ++ encode_lower (shortest (8 * number + 4))
shortest-group number r rs same payload =
    ap (λ (p : Payload). encode_lower (shortest_record r.number p)) payload
    ∙ ap (λ (k : ℕ). encode_lower (shortest (8 * k + 3) ++ shortest_records rs ++ shortest (8 * k + 4))) (sym same)
    ∙ encode_lower-append (shortest (8 * number + 3) ++ shortest_records rs) (shortest (8 * number + 4))
    ∙ ap (λ (l : List ℕ). l ++ encode_lower (shortest (8 * number + 4))) (encode_lower-append (shortest (8 * number + 3)) (shortest_records rs))

-- the shortest spelling of a record of another kind, in hexadecimal
shortest-of :
    (number : ℕ) (r : Record) (p : Payload) → number ≡ r.number → r.payload ≡ p
    → encode_lower (shortest_record r.number r.payload) ≡ encode_lower (shortest_record number p)
shortest-of number r p same payload =
    ap (λ (q : Payload). encode_lower (shortest_record r.number q)) payload ∙ ap (λ (k : ℕ). encode_lower (shortest_record k p)) (sym same)

pub shortest-varint :
    (number n : ℕ) (r : Record) → number ≡ r.number → r.payload ≡ wire.varint n
    → encode_lower (shortest_record r.number r.payload) ≡ encode_lower (shortest (8 * number + 0)) ++ encode_lower (shortest n)
shortest-varint number n r same payload =
    shortest-of number r (wire.varint n) same payload ∙ encode_lower-append (shortest (8 * number + 0)) (shortest n)

pub shortest-fixed64 :
    (number n : ℕ) (r : Record) → number ≡ r.number → r.payload ≡ wire.fixed64 n
    → encode_lower (shortest_record r.number r.payload) ≡ encode_lower (shortest (8 * number + 1)) ++ encode_lower (to_le_bytes w64 n)
shortest-fixed64 number n r same payload =
    shortest-of number r (wire.fixed64 n) same payload ∙ encode_lower-append (shortest (8 * number + 1)) (to_le_bytes w64 n)

pub shortest-fixed32 :
    (number n : ℕ) (r : Record) → number ≡ r.number → r.payload ≡ wire.fixed32 n
    → encode_lower (shortest_record r.number r.payload) ≡ encode_lower (shortest (8 * number + 5)) ++ encode_lower (to_le_bytes w32 n)
shortest-fixed32 number n r same payload =
    shortest-of number r (wire.fixed32 n) same payload ∙ encode_lower-append (shortest (8 * number + 5)) (to_le_bytes w32 n)

pub shortest-len :
    (number : ℕ) (s : List ℕ) (r : Record) → number ≡ r.number → r.payload ≡ wire.len s
    → encode_lower (shortest_record r.number r.payload)
    ≡ encode_lower (shortest (8 * number + 2)) ++ encode_lower (shortest (length s)) ++ encode_lower s
shortest-len number s r same payload =
    shortest-of number r (wire.len s) same payload ∙ encode_lower-append (shortest (8 * number + 2) ++ shortest (length s)) s
    ∙ ap (λ (l : List ℕ). l ++ encode_lower s) (encode_lower-append (shortest (8 * number + 2)) (shortest (length s)))

-- ---- record by record

lines-append :
    (level : ℕ) (rs ss : List Record) → group_lines level (group_of (rs ++ ss)) ≡ group_lines level (group_of rs) ++ group_lines level (group_of ss)
lines-append level [] ss = refl
lines-append level (r ∷ rs) ss =
    ap (λ (l : List ℕ). record_lines [] level r.number r.payload ++ l) (lines-append level rs ss)
    ∙ sym (append_assoc (record_lines [] level r.number r.payload) (group_lines level (group_of rs)) (group_lines level (group_of ss)))

-- the lines of some records, and of the next
pub lines-more :
    (level : ℕ) (rs : List Record) (r : Record)
    → group_lines level (group_of (rs ++ r ∷ [])) ≡ group_lines level (group_of rs) ++ record_lines [] level r.number r.payload
lines-more level rs r =
    lines-append level rs (r ∷ []) ∙ ap (λ (l : List ℕ). group_lines level (group_of rs) ++ l) (append-nil (record_lines [] level r.number r.payload))

-- the lines of some records, and of the rest
pub lines-parts :
    (level : ℕ) (rs done others : List Record) → rs ≡ done ++ others
    → group_lines level (group_of rs) ≡ group_lines level (group_of done) ++ group_lines level (group_of others)
lines-parts level rs done others e = ap (λ (z : List Record). group_lines level (group_of z)) e ∙ lines-append level done others

shortest-append : (rs ss : List Record) → shortest_records (rs ++ ss) ≡ shortest_records rs ++ shortest_records ss
shortest-append [] ss = refl
shortest-append (r ∷ rs) ss =
    ap (λ (l : List ℕ). shortest_record r.number r.payload ++ l) (shortest-append rs ss)
    ∙ sym (append_assoc (shortest_record r.number r.payload) (shortest_records rs) (shortest_records ss))

pub shortest-more :
    (rs : List Record) (r : Record)
    → encode_lower (shortest_records (rs ++ r ∷ [])) ≡ encode_lower (shortest_records rs) ++ encode_lower (shortest_record r.number r.payload)
shortest-more rs r =
    ap encode_lower (shortest-append rs (r ∷ []) ∙ ap (λ (l : List ℕ). shortest_records rs ++ l) (append-nil (shortest_record r.number r.payload)))
    ∙ encode_lower-append (shortest_records rs) (shortest_record r.number r.payload)

pub shortest-parts :
    (rs done others : List Record) → rs ≡ done ++ others
    → encode_lower (shortest_records rs) ≡ encode_lower (shortest_records done) ++ encode_lower (shortest_records others)
shortest-parts rs done others e =
    ap (λ (z : List Record). encode_lower (shortest_records z)) e ∙ ap encode_lower (shortest-append done others)
    ∙ encode_lower-append (shortest_records done) (shortest_records others)
