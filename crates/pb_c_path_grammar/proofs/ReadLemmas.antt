-- What a path spells is what is read of it.
use Rattle.std.proofs.Common.{◌≡◌, ℕ, zero, suc, ◌+◌, ◌*◌, ◌<◌, Bool, true, false, List, [], ◌∷◌, ◌++◌, length, map, Some, None, Ok, refl, sym, ap, ◌∙◌, subst, arith, append_assoc, length-append}
use Rattle.std.specs.Prelude.{◌==◌, ◌&&◌, ◌||◌}
use Rattle.std.specs.List.{list_all, concat}
use Rattle.std.specs.Str.{IsAscii}
use Rattle.std.proofs.lemmas.Str.{IsUtf8-from_ascii}
use Rattle.std.proofs.lemmas.List.{append-nil}
use Rattle.pb_schema.specs.Kinds.{message_of_kind}
use Rattle.pb_schema.specs.Names.{continues_word}
use Rattle.pb_schema.specs.Scalar.{Scalar, text}
use Rattle.pb_schema.specs.Types.{FieldView, Types}
use Rattle.pb_schema.specs.declared.types.Kind.{Kind}
use Rattle.pb_schema.specs.declared.types.Kind.TheVariants as kind
use Rattle.pb_schema.specs.declared.types.Shape.{Shape}
use Rattle.pb_schema.specs.declared.types.Shape.TheVariants as shape
use Rattle.pb_c_message.specs.Places.{Step, field, index, key}
use Rattle.pb_c_message.specs.declared.value.PlainValue.{PlainValue}
use Rattle.pb_c_paths.specs.Brackets.{decimal, key_bits, key_kind}
use Rattle.pb_c_path_grammar.specs.Grammar.{Names, SpellsInside, SpellsKey, SpellsPart, SpellsParts, SpellsPath, SpellsString, SpellsText, all, by_digits, escaped, in_brackets, inside, itself, last, message, nothing, one, one_of_many, parts, plain_step, plain_steps, quoted, string_of, strings_of, IsReadAs}
use Rattle.pb_c_paths.specs.Path.{Read, byte_of, named, on_read, plain, read_on, unread, with_next, name_ended}
use Rattle.pb_c_paths.specs.Reading.{bracketed, digit_of, is_many, is_string, name_in}
use Rattle.pb_c_paths.specs.declared.reading.Reading.{Reading}
use Rattle.pb_c_paths.specs.declared.reading.Reading.TheVariants as next
use Rattle.pb_c_path_grammar.proofs.KeyLemmas.{IsBack, IsOpen, key_back, number_back, number_open}
use Rattle.pb_c_path_grammar.proofs.NameLemmas.{named_text}

abbrev pub state : Reading → List ℕ → List PlainValue → List ℕ → List ℕ → Read
state x w a l t = record { reading = x; word = w; steps = a; lengths = l; strings = t }

abbrev pub in_message : ℕ → Reading
in_message m = next.Name (record { 0 = m })

-- the bytes that are left are read to this, wherever in a path they are
abbrev pub ReadsTo : Types → Read → List ℕ → Read → Type 0
ReadsTo pool r cs z = (at : ℕ) → 0 < at + length cs → read_on pool at r cs ≡ Ok z

byte_reads : (pool : Types) (r r' z : Read) (c : ℕ) (cs : List ℕ) → ((at : ℕ) → with_next pool at r c ≡ Ok r') → ReadsTo pool r' cs z → ReadsTo pool r (c ∷ cs) z
byte_reads pool r r' z c cs is later at some = ap (on_read (λ x. read_on pool (suc at) x cs)) (is at) ∙ later (suc at) (omega arith)

-- ---- what steps add

-- what was read after these steps, lengths and strings are the steps
pub record Extends (a : List PlainValue) (l t : List ℕ) (ss : List Step) (z : Read) : Type 0 where
  pub steps : z.steps ≡ a ++ plain_steps (length l) ss
  pub lengths : z.lengths ≡ l ++ map length (strings_of ss)
  pub strings : z.strings ≡ t ++ concat (strings_of ss)

pub extends_none : (x : Reading) (w : List ℕ) (a : List PlainValue) (l t : List ℕ) → Extends a l t [] (state x w a l t)
extends_none x w a l t = record { steps = sym (append-nil a); lengths = sym (append-nil l); strings = sym (append-nil t) }

-- a step that is no string
pub extends_plain : (a : List PlainValue) (l t : List ℕ) (s : Step) (ss : List Step) (z : Read) → string_of s ≡ []
    → Extends (a ++ plain_step (length l) s ∷ []) l t ss z → Extends a l t (s ∷ ss) z
extends_plain a l t s ss z none e = record {
  steps = e.steps ∙ append_assoc a (plain_step (length l) s ∷ []) (plain_steps (length l) ss)
      ∙ ap (λ (n : ℕ). a ++ plain_step (length l) s ∷ plain_steps n ss) (omega (arith, ap (λ (xs : List (List ℕ)). length xs) none));
  lengths = e.lengths ∙ ap (λ (xs : List (List ℕ)). l ++ map length (xs ++ strings_of ss)) (sym none);
  strings = e.strings ∙ ap (λ (xs : List (List ℕ)). t ++ concat (xs ++ strings_of ss)) (sym none);
}

-- a string
pub extends_text : (a : List PlainValue) (l t w : List ℕ) (ss : List Step) (z : Read)
    → Extends (a ++ plain 9 (length l) ∷ []) (l ++ length w ∷ []) (t ++ w) ss z → Extends a l t (key (text w) ∷ ss) z
extends_text a l t w ss z e = record {
  steps = e.steps ∙ append_assoc a (plain 9 (length l) ∷ []) (plain_steps (length (l ++ length w ∷ [])) ss)
      ∙ ap (λ (n : ℕ). a ++ plain 9 (length l) ∷ plain_steps n ss) (grind (arith, length-append {A = ℕ}));
  lengths = e.lengths ∙ append_assoc l (length w ∷ []) (map length (strings_of ss));
  strings = e.strings ∙ append_assoc t w (concat (strings_of ss));
}

-- ---- names

and_is : (b c : Bool) → (b && c) ≡ true → (b ≡ true) × (c ≡ true)
and_is true c e = (refl, e)
and_is false c e = absurd (cc)

word_ascii : (w : List ℕ) → list_all continues_word w ≡ true → IsAscii w
word_ascii [] is i = omega arith
word_ascii (c ∷ cs) is zero = let first = (and_is (continues_word c) (list_all continues_word cs) is).0 in grind (arith, first)
word_ascii (c ∷ cs) is (suc i) = word_ascii cs (and_is (continues_word c) (list_all continues_word cs) is).1 i

pub name_is : (pool : Types) (m : ℕ) (w : List ℕ) (f : FieldView) → Names pool m w f → named pool m w ≡ Some f
name_is pool m w f is = named_text pool m w (IsUtf8-from_ascii w (word_ascii w is.word)) ∙ is.found

pub name_found : (pool : Types) (m : ℕ) (w : List ℕ) (f : FieldView) → list_all continues_word w ≡ true → named pool m w ≡ Some f → Names pool m w f
name_found pool m w f is e = record { word = is; found = sym (named_text pool m w (IsUtf8-from_ascii w (word_ascii w is))) ∙ e }

name_reads : (pool : Types) (m : ℕ) (w u : List ℕ) (a : List PlainValue) (l t cs : List ℕ) (z : Read) → list_all continues_word w ≡ true
    → ReadsTo pool (state (in_message m) (u ++ w) a l t) cs z → ReadsTo pool (state (in_message m) u a l t) (w ++ cs) z
name_reads pool m [] u a l t cs z is later = subst (λ (x : List ℕ). ReadsTo pool (state (in_message m) x a l t) cs z) (append-nil u) later
name_reads pool m (c ∷ w) u a l t cs z is later =
    let b = and_is (continues_word c) (list_all continues_word w) is in
    byte_reads pool (state (in_message m) u a l t) (state (in_message m) (u ++ c ∷ []) a l t) z c (w ++ cs) (λ at. rw b.0 refl)
    (name_reads pool m w (u ++ c ∷ []) a l t cs z b.1
    (subst (λ (x : List ℕ). ReadsTo pool (state (in_message m) x a l t) cs z) (sym (append_assoc u (c ∷ []) w)) later))

not_first : (at : ℕ) → 0 < at + length {A = ℕ} [] → (at == 0) ≡ false
not_first at some = grind arith

-- a path that ends after a name
name_ends : (pool : Types) (m : ℕ) (w : List ℕ) (f : FieldView) (a : List PlainValue) (l t : List ℕ) → Names pool m w f
    → ReadsTo pool (state (in_message m) [] a l t) w (state (next.After f.kind) [] (a ++ plain 21 f.number ∷ []) l t)
name_ends pool m w f a l t is =
    subst (λ (p : List ℕ). ReadsTo pool (state (in_message m) [] a l t) p (state (next.After f.kind) [] (a ++ plain 21 f.number ∷ []) l t)) (append-nil w)
    (name_reads pool m w [] a l t [] _ is.word (λ at some. rw (not_first at some) (ap (name_ended at (state (in_message m) w a l t) None) (name_is pool m w f is))))

-- ---- in brackets

open_reads : (pool : Types) (x : Reading) (a : List PlainValue) (l t cs : List ℕ) (z : Read)
    → ((u : List ℕ) (c at : ℕ) → (c == 93) ≡ false → with_next pool at (state x u a l t) c ≡ Ok (state x (u ++ c ∷ []) a l t))
    → (s u : List ℕ) → IsOpen s → ReadsTo pool (state x (u ++ s) a l t) cs z → ReadsTo pool (state x u a l t) (s ++ cs) z
open_reads pool x a l t cs z adds [] u is later = subst (λ (w : List ℕ). ReadsTo pool (state x w a l t) cs z) (append-nil u) later
open_reads pool x a l t cs z adds (c ∷ s) u is later =
    byte_reads pool (state x u a l t) (state x (u ++ c ∷ []) a l t) z c (s ++ cs) (λ at. adds u c at is.0)
    (open_reads pool x a l t cs z adds s (u ++ c ∷ []) is.1 (subst (λ (w : List ℕ). ReadsTo pool (state x w a l t) cs z) (sym (append_assoc u (c ∷ []) s)) later))

index_reads : (pool : Types) (k : Kind) (a : List PlainValue) (l t s cs : List ℕ) (n : ℕ) (z : Read) → decimal s ≡ Some n → IsOpen s
    → ReadsTo pool (state (next.After k) [] (a ++ plain 22 n ∷ []) l t) cs z → ReadsTo pool (state (next.Index k) [] a l t) (s ++ (93 ∷ cs)) z
index_reads pool k a l t s cs n z is opened later =
    open_reads pool (next.Index k) a l t (93 ∷ cs) z (λ u c at h. rw h refl) s [] opened
    (byte_reads pool (state (next.Index k) s a l t) (state (next.After k) [] (a ++ plain 22 n ∷ []) l t) z 93 cs (λ at. rw is refl) later)

key_reads : (pool : Types) (keys k : Kind) (a : List PlainValue) (l t s cs : List ℕ) (n : ℕ) (z : Read) → key_bits keys s ≡ Some n → IsOpen s
    → ReadsTo pool (state (next.After k) [] (a ++ plain (key_kind keys) n ∷ []) l t) cs z → ReadsTo pool (state (next.Key keys k) [] a l t) (s ++ (93 ∷ cs)) z
key_reads pool keys k a l t s cs n z is opened later =
    open_reads pool (next.Key keys k) a l t (93 ∷ cs) z (λ u c at h. rw h refl) s [] opened
    (byte_reads pool (state (next.Key keys k) s a l t) (state (next.After k) [] (a ++ plain (key_kind keys) n ∷ []) l t) z 93 cs (λ at. rw is refl) later)

pub digit_small : (c d : ℕ) → digit_of c ≡ Some d → d < 16
digit_small c d e = grind arith

pub byte_is : (a b : ℕ) → a < 16 → b < 16 → byte_of a b ≡ a * 16 + b
byte_is a b low high = omega arith

string_reads : (pool : Types) (k : Kind) (a : List PlainValue) (l t cs : List ℕ) (z : Read) {s v : List ℕ} (u : List ℕ) → SpellsString s v
    → ReadsTo pool (state (next.Text k) (u ++ v) a l t) cs z → ReadsTo pool (state (next.Text k) u a l t) (s ++ cs) z
string_reads pool k a l t cs z u nothing later = subst (λ (w : List ℕ). ReadsTo pool (state (next.Text k) w a l t) cs z) (append-nil u) later
string_reads pool k a l t cs z u (itself {c = c} {s = s} {w = w} plain_quote plain_slash rest) later =
    let quote : (c == 34) ≡ false = grind (arith, plain_quote) in let slash : (c == 92) ≡ false = grind (arith, plain_slash) in
    byte_reads pool (state (next.Text k) u a l t) (state (next.Text k) (u ++ c ∷ []) a l t) z c (s ++ cs) (λ at. rw quote (rw slash refl))
    (string_reads pool k a l t cs z (u ++ c ∷ []) rest (subst (λ (x : List ℕ). ReadsTo pool (state (next.Text k) x a l t) cs z) (sym (append_assoc u (c ∷ []) w)) later))
string_reads pool k a l t cs z u (escaped {c = c} {s = s} {w = w} is rest) later =
    let may : (c == 34 || c == 92) ≡ true = grind (arith, is) in
    byte_reads pool (state (next.Text k) u a l t) (state (next.Escape k) u a l t) z 92 (c ∷ (s ++ cs)) (λ at. refl)
    (byte_reads pool (state (next.Escape k) u a l t) (state (next.Text k) (u ++ c ∷ []) a l t) z c (s ++ cs) (λ at. rw may refl)
    (string_reads pool k a l t cs z (u ++ c ∷ []) rest (subst (λ (x : List ℕ). ReadsTo pool (state (next.Text k) x a l t) cs z) (sym (append_assoc u (c ∷ []) w)) later)))
string_reads pool k a l t cs z u (by_digits {h = h} {l = low} {a = x} {b = y} {s = s} {w = w} high_is low_is rest) later =
    let b = x * 16 + y in
    byte_reads pool (state (next.Text k) u a l t) (state (next.Escape k) u a l t) z 92 (120 ∷ h ∷ low ∷ (s ++ cs)) (λ at. refl)
    (byte_reads pool (state (next.Escape k) u a l t) (state (next.High k) u a l t) z 120 (h ∷ low ∷ (s ++ cs)) (λ at. refl)
    (byte_reads pool (state (next.High k) u a l t) (state (next.Low k x) u a l t) z h (low ∷ (s ++ cs)) (λ at. rw high_is refl)
    (byte_reads pool (state (next.Low k x) u a l t) (state (next.Text k) (u ++ b ∷ []) a l t) z low (s ++ cs)
    (λ at. rw low_is (ap (λ (c : ℕ). Ok (state (next.Text k) (u ++ c ∷ []) a l t)) (byte_is x y (digit_small h x high_is) (digit_small low y low_is))))
    (string_reads pool k a l t cs z (u ++ b ∷ []) rest (subst (λ (v : List ℕ). ReadsTo pool (state (next.Text k) v a l t) cs z) (sym (append_assoc u (b ∷ []) w)) later)))))

-- ---- parts

-- the end of the path after a value, or a dot and what follows it
pub data After (pool : Types) (k : Kind) (a : List PlainValue) (l t : List ℕ) : List ℕ → Read → Type 0 where
  done : After pool k a l t [] (state (next.After k) [] a l t)
  more : {n : ℕ} {q : List ℕ} {z : Read} → message_of_kind k ≡ Some n → ReadsTo pool (state (in_message n) [] a l t) q z → After pool k a l t (46 ∷ q) z

name_next : (k : Kind) (n : ℕ) → message_of_kind k ≡ Some n → name_in k ≡ Some (in_message n)
name_next (kind.Message m) n e = let same : m.0 ≡ n = cc in ap (λ (i : ℕ). Some (in_message i)) same
name_next (kind.Group m) n e = let same : m.0 ≡ n = cc in ap (λ (i : ℕ). Some (in_message i)) same
name_next kind.Double n e = absurd (cc)
name_next kind.Float n e = absurd (cc)
name_next kind.Int64 n e = absurd (cc)
name_next kind.Uint64 n e = absurd (cc)
name_next kind.Int32 n e = absurd (cc)
name_next kind.Fixed64 n e = absurd (cc)
name_next kind.Fixed32 n e = absurd (cc)
name_next kind.Bool n e = absurd (cc)
name_next kind.Text n e = absurd (cc)
name_next kind.Bytes n e = absurd (cc)
name_next kind.Uint32 n e = absurd (cc)
name_next (kind.Enum x) n e = absurd (cc)
name_next (kind.ClosedEnum x) n e = absurd (cc)
name_next kind.Sfixed32 n e = absurd (cc)
name_next kind.Sfixed64 n e = absurd (cc)
name_next kind.Sint32 n e = absurd (cc)
name_next kind.Sint64 n e = absurd (cc)

after_reads : (pool : Types) (k : Kind) (a : List PlainValue) (l t rest : List ℕ) (z : Read) → After pool k a l t rest z
    → ReadsTo pool (state (next.After k) [] a l t) rest z
after_reads pool k a l t rest z done = λ at some. rw (not_first at some) refl
after_reads pool k a l t rest z (more {n = n} {q = q} is later) =
    byte_reads pool (state (next.After k) [] a l t) (state (in_message n) [] a l t) z 46 q (λ at. rw (name_next k n is) refl) later

-- a name of one value
one_reads : (pool : Types) (m : ℕ) (w : List ℕ) (f : FieldView) (a : List PlainValue) (l t rest : List ℕ) (z : Read) → Names pool m w f → is_many f.shape ≡ false
    → After pool f.kind (a ++ plain 21 f.number ∷ []) l t rest z → ReadsTo pool (state (in_message m) [] a l t) (w ++ rest) z
one_reads pool m w f a l t rest z is single done = name_reads pool m w [] a l t [] _ is.word (λ at some. rw (not_first at some) (ap (name_ended at (state (in_message m) w a l t) None) (name_is pool m w f is)))
one_reads pool m w f a l t rest z is single (more {n = n} {q = q} to later) =
    name_reads pool m w [] a l t (46 ∷ q) z is.word
    (byte_reads pool (state (in_message m) w a l t) (state (in_message n) [] (a ++ plain 21 f.number ∷ []) l t) z 46 q
    (λ at. ap (name_ended at (state (in_message m) w a l t) (Some 46)) (name_is pool m w f is) ∙ rw single (rw (name_next f.kind n to) refl)) later)

-- brackets after a name
brackets_read : (pool : Types) (m : ℕ) (w s : List ℕ) (f : FieldView) (x : Reading) (a : List PlainValue) (l t rest : List ℕ) (z : Read) → Names pool m w f
    → bracketed f.shape f.kind ≡ Some x → ReadsTo pool (state x [] (a ++ plain 21 f.number ∷ []) l t) (s ++ (93 ∷ rest)) z
    → ReadsTo pool (state (in_message m) [] a l t) ((w ++ in_brackets s) ++ rest) z
brackets_read pool m w s f x a l t rest z is brackets later =
    subst (λ (p : List ℕ). ReadsTo pool (state (in_message m) [] a l t) p z)
    (ap (λ (q : List ℕ). w ++ (91 ∷ q)) (sym (append_assoc s (93 ∷ []) rest)) ∙ sym (append_assoc w (in_brackets s) rest))
    (name_reads pool m w [] a l t (91 ∷ (s ++ (93 ∷ rest))) z is.word
    (byte_reads pool (state (in_message m) w a l t) (state x [] (a ++ plain 21 f.number ∷ []) l t) z 91 (s ++ (93 ∷ rest))
    (λ at. ap (name_ended at (state (in_message m) w a l t) (Some 91)) (name_is pool m w f is) ∙ rw brackets refl) later))

-- what follows a part is read after it, and adds its steps to those of the part
record PartReads (pool : Types) (m : ℕ) (p : List ℕ) (k : Kind) (ss : List Step) (a : List PlainValue) (l t : List ℕ) : Type 0 where
  a' : List PlainValue
  l' : List ℕ
  t' : List ℕ
  reads : (rest : List ℕ) (z : Read) → After pool k a' l' t' rest z → ReadsTo pool (state (in_message m) [] a l t) (p ++ rest) z
  extends : (ts : List Step) (z : Read) → Extends a' l' t' ts z → Extends a l t (ss ++ ts) z

pub is_text : (k : Kind) → is_string k ≡ true → k ≡ kind.Text
is_text kind.Text e = refl
is_text kind.Double e = absurd (cc)
is_text kind.Float e = absurd (cc)
is_text kind.Int64 e = absurd (cc)
is_text kind.Uint64 e = absurd (cc)
is_text kind.Int32 e = absurd (cc)
is_text kind.Fixed64 e = absurd (cc)
is_text kind.Fixed32 e = absurd (cc)
is_text kind.Bool e = absurd (cc)
is_text kind.Bytes e = absurd (cc)
is_text kind.Uint32 e = absurd (cc)
is_text kind.Sfixed32 e = absurd (cc)
is_text kind.Sfixed64 e = absurd (cc)
is_text kind.Sint32 e = absurd (cc)
is_text kind.Sint64 e = absurd (cc)
is_text (kind.Enum x) e = absurd (cc)
is_text (kind.ClosedEnum x) e = absurd (cc)
is_text (kind.Message m) e = absurd (cc)
is_text (kind.Group m) e = absurd (cc)

-- a string in quotes, and the bracket after it
text_reads : (pool : Types) (k : Kind) (a : List PlainValue) (l t s rest : List ℕ) (w : List ℕ) (z : Read) → SpellsString s w
    → ReadsTo pool (state (next.After k) [] (a ++ plain 9 (length l) ∷ []) (l ++ length w ∷ []) (t ++ w)) rest z
    → ReadsTo pool (state (next.Quote k) [] a l t) (quoted s ++ (93 ∷ rest)) z
text_reads pool k a l t s rest w z is later =
    let after = state (next.Closing k) [] (a ++ plain 9 (length l) ∷ []) (l ++ length w ∷ []) (t ++ w) in
    byte_reads pool (state (next.Quote k) [] a l t) (state (next.Text k) [] a l t) z 34 ((s ++ (34 ∷ [])) ++ (93 ∷ rest)) (λ at. refl)
    (subst (λ (p : List ℕ). ReadsTo pool (state (next.Text k) [] a l t) p z) (sym (append_assoc s (34 ∷ []) (93 ∷ rest)))
    (string_reads pool k a l t (34 ∷ 93 ∷ rest) z [] is
    (byte_reads pool (state (next.Text k) w a l t) after z 34 (93 ∷ rest) (λ at. refl)
    (byte_reads pool after (state (next.After k) [] (a ++ plain 9 (length l) ∷ []) (l ++ length w ∷ []) (t ++ w)) z 93 rest (λ at. refl) later))))

module _ (pool : Types) (m : ℕ) (w s : List ℕ) (f : FieldView) (is : Names pool m w f) (a : List PlainValue) (l t : List ℕ) where
  abbrev named_steps : List PlainValue
  named_steps = a ++ plain 21 f.number ∷ []

  index_part : (n : ℕ) → bracketed f.shape f.kind ≡ Some (next.Index f.kind) → decimal s ≡ Some n → IsOpen s
      → PartReads pool m (w ++ in_brackets s) f.kind (field f.number ∷ index n ∷ []) a l t
  index_part n brackets number opened = record {
    a' = named_steps ++ plain 22 n ∷ [];
    l' = l;
    t' = t;
    reads = λ rest z later.
        brackets_read pool m w s f (next.Index f.kind) a l t rest z is brackets
        (index_reads pool f.kind named_steps l t s rest n z number opened (after_reads pool f.kind (named_steps ++ plain 22 n ∷ []) l t rest z later));
    extends = λ ts z e. extends_plain a l t (field f.number) (index n ∷ ts) z refl (extends_plain named_steps l t (index n) ts z refl e);
  }

  key_part : (keys : Kind) (k : Scalar) → bracketed f.shape f.kind ≡ Some (next.Key keys f.kind) → IsBack (key_bits keys s) (key_kind keys) s k
      → PartReads pool m (w ++ in_brackets s) f.kind (field f.number ∷ key k ∷ []) a l t
  key_part keys k brackets b = record {
    a' = named_steps ++ plain (key_kind keys) b.number ∷ [];
    l' = l;
    t' = t;
    reads = λ rest z later.
        brackets_read pool m w s f (next.Key keys f.kind) a l t rest z is brackets
        (key_reads pool keys f.kind named_steps l t s rest b.number z b.read b.is_open
        (after_reads pool f.kind (named_steps ++ plain (key_kind keys) b.number ∷ []) l t rest z later));
    extends = λ ts z e.
        extends_plain a l t (field f.number) (key k ∷ ts) z refl
        (extends_plain named_steps l t (key k) ts z b.no_string
        (subst (λ (v : PlainValue). Extends (named_steps ++ v ∷ []) l t ts z) (sym (b.plain_is (length l))) e));
  }

  text_part : (k : Scalar) → bracketed f.shape f.kind ≡ Some (next.Quote f.kind) → SpellsText s k
      → PartReads pool m (w ++ in_brackets s) f.kind (field f.number ∷ key k ∷ []) a l t
  text_part k brackets (body, v, is_quoted, spelled, is_text) = record {
    a' = named_steps ++ plain 9 (length l) ∷ [];
    l' = l ++ length v ∷ [];
    t' = t ++ v;
    reads = λ rest z later.
        brackets_read pool m w s f (next.Quote f.kind) a l t rest z is brackets
        (subst (λ (p : List ℕ). ReadsTo pool (state (next.Quote f.kind) [] named_steps l t) (p ++ (93 ∷ rest)) z) (sym is_quoted)
        (text_reads pool f.kind named_steps l t body rest v z spelled
        (after_reads pool f.kind (named_steps ++ plain 9 (length l) ∷ []) (l ++ length v ∷ []) (t ++ v) rest z later)));
    extends = λ ts z e.
        extends_plain a l t (field f.number) (key k ∷ ts) z refl
        (subst (λ (x : Scalar). Extends named_steps l t (key x ∷ ts) z) (sym is_text) (extends_text named_steps l t v ts z e));
  }

  map_part : (keys : Kind) (k : Scalar) → f.shape ≡ shape.Map keys → SpellsKey keys s k
      → PartReads pool m (w ++ in_brackets s) f.kind (field f.number ∷ key k ∷ []) a l t
  map_part keys k map_is spelled = by_string (is_string keys) refl
    where
      by_string : (b : Bool) → is_string keys ≡ b → PartReads pool m (w ++ in_brackets s) f.kind (field f.number ∷ key k ∷ []) a l t
      by_string true b =
          text_part k (ap (λ h. bracketed h f.kind) (map_is ∙ ap (λ x. shape.Map x) (is_text keys b)))
          (subst (λ x. SpellsKey x s k) (is_text keys b) spelled)
      by_string false b = key_part keys k (ap (λ h. bracketed h f.kind) map_is ∙ rw b refl) (key_back keys s k b spelled)

  inside_part : (h : Shape) (x : Step) → f.shape ≡ h → SpellsInside h s x → PartReads pool m (w ++ in_brackets s) f.kind (field f.number ∷ x ∷ []) a l t
  inside_part (shape.List packed) x e (n, step_is, number, small) =
      subst (λ y. PartReads pool m (w ++ in_brackets s) f.kind (field f.number ∷ y ∷ []) a l t) (sym step_is)
      (index_part n (ap (λ h. bracketed h f.kind) e) (number_back s n number small) (number_open s n number))
  inside_part (shape.Map keys) x e (k, step_is, spelled) =
      subst (λ y. PartReads pool m (w ++ in_brackets s) f.kind (field f.number ∷ y ∷ []) a l t) (sym step_is) (map_part keys k e spelled)
  inside_part shape.Implicit x e spelled = absurd spelled
  inside_part shape.Explicit x e spelled = absurd spelled
  inside_part (shape.OneofMember o) x e spelled = absurd spelled

part_reads : (pool : Types) (m : ℕ) {p : List ℕ} {ss : List Step} {k : Kind} (a : List PlainValue) (l t : List ℕ) → SpellsPart pool m p ss k
    → PartReads pool m p k ss a l t
part_reads pool m a l t (one {w = w} {f = f} is single) = record {
  a' = a ++ plain 21 f.number ∷ [];
  l' = l;
  t' = t;
  reads = λ rest z later. one_reads pool m w f a l t rest z is single later;
  extends = λ ts z e. extends_plain a l t (field f.number) ts z refl e;
}
part_reads pool m a l t (one_of_many {w = w} {f = f} s x is spelled) = inside_part pool m w s f is a l t f.shape x refl spelled

-- ---- paths

record PathReads (pool : Types) (m : ℕ) (p : List ℕ) (ss : List Step) (a : List PlainValue) (l t : List ℕ) : Type 0 where
  z : Read
  reads : ReadsTo pool (state (in_message m) [] a l t) p z
  extends : Extends a l t ss z

parts_read : (pool : Types) {m : ℕ} {p : List ℕ} {ss : List Step} (a : List PlainValue) (l t : List ℕ) → SpellsParts pool m p ss → PathReads pool m p ss a l t
parts_read pool a l t (all {m = m} {w = w} {f = f} is many) = record {
  z = state (next.After f.kind) [] (a ++ plain 21 f.number ∷ []) l t;
  reads = name_ends pool m w f a l t is;
  extends = extends_plain a l t (field f.number) [] _ refl (extends_none (next.After f.kind) [] (a ++ plain 21 f.number ∷ []) l t);
}
parts_read pool a l t (last {m = m} {p = p} {ss = ss} {k = k} part) =
    let r = part_reads pool m a l t part in let z = state (next.After k) [] r.a' r.l' r.t' in
    record {
      z = z;
      reads = subst (λ q. ReadsTo pool (state (in_message m) [] a l t) q z) (append-nil p) (r.reads [] z done);
      extends = subst (λ xs. Extends a l t xs z) (append-nil ss) (r.extends [] z (extends_none (next.After k) [] r.a' r.l' r.t'));
    }
parts_read pool a l t (inside {m = m} {n = n} {p = p} {q = q} {ss = ss} {ts = ts} part to rest) =
    let r = part_reads pool m a l t part in let i = parts_read pool r.a' r.l' r.t' rest in
    record { z = i.z; reads = r.reads (46 ∷ q) i.z (more to i.reads); extends = r.extends ts i.z i.extends }

-- a path is read as the steps that it spells
pub path_reads : (pool : Types) (m : ℕ) {path : List ℕ} {ss : List Step} → SpellsPath pool m path ss → IsReadAs pool m path ss
path_reads pool m message = record { read = unread m; comes = refl; holds = record { steps = refl; lengths = refl; strings = refl } }
path_reads pool m (parts {c = c} {p = p} is) =
    let r = parts_read pool [] [] [] is in
    record { read = r.z; comes = r.reads 0 (omega arith); holds = record { steps = r.extends.steps; lengths = r.extends.lengths; strings = r.extends.strings } }
