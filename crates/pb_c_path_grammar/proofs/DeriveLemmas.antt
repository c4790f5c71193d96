-- What is read of a path is what it spells.
use Rattle.std.proofs.Common.{◌≡◌, ℕ, suc, ◌+◌, ◌*◌, ◌<◌, ◌⊎◌, Bool, true, false, cond, List, [], ◌∷◌, ◌++◌, length, Option, Some, None, Result, Ok, Err, inl, inr, refl, sym, ap, ◌∙◌, subst, arith, append_assoc}
use Rattle.std.specs.Prelude.{if◌then◌else◌, ◌==◌, ◌&&◌, ◌||◌}
use Rattle.std.specs.List.{list_all}
use Rattle.std.proofs.lemmas.List.{append-nil}
use Rattle.pb_schema.specs.Kinds.{message_of_kind}
use Rattle.pb_schema.specs.Names.{continues_word}
use Rattle.pb_schema.specs.Scalar.{text}
use Rattle.pb_schema.specs.Types.{FieldView, Types}
use Rattle.pb_schema.specs.declared.types.Kind.{Kind}
use Rattle.pb_schema.specs.declared.types.Kind.TheVariants as kind
use Rattle.pb_schema.specs.declared.types.MessageId.{MessageId}
use Rattle.pb_schema.specs.declared.types.Shape.{Shape}
use Rattle.pb_schema.specs.declared.types.Shape.TheVariants as shape
use Rattle.pb_c_message.specs.Places.{Step, field, index, key}
use Rattle.pb_c_message.specs.declared.value.PlainValue.{PlainValue}
use Rattle.pb_c_paths.specs.Brackets.{decimal, key_bits, key_kind}
use Rattle.pb_c_path_grammar.specs.Grammar.{IsSpelledBy, Names, SpellsInside, SpellsPart, SpellsParts, SpellsString, all, by_digits, escaped, in_brackets, inside, itself, last, message, nothing, one, one_of_many, parts, quoted}
use Rattle.pb_c_paths.specs.Path.{Read, byte_of, end_in, escaped_byte, high_digit, index_byte, key_byte, low_byte, moved, name_byte, name_ended, named, number_ended, on_read, path_read, plain, read_on, stepped, text_byte, unread, with_byte, with_next, with_string}
use Rattle.pb_c_paths.specs.Reading.{after_name, after_value, bracketed, digit_of, is_many, is_string, name_in}
use Rattle.pb_c_paths.specs.declared.reading.Reading.{Reading}
use Rattle.pb_c_paths.specs.declared.reading.Reading.TheVariants as next
use Rattle.pb_c_paths.specs.declared.unread.Unread.{Unread}
use Rattle.pb_c_paths.specs.declared.unread.Unread.TheVariants.{NoPath}
use Rattle.pb_c_path_grammar.proofs.KeyLemmas.{key_read, number_read}
use Rattle.pb_c_path_grammar.proofs.ReadLemmas.{Extends, byte_is, digit_small, extends_none, extends_plain, extends_text, in_message, is_text, name_found, state}

-- the rest of a path after a value
abbrev AtTail : Types → Kind → List ℕ → List Step → Type 0
AtTail pool k cs ss = ((cs ≡ []) × (ss ≡ [])) ⊎ ((n : ℕ) × (q : List ℕ) × (message_of_kind k ≡ Some n) × (cs ≡ 46 ∷ q) × SpellsParts pool n q ss)

-- the rest of a path in brackets, with what was read there
record Inside (pool : Types) (h : Shape) (k : Kind) (cs : List ℕ) (ss : List Step) : Type 0 where
  s : List ℕ
  rest : List ℕ
  step : Step
  ts : List Step
  bytes : cs ≡ s ++ (93 ∷ rest)
  spelled : SpellsInside h s step
  tail : AtTail pool k rest ts
  steps : ss ≡ step ∷ ts

-- the rest of a path in quotes, after a string, with the bytes that were read after it
record InText (pool : Types) (k : Kind) (w cs : List ℕ) (ss : List Step) : Type 0 where
  s : List ℕ
  v : List ℕ
  rest : List ℕ
  ts : List Step
  bytes : cs ≡ s ++ (34 ∷ 93 ∷ rest)
  spelled : SpellsString s v
  tail : AtTail pool k rest ts
  steps : ss ≡ key (text (w ++ v)) ∷ ts

abbrev Rest : Types → Reading → List ℕ → List ℕ → List Step → Type 0
Rest pool (next.Name m) w cs ss = SpellsParts pool m.0 (w ++ cs) ss
Rest pool (next.Index k) w cs ss = Inside pool (shape.List false) k (w ++ cs) ss
Rest pool (next.Key keys k) w cs ss = Inside pool (shape.Map keys) k (w ++ cs) ss
Rest pool (next.Quote k) w cs ss = Inside pool (shape.Map kind.Text) k cs ss
Rest pool (next.Text k) w cs ss = InText pool k w cs ss
Rest pool (next.Escape k) w cs ss = InText pool k w (92 ∷ cs) ss
Rest pool (next.High k) w cs ss = InText pool k w (92 ∷ 120 ∷ cs) ss
Rest pool (next.Low k a) w cs ss = (h : ℕ) → digit_of h ≡ Some a → InText pool k w (92 ∷ 120 ∷ h ∷ cs) ss
Rest pool (next.Closing k) w cs ss = (rest : List ℕ) × (cs ≡ 93 ∷ rest) × AtTail pool k rest ss
Rest pool (next.After k) w cs ss = AtTail pool k cs ss

-- the word that is being read
abbrev IsWord : Reading → List ℕ → Type 0
IsWord (next.Name m) w = list_all continues_word w ≡ true
IsWord (next.Index k) w = Unit {0}
IsWord (next.Key keys k) w = Unit {0}
IsWord (next.Quote k) w = w ≡ []
IsWord (next.Text k) w = Unit {0}
IsWord (next.Escape k) w = Unit {0}
IsWord (next.High k) w = Unit {0}
IsWord (next.Low k a) w = Unit {0}
IsWord (next.Closing k) w = w ≡ []
IsWord (next.After k) w = w ≡ []

record Derived (pool : Types) (x : Reading) (w cs : List ℕ) (a : List PlainValue) (l t : List ℕ) (z : Read) : Type 0 where
  ss : List Step
  rest : Rest pool x w cs ss
  extends : Extends a l t ss z

-- what the bytes that are left come to
abbrev Later : Types → ℕ → List ℕ → Read → Type 0
Later pool at cs z = (x : Reading) (w : List ℕ) (a : List PlainValue) (l t : List ℕ) → IsWord x w → read_on pool at (state x w a l t) cs ≡ Ok z → Derived pool x w cs a l t z

not_ok : {P : Type 0} (e : Unread) (z : Read) → ◌≡◌ {A = Result Read Unread} (Err e) (Ok z) → P
not_ok e z is = absurd (cc)

some_is : (y x : Reading) → ◌≡◌ {A = Option Reading} (Some y) (Some x) → y ≡ x
some_is y x e = cc

is_byte : (c n : ℕ) → (c == n) ≡ true → c ≡ n
is_byte c n e = grind (arith, e)

-- ---- parts

part_then : (pool : Types) (m : ℕ) {p : List ℕ} {ss : List Step} {k : Kind} (rest : List ℕ) (ts : List Step) → SpellsPart pool m p ss k → AtTail pool k rest ts
    → SpellsParts pool m (p ++ rest) (ss ++ ts)
part_then pool m {p = p} {ss = ss} rest ts part (inl (bytes, steps)) =
    subst (λ r. SpellsParts pool m (p ++ r) (ss ++ ts)) (sym bytes)
    (subst (λ xs. SpellsParts pool m (p ++ []) (ss ++ xs)) (sym steps)
    (subst (λ q. SpellsParts pool m q (ss ++ [])) (sym (append-nil p)) (subst (λ xs. SpellsParts pool m p xs) (sym (append-nil ss)) (last part))))
part_then pool m {p = p} {ss = ss} rest ts part (inr (n, q, to, bytes, more)) = subst (λ r. SpellsParts pool m (p ++ r) (ss ++ ts)) (sym bytes) (inside part to more)

brackets_then : (pool : Types) (m : ℕ) (w cs : List ℕ) (f : FieldView) (ss : List Step) → Names pool m w f → Inside pool f.shape f.kind cs ss
    → SpellsParts pool m (w ++ (91 ∷ cs)) (field f.number ∷ ss)
brackets_then pool m w cs f ss is i =
    subst (λ q. SpellsParts pool m (w ++ (91 ∷ q)) (field f.number ∷ ss)) (sym i.bytes)
    (subst (λ xs. SpellsParts pool m (w ++ (91 ∷ (i.s ++ (93 ∷ i.rest)))) (field f.number ∷ xs)) (sym i.steps)
    (subst (λ q. SpellsParts pool m q (field f.number ∷ i.step ∷ i.ts))
    (append_assoc w (in_brackets i.s) i.rest ∙ ap (λ (q : List ℕ). w ++ (91 ∷ q)) (append_assoc i.s (93 ∷ []) i.rest))
    (part_then pool m i.rest i.ts (one_of_many i.s i.step is i.spelled) i.tail)))

of_shape : (pool : Types) (h g : Shape) (k : Kind) (cs : List ℕ) (ss : List Step) → h ≡ g → Inside pool g k cs ss → Inside pool h k cs ss
of_shape pool h g k cs ss e i = subst (λ x. Inside pool x k cs ss) (sym e) i

-- ---- a byte of a name

record After91 (pool : Types) (h : Shape) (k : Kind) (x : Reading) : Type 0 where
  is_word : IsWord x []
  is_rest : (cs : List ℕ) (ss : List Step) → Rest pool x [] cs ss → Inside pool h k cs ss

in_shape : (pool : Types) (h : Shape) (k : Kind) (x : Reading) → bracketed h k ≡ Some x → After91 pool h k x
in_shape pool (shape.List packed) k x e =
    let same : next.Index k ≡ x = cc in
    subst (After91 pool (shape.List packed) k) same (record {
      is_word = tt;
      is_rest = λ cs ss i. record { s = i.s; rest = i.rest; step = i.step; ts = i.ts; bytes = i.bytes; spelled = i.spelled; tail = i.tail; steps = i.steps };
    })
in_shape pool (shape.Map keys) k x e = by_string (is_string keys) refl
  where
    by_string : (b : Bool) → is_string keys ≡ b → After91 pool (shape.Map keys) k x
    by_string true b =
        let same : next.Quote k ≡ x = ap (λ c. cond c (next.Quote k) (next.Key keys k)) (sym b) ∙ some_is _ x e in
        subst (After91 pool (shape.Map keys) k) same (record {
          is_word = refl;
          is_rest = λ cs ss i. of_shape pool (shape.Map keys) (shape.Map kind.Text) k cs ss (ap (λ y. shape.Map y) (is_text keys b)) i;
        })
    by_string false b =
        let same : next.Key keys k ≡ x = ap (λ c. cond c (next.Quote k) (next.Key keys k)) (sym b) ∙ some_is _ x e in
        subst (After91 pool (shape.Map keys) k) same (record { is_word = tt; is_rest = λ cs ss i. i })
in_shape pool shape.Implicit k x e = absurd (cc)
in_shape pool shape.Explicit k x e = absurd (cc)
in_shape pool (shape.OneofMember o) k x e = absurd (cc)

word_more : (w : List ℕ) (c : ℕ) → list_all continues_word w ≡ true → continues_word c ≡ true → list_all continues_word (w ++ c ∷ []) ≡ true
word_more [] c every is = rw is refl
word_more (d ∷ ds) c every is = by_first (continues_word d) refl every (λ rest. word_more ds c rest is)
  where
    by_first : (b : Bool) → continues_word d ≡ b → (b && list_all continues_word ds) ≡ true
        → (list_all continues_word ds ≡ true → list_all continues_word (ds ++ c ∷ []) ≡ true) → (continues_word d && list_all continues_word (ds ++ c ∷ [])) ≡ true
    by_first true e every more = rw e (more every)
    by_first false e every more = absurd (cc)

record IsName (k : Kind) (x : Reading) : Type 0 where
  n : ℕ
  to : message_of_kind k ≡ Some n
  is : in_message n ≡ x

name_after : (k : Kind) (x : Reading) → name_in k ≡ Some x → IsName k x
name_after (kind.Message m) x e = record { n = m.0; to = refl; is = some_is (next.Name m) x e }
name_after (kind.Group m) x e = record { n = m.0; to = refl; is = some_is (next.Name m) x e }
name_after kind.Double x e = absurd (cc)
name_after kind.Float x e = absurd (cc)
name_after kind.Int64 x e = absurd (cc)
name_after kind.Uint64 x e = absurd (cc)
name_after kind.Int32 x e = absurd (cc)
name_after kind.Fixed64 x e = absurd (cc)
name_after kind.Fixed32 x e = absurd (cc)
name_after kind.Bool x e = absurd (cc)
name_after kind.Text x e = absurd (cc)
name_after kind.Bytes x e = absurd (cc)
name_after kind.Uint32 x e = absurd (cc)
name_after (kind.Enum i) x e = absurd (cc)
name_after (kind.ClosedEnum i) x e = absurd (cc)
name_after kind.Sfixed32 x e = absurd (cc)
name_after kind.Sfixed64 x e = absurd (cc)
name_after kind.Sint32 x e = absurd (cc)
name_after kind.Sint64 x e = absurd (cc)

-- a dot after a value, and the rest of the path
record AfterDot (k : Kind) (c : ℕ) (x : Reading) : Type 0 where
  dot : c ≡ 46
  name : IsName k x

dot_after : (k : Kind) (c : ℕ) (x : Reading) → after_value k c ≡ Some x → AfterDot k c x
dot_after k c x e = by_dot (c == 46) refl e
  where
    by_dot : (b : Bool) → (c == 46) ≡ b → (if b then name_in k else None) ≡ Some x → AfterDot k c x
    by_dot true is e = record { dot = is_byte c 46 is; name = name_after k x e }
    by_dot false is e = absurd (cc)

dot_then : (pool : Types) (k : Kind) (c : ℕ) (x : Reading) (cs : List ℕ) (ss : List Step) → AfterDot k c x → Rest pool x [] cs ss → AtTail pool k (c ∷ cs) ss
dot_then pool k c x cs ss d rest =
    inr (d.name.n, cs, d.name.to, ap (λ y. y ∷ cs) d.dot, subst (λ y. Rest pool y [] cs ss) (sym d.name.is) rest)

name_word : (k : Kind) (x : Reading) → IsName k x → IsWord x []
name_word k x i = subst (λ y. IsWord y []) i.is refl

module _ (pool : Types) (at c : ℕ) (cs : List ℕ) (z : Read) (later : Later pool (suc at) cs z) where
  abbrev go : Result Read Unread → Result Read Unread
  go r = on_read (λ x. read_on pool (suc at) x cs) r

  name_step : (m : MessageId) (w : List ℕ) (a : List PlainValue) (l t : List ℕ) → list_all continues_word w ≡ true
      → go (name_byte pool m at (state (next.Name m) w a l t) c) ≡ Ok z → Derived pool (next.Name m) w (c ∷ cs) a l t z
  name_step m w a l t is_word e = by_word (continues_word c) refl e
    where
      of_field : (f : FieldView) (ss : List Step) → Extends (a ++ plain 21 f.number ∷ []) l t ss z → SpellsParts pool m.0 (w ++ (c ∷ cs)) (field f.number ∷ ss)
          → Derived pool (next.Name m) w (c ∷ cs) a l t z
      of_field f ss extends spelled = record { ss = field f.number ∷ ss; rest = spelled; extends = extends_plain a l t (field f.number) ss z refl extends }

      by_many : (f : FieldView) (x : Reading) → Names pool m.0 w f → read_on pool (suc at) (state x [] (a ++ plain 21 f.number ∷ []) l t) cs ≡ Ok z
          → (b : Bool) → is_many f.shape ≡ b → (if b then None else after_value f.kind c) ≡ Some x → Derived pool (next.Name m) w (c ∷ cs) a l t z
      by_many f x is e true many next_is = absurd (cc)
      by_many f x is e false many next_is =
          let dot = dot_after f.kind c x next_is in
          let d = later x [] (a ++ plain 21 f.number ∷ []) l t (name_word f.kind x dot.name) e in
          of_field f d.ss d.extends (part_then pool m.0 (c ∷ cs) d.ss (one is many) (dot_then pool f.kind c x cs d.ss dot d.rest))

      by_bracket : (f : FieldView) (x : Reading) → Names pool m.0 w f → read_on pool (suc at) (state x [] (a ++ plain 21 f.number ∷ []) l t) cs ≡ Ok z
          → (b : Bool) → (c == 91) ≡ b → (if b then bracketed f.shape f.kind else (if is_many f.shape then None else after_value f.kind c)) ≡ Some x
          → Derived pool (next.Name m) w (c ∷ cs) a l t z
      by_bracket f x is e true bracket next_is =
          let i = in_shape pool f.shape f.kind x next_is in
          let d = later x [] (a ++ plain 21 f.number ∷ []) l t i.is_word e in
          of_field f d.ss d.extends
          (subst (λ y. SpellsParts pool m.0 (w ++ (y ∷ cs)) (field f.number ∷ d.ss)) (sym (is_byte c 91 bracket))
          (brackets_then pool m.0 w cs f d.ss is (i.is_rest cs d.ss d.rest)))
      by_bracket f x is e false bracket next_is = by_many f x is e (is_many f.shape) refl next_is

      by_next : (f : FieldView) → Names pool m.0 w f → (o : Option Reading) → after_name f.shape f.kind c ≡ o
          → go (stepped at (state (next.Name m) w a l t) (plain 21 f.number) o) ≡ Ok z → Derived pool (next.Name m) w (c ∷ cs) a l t z
      by_next f is None next_is e = not_ok (NoPath at) z e
      by_next f is (Some x) next_is e = by_bracket f x is e (c == 91) refl next_is

      by_field : (o : Option FieldView) → named pool m.0 w ≡ o → go (name_ended at (state (next.Name m) w a l t) (Some c) o) ≡ Ok z
          → Derived pool (next.Name m) w (c ∷ cs) a l t z
      by_field None found e = not_ok _ z e
      by_field (Some f) found e = by_next f (name_found pool m.0 w f is_word found) (after_name f.shape f.kind c) refl e

      by_word : (b : Bool) → continues_word c ≡ b
          → go (if b then Ok (with_byte (state (next.Name m) w a l t) (next.Name m) c) else name_ended at (state (next.Name m) w a l t) (Some c) (named pool m.0 w)) ≡ Ok z
          → Derived pool (next.Name m) w (c ∷ cs) a l t z
      by_word true is e =
          let d = later (next.Name m) (w ++ c ∷ []) a l t (word_more w c is_word is) e in
          record { ss = d.ss; rest = subst (λ p. SpellsParts pool m.0 p d.ss) (append_assoc w (c ∷ []) cs) d.rest; extends = d.extends }
      by_word false is e = by_field (named pool m.0 w) refl e

  -- ---- a byte in brackets

  index_step : (k : Kind) (w : List ℕ) (a : List PlainValue) (l t : List ℕ) → go (index_byte k at (state (next.Index k) w a l t) c) ≡ Ok z
      → Derived pool (next.Index k) w (c ∷ cs) a l t z
  index_step k w a l t e = by_end (c == 93) refl e
    where
      by_number : (o : Option ℕ) → decimal w ≡ o → c ≡ 93 → go (number_ended at (state (next.Index k) w a l t) 22 o (next.After k)) ≡ Ok z
          → Derived pool (next.Index k) w (c ∷ cs) a l t z
      by_number None is end e = not_ok _ z e
      by_number (Some n) is end e =
          let d = later (next.After k) [] (a ++ plain 22 n ∷ []) l t refl e in let r = number_read w n is in
          record {
            ss = index n ∷ d.ss;
            rest = record {
              s = w;
              rest = cs;
              step = index n;
              ts = d.ss;
              bytes = ap (λ y. w ++ (y ∷ cs)) end;
              spelled = (n, refl, r.0, r.1);
              tail = d.rest;
              steps = refl;
            };
            extends = extends_plain a l t (index n) d.ss z refl d.extends;
          }

      by_end : (b : Bool) → (c == 93) ≡ b
          → go (if b then number_ended at (state (next.Index k) w a l t) 22 (decimal w) (next.After k) else Ok (with_byte (state (next.Index k) w a l t) (next.Index k) c)) ≡ Ok z
          → Derived pool (next.Index k) w (c ∷ cs) a l t z
      by_end true is e = by_number (decimal w) refl (is_byte c 93 is) e
      by_end false is e =
          let d = later (next.Index k) (w ++ c ∷ []) a l t tt e in
          record { ss = d.ss; rest = subst (λ p. Inside pool (shape.List false) k p d.ss) (append_assoc w (c ∷ []) cs) d.rest; extends = d.extends }

  key_step : (keys k : Kind) (w : List ℕ) (a : List PlainValue) (l t : List ℕ) → go (key_byte keys k at (state (next.Key keys k) w a l t) c) ≡ Ok z
      → Derived pool (next.Key keys k) w (c ∷ cs) a l t z
  key_step keys k w a l t e = by_end (c == 93) refl e
    where
      by_number : (o : Option ℕ) → key_bits keys w ≡ o → c ≡ 93 → go (number_ended at (state (next.Key keys k) w a l t) (key_kind keys) o (next.After k)) ≡ Ok z
          → Derived pool (next.Key keys k) w (c ∷ cs) a l t z
      by_number None is end e = not_ok _ z e
      by_number (Some n) is end e =
          let d = later (next.After k) [] (a ++ plain (key_kind keys) n ∷ []) l t refl e in let r = key_read keys w n is in
          record {
            ss = key r.scalar ∷ d.ss;
            rest = record {
              s = w;
              rest = cs;
              step = key r.scalar;
              ts = d.ss;
              bytes = ap (λ y. w ++ (y ∷ cs)) end;
              spelled = (r.scalar, refl, r.spelled);
              tail = d.rest;
              steps = refl;
            };
            extends =
                extends_plain a l t (key r.scalar) d.ss z r.no_string
                (subst (λ v. Extends (a ++ v ∷ []) l t d.ss z) (sym (r.plain_is (length l))) d.extends);
          }

      by_end : (b : Bool) → (c == 93) ≡ b
          → go (if b then number_ended at (state (next.Key keys k) w a l t) (key_kind keys) (key_bits keys w) (next.After k) else Ok (with_byte (state (next.Key keys k) w a l t) (next.Key keys k) c))
          ≡ Ok z
          → Derived pool (next.Key keys k) w (c ∷ cs) a l t z
      by_end true is e = by_number (key_bits keys w) refl (is_byte c 93 is) e
      by_end false is e =
          let d = later (next.Key keys k) (w ++ c ∷ []) a l t tt e in
          record { ss = d.ss; rest = subst (λ p. Inside pool (shape.Map keys) k p d.ss) (append_assoc w (c ∷ []) cs) d.rest; extends = d.extends }

  -- ---- a byte of a string

  quote_step : (k : Kind) (w : List ℕ) (a : List PlainValue) (l t : List ℕ) → w ≡ []
      → go (moved at (state (next.Quote k) w a l t) (if c == 34 then Some (next.Text k) else None)) ≡ Ok z → Derived pool (next.Quote k) w (c ∷ cs) a l t z
  quote_step k w a l t none e = by_quote (c == 34) refl e
    where
      by_quote : (b : Bool) → (c == 34) ≡ b → go (moved at (state (next.Quote k) w a l t) (if b then Some (next.Text k) else None)) ≡ Ok z
          → Derived pool (next.Quote k) w (c ∷ cs) a l t z
      by_quote true is e =
          let d = later (next.Text k) w a l t tt e in
          record {
            ss = d.ss;
            rest = record {
              s = quoted d.rest.s;
              rest = d.rest.rest;
              step = key (text d.rest.v);
              ts = d.rest.ts;
              bytes =
                  ap (λ y. y ∷ cs) (is_byte c 34 is) ∙ ap (λ (p : List ℕ). 34 ∷ p) (d.rest.bytes ∙ sym (append_assoc d.rest.s (34 ∷ []) (93 ∷ d.rest.rest)));
              spelled = (text d.rest.v, refl, (d.rest.s, d.rest.v, refl, d.rest.spelled, refl));
              tail = d.rest.tail;
              steps = d.rest.steps ∙ ap (λ (p : List ℕ). key (text (p ++ d.rest.v)) ∷ d.rest.ts) none;
            };
            extends = d.extends;
          }
      by_quote false is e = not_ok _ z e

  -- a byte of the string that is spelled by these bytes
  one_more : (k : Kind) (w q : List ℕ) (b : ℕ) (ss : List Step) → InText pool k (w ++ b ∷ []) cs ss
      → ((s v : List ℕ) → SpellsString s v → SpellsString (q ++ s) (b ∷ v)) → InText pool k w (q ++ cs) ss
  one_more k w q b ss i is = record {
    s = q ++ i.s;
    v = b ∷ i.v;
    rest = i.rest;
    ts = i.ts;
    bytes = ap (λ p. q ++ p) i.bytes ∙ sym (append_assoc q i.s (34 ∷ 93 ∷ i.rest));
    spelled = is i.s i.v i.spelled;
    tail = i.tail;
    steps = i.steps ∙ ap (λ (p : List ℕ). key (text p) ∷ i.ts) (append_assoc w (b ∷ []) i.v);
  }

  text_step : (k : Kind) (w : List ℕ) (a : List PlainValue) (l t : List ℕ) → go (Ok (text_byte k (state (next.Text k) w a l t) c)) ≡ Ok z
      → Derived pool (next.Text k) w (c ∷ cs) a l t z
  text_step k w a l t e = by_quote (c == 34) refl e
    where
      by_slash : (b : Bool) → (c == 92) ≡ b → (c == 34) ≡ false
          → go (Ok (if b then record (state (next.Text k) w a l t) { reading = next.Escape k } else with_byte (state (next.Text k) w a l t) (next.Text k) c)) ≡ Ok z
          → Derived pool (next.Text k) w (c ∷ cs) a l t z
      by_slash true is quote e =
          let d = later (next.Escape k) w a l t tt e in
          record { ss = d.ss; rest = subst (λ y. InText pool k w (y ∷ cs) d.ss) (sym (is_byte c 92 is)) d.rest; extends = d.extends }
      by_slash false is quote e =
          let d = later (next.Text k) (w ++ c ∷ []) a l t tt e in
          record { ss = d.ss; rest = one_more k w (c ∷ []) c d.ss d.rest (λ s v. itself (grind (arith, quote)) (grind (arith, is))); extends = d.extends }

      by_quote : (b : Bool) → (c == 34) ≡ b
          → go (Ok (if b then with_string (state (next.Text k) w a l t) (next.Closing k) else (if c == 92 then record (state (next.Text k) w a l t) { reading = next.Escape k } else with_byte (state (next.Text k) w a l t) (next.Text k) c)))
          ≡ Ok z
          → Derived pool (next.Text k) w (c ∷ cs) a l t z
      by_quote true is e =
          let d = later (next.Closing k) [] (a ++ plain 9 (length l) ∷ []) (l ++ length w ∷ []) (t ++ w) refl e in
          record {
            ss = key (text w) ∷ d.ss;
            rest = record {
              s = [];
              v = [];
              rest = d.rest.0;
              ts = d.ss;
              bytes = ap (λ y. y ∷ cs) (is_byte c 34 is) ∙ ap (λ (p : List ℕ). 34 ∷ p) d.rest.1;
              spelled = nothing;
              tail = d.rest.2;
              steps = ap (λ (p : List ℕ). key (text p) ∷ d.ss) (sym (append-nil w));
            };
            extends = extends_text a l t w d.ss z d.extends;
          }
      by_quote false is e = by_slash (c == 92) refl is e

  escape_step : (k : Kind) (w : List ℕ) (a : List PlainValue) (l t : List ℕ) → go (escaped_byte k at (state (next.Escape k) w a l t) c) ≡ Ok z
      → Derived pool (next.Escape k) w (c ∷ cs) a l t z
  escape_step k w a l t e = by_mark (c == 34 || c == 92) refl e
    where
      by_digits_next : (b : Bool) → (c == 120) ≡ b → go (moved at (state (next.Escape k) w a l t) (if b then Some (next.High k) else None)) ≡ Ok z
          → Derived pool (next.Escape k) w (c ∷ cs) a l t z
      by_digits_next true is e =
          let d = later (next.High k) w a l t tt e in
          record { ss = d.ss; rest = subst (λ y. InText pool k w (92 ∷ y ∷ cs) d.ss) (sym (is_byte c 120 is)) d.rest; extends = d.extends }
      by_digits_next false is e = not_ok _ z e

      by_mark : (b : Bool) → (c == 34 || c == 92) ≡ b
          → go (if b then Ok (with_byte (state (next.Escape k) w a l t) (next.Text k) c) else moved at (state (next.Escape k) w a l t) (if c == 120 then Some (next.High k) else None))
          ≡ Ok z
          → Derived pool (next.Escape k) w (c ∷ cs) a l t z
      by_mark true is e =
          let d = later (next.Text k) (w ++ c ∷ []) a l t tt e in
          let mark : (c ≡ 34) ⊎ (c ≡ 92) = grind (arith, is) in
          record { ss = d.ss; rest = one_more k w (92 ∷ c ∷ []) c d.ss d.rest (λ s v. escaped mark); extends = d.extends }
      by_mark false is e = by_digits_next (c == 120) refl e

  high_step : (k : Kind) (w : List ℕ) (a : List PlainValue) (l t : List ℕ) → go (moved at (state (next.High k) w a l t) (high_digit k (digit_of c))) ≡ Ok z
      → Derived pool (next.High k) w (c ∷ cs) a l t z
  high_step k w a l t e = by_digit (digit_of c) refl e
    where
      by_digit : (o : Option ℕ) → digit_of c ≡ o → go (moved at (state (next.High k) w a l t) (high_digit k o)) ≡ Ok z
          → Derived pool (next.High k) w (c ∷ cs) a l t z
      by_digit None is e = not_ok _ z e
      by_digit (Some x) is e =
          let d = later (next.Low k x) w a l t tt e in record { ss = d.ss; rest = d.rest c is; extends = d.extends }

  low_step : (k : Kind) (x : ℕ) (w : List ℕ) (a : List PlainValue) (l t : List ℕ) → go (low_byte k x at (state (next.Low k x) w a l t) (digit_of c)) ≡ Ok z
      → Derived pool (next.Low k x) w (c ∷ cs) a l t z
  low_step k x w a l t e = by_digit (digit_of c) refl e
    where
      by_digit : (o : Option ℕ) → digit_of c ≡ o → go (low_byte k x at (state (next.Low k x) w a l t) o) ≡ Ok z → Derived pool (next.Low k x) w (c ∷ cs) a l t z
      by_digit None is e = not_ok _ z e
      by_digit (Some y) is e =
          let d = later (next.Text k) (w ++ byte_of x y ∷ []) a l t tt e in
          record {
            ss = d.ss;
            rest = λ h high.
                one_more k w (92 ∷ 120 ∷ h ∷ c ∷ []) (x * 16 + y) d.ss
                (subst (λ b. InText pool k (w ++ b ∷ []) cs d.ss) (byte_is x y (digit_small h x high) (digit_small c y is)) d.rest) (λ s v. by_digits high is);
            extends = d.extends;
          }

  closing_step : (k : Kind) (w : List ℕ) (a : List PlainValue) (l t : List ℕ) → w ≡ []
      → go (moved at (state (next.Closing k) w a l t) (if c == 93 then Some (next.After k) else None)) ≡ Ok z → Derived pool (next.Closing k) w (c ∷ cs) a l t z
  closing_step k w a l t none e = by_end (c == 93) refl e
    where
      by_end : (b : Bool) → (c == 93) ≡ b → go (moved at (state (next.Closing k) w a l t) (if b then Some (next.After k) else None)) ≡ Ok z
          → Derived pool (next.Closing k) w (c ∷ cs) a l t z
      by_end true is e =
          let d = later (next.After k) w a l t none e in
          record { ss = d.ss; rest = (cs, ap (λ y. y ∷ cs) (is_byte c 93 is), d.rest); extends = d.extends }
      by_end false is e = not_ok _ z e

  after_step : (k : Kind) (w : List ℕ) (a : List PlainValue) (l t : List ℕ) → w ≡ [] → go (moved at (state (next.After k) w a l t) (after_value k c)) ≡ Ok z
      → Derived pool (next.After k) w (c ∷ cs) a l t z
  after_step k w a l t none e = by_next (after_value k c) refl e
    where
      by_next : (o : Option Reading) → after_value k c ≡ o → go (moved at (state (next.After k) w a l t) o) ≡ Ok z → Derived pool (next.After k) w (c ∷ cs) a l t z
      by_next None is e = not_ok _ z e
      by_next (Some x) is e =
          let dot = dot_after k c x is in
          let d = later x w a l t (subst (λ p. IsWord x p) (sym none) (name_word k x dot.name)) e in
          record { ss = d.ss; rest = dot_then pool k c x cs d.ss dot (subst (λ p. Rest pool x p cs d.ss) none d.rest); extends = d.extends }

  byte_step : (x : Reading) (w : List ℕ) (a : List PlainValue) (l t : List ℕ) → IsWord x w → go (with_next pool at (state x w a l t) c) ≡ Ok z
      → Derived pool x w (c ∷ cs) a l t z
  byte_step (next.Name m) w a l t is e = name_step m w a l t is e
  byte_step (next.Index k) w a l t is e = index_step k w a l t e
  byte_step (next.Key keys k) w a l t is e = key_step keys k w a l t e
  byte_step (next.Quote k) w a l t is e = quote_step k w a l t is e
  byte_step (next.Text k) w a l t is e = text_step k w a l t e
  byte_step (next.Escape k) w a l t is e = escape_step k w a l t e
  byte_step (next.High k) w a l t is e = high_step k w a l t e
  byte_step (next.Low k x) w a l t is e = low_step k x w a l t e
  byte_step (next.Closing k) w a l t is e = closing_step k w a l t is e
  byte_step (next.After k) w a l t is e = after_step k w a l t is e

-- ---- the end of a path

name_end : (pool : Types) (at : ℕ) (m : MessageId) (w : List ℕ) (a : List PlainValue) (l t : List ℕ) (z : Read) → list_all continues_word w ≡ true
    → name_ended at (state (next.Name m) w a l t) None (named pool m.0 w) ≡ Ok z → Derived pool (next.Name m) w [] a l t z
name_end pool at m w a l t z is_word e = by_field (named pool m.0 w) refl e
  where
    by_many : (f : FieldView) → Names pool m.0 w f → (b : Bool) → is_many f.shape ≡ b → SpellsParts pool m.0 w (field f.number ∷ [])
    by_many f is true many = all is many
    by_many f is false many = last (one is many)

    by_field : (o : Option FieldView) → named pool m.0 w ≡ o → name_ended at (state (next.Name m) w a l t) None o ≡ Ok z → Derived pool (next.Name m) w [] a l t z
    by_field None found e = not_ok _ z e
    by_field (Some f) found e =
        let same : state (next.After f.kind) [] (a ++ plain 21 f.number ∷ []) l t ≡ z = cc in
        record {
          ss = field f.number ∷ [];
          rest =
              subst (λ p. SpellsParts pool m.0 p (field f.number ∷ [])) (sym (append-nil w))
              (by_many f (name_found pool m.0 w f is_word found) (is_many f.shape) refl);
          extends =
              extends_plain a l t (field f.number) [] z refl
              (subst (λ y. Extends (a ++ plain 21 f.number ∷ []) l t [] y) same (extends_none (next.After f.kind) [] (a ++ plain 21 f.number ∷ []) l t));
        }

end_step : (pool : Types) (at : ℕ) (z : Read) (x : Reading) (w : List ℕ) (a : List PlainValue) (l t : List ℕ) → IsWord x w
    → end_in pool at (state x w a l t) x ≡ Ok z → Derived pool x w [] a l t z
end_step pool at z (next.Name m) w a l t is e = name_end pool at m w a l t z is e
end_step pool at z (next.After k) w a l t is e =
    let same : state (next.After k) w a l t ≡ z = cc in
    record { ss = []; rest = inl (refl, refl); extends = subst (λ y. Extends a l t [] y) same (extends_none (next.After k) w a l t) }
end_step pool at z (next.Index k) w a l t is e = not_ok _ z e
end_step pool at z (next.Key keys k) w a l t is e = not_ok _ z e
end_step pool at z (next.Quote k) w a l t is e = not_ok _ z e
end_step pool at z (next.Text k) w a l t is e = not_ok _ z e
end_step pool at z (next.Escape k) w a l t is e = not_ok _ z e
end_step pool at z (next.High k) w a l t is e = not_ok _ z e
end_step pool at z (next.Low k y) w a l t is e = not_ok _ z e
end_step pool at z (next.Closing k) w a l t is e = not_ok _ z e

-- ---- paths

derived : (pool : Types) (z : Read) (cs : List ℕ) (at : ℕ) → 0 < at + length cs → Later pool at cs z
derived pool z [] at some x w a l t is e =
    let not_first : (at == 0) ≡ false = grind (arith, some) in
    end_step pool at z x w a l t is (ap (λ b. if b then Ok (state x w a l t) else end_in pool at (state x w a l t) x) (sym not_first) ∙ e)
derived pool z (c ∷ cs) at some x w a l t is e = byte_step pool at c cs z (derived pool z cs (suc at) (omega arith)) x w a l t is e

-- a path that is read spells the steps
pub path_derived : (pool : Types) (m : ℕ) (path : List ℕ) (r : Read) → path_read pool m path ≡ Ok r → IsSpelledBy pool m path r
path_derived pool m [] r e =
    let same : unread m ≡ r = cc in
    subst (IsSpelledBy pool m []) same (record { steps = []; spelled = message; holds = record { steps = refl; lengths = refl; strings = refl } })
path_derived pool m (c ∷ p) r e =
    let d = derived pool r (c ∷ p) 0 (omega arith) (in_message m) [] [] [] [] refl e in
    record {
      steps = d.ss;
      spelled = parts d.rest;
      holds = record { steps = d.extends.steps; lengths = d.extends.lengths; strings = d.extends.strings };
    }
