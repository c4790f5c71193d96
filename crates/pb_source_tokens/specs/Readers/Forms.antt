-- Readers: what of the symbols is read, and what is left, or where they are refused and why; and how readers are built of readers.
use Rattle.std.specs.Prelude.{ℕ, zero, suc, List, [], ◌∷◌, ◌++◌, Bool, true, false, if◌then◌else◌, Option, Some, None, Result, Ok, Err}
use Rattle.std.specs.Str.{bytes_eq}
use Rattle.pb_source_tokens.specs.declared.rule.Rule.{Rule}
use Rattle.pb_source_tokens.specs.Symbols.{Symbol, word, number, text, sign}
use Rattle.pb_source_tokens.specs.Language.{Rules}

-- the symbols from the refused one on, and the rule that it breaks; None where it was not expected
abbrev pub Refusal : Type 0
Refusal = List Symbol × Option Rule

-- the value, and the symbols that are left
abbrev pub Outcome : Type 0 → Type 0
Outcome A = Result (A × List Symbol) Refusal

abbrev pub Reader : Type 0 → Type 0
Reader A = Rules → List Symbol → Outcome A

-- ---- one after another

abbrev pub on_outcome : {A B : Type 0} → Outcome A → (A → List Symbol → Outcome B) → Outcome B
on_outcome (Ok x) f = f x.0 x.1
on_outcome (Err e) f = Err e

-- nothing is read
abbrev pub answer : {A : Type 0} → A → Reader A
answer v rules ts = Ok (v, ts)

-- one reader, and then another, by the value of the first
abbrev pub chain : {A B : Type 0} → Reader A → (A → Reader B) → Reader B
chain p f rules ts = on_outcome (p rules ts) (λ v rest. f v rules rest)

-- the value, by a function
abbrev pub mapped : {A B : Type 0} → (A → B) → Reader A → Reader B
mapped g p = chain p (λ v. answer (g v))

-- two readers, and both values
abbrev pub both : {A B : Type 0} → Reader A → Reader B → Reader (A × B)
both p q = chain p (λ v. mapped (λ w. (v, w)) q)

-- a reader after one whose value says nothing
abbrev pub preceded : {B : Type 0} → Reader (Unit {0}) → Reader B → Reader B
preceded p q = chain p (λ _. q)

-- a reader before one whose value says nothing
abbrev pub before : {A : Type 0} → Reader A → Reader (Unit {0}) → Reader A
before p q = chain p (λ v. mapped (λ _. v) q)

-- ---- by the first symbol

abbrev pub first_passes : (Symbol → Bool) → List Symbol → Bool
first_passes test [] = false
first_passes test (s ∷ ts) = test s

-- one of two
abbrev pub choice : {A : Type 0} → (Symbol → Bool) → Reader A → Reader A → Reader A
choice test p q rules ts = if first_passes test ts then p rules ts else q rules ts

abbrev pub if_some : {A : Type 0} → Option (Reader A) → Reader A
if_some None rules ts = Err (ts, None)
if_some (Some p) rules ts = p rules ts

abbrev pub on_kind : {K A : Type 0} → (K → Option (Reader A)) → Option K → Reader A
on_kind p None rules ts = Err (ts, None)
on_kind p (Some k) rules ts = if_some (p k) rules ts

-- one of many, by the kind of the symbol; a symbol of no kind, or of one without a reader, is refused
abbrev pub by_kind : {K A : Type 0} → (Symbol → Option K) → (K → Option (Reader A)) → Reader A
by_kind kind p rules [] = Err ([], None)
by_kind kind p rules (s ∷ ts) = on_kind p (kind s) rules (s ∷ ts)

abbrev pub ruled : {A : Type 0} → Bool → Rule → List Symbol → Outcome A → Outcome A
ruled true r ts o = Err (ts, Some r)
ruled false r ts o = o

-- what passes the test begins what a rule forbids
abbrev pub guarded : {A : Type 0} → Rule → (Symbol → Bool) → Reader A → Reader A → Reader A
guarded r test p q rules ts = if first_passes test ts then ruled (rules r) r ts (p rules ts) else q rules ts

-- ---- one symbol

abbrev pub Verdict : Type 0 → Type 0
Verdict A = Result A (Option Rule)

abbrev pub on_verdict : {A : Type 0} → Symbol → List Symbol → Verdict A → Outcome A
on_verdict s ts (Ok v) = Ok (v, ts)
on_verdict s ts (Err why) = Err (s ∷ ts, why)

abbrev pub symbol : {A : Type 0} → (Rules → Symbol → Verdict A) → Reader A
symbol f rules [] = Err ([], None)
symbol f rules (s ∷ ts) = on_verdict s ts (f rules s)

abbrev pub or_unexpected : {A : Type 0} → Option A → Verdict A
or_unexpected None = Err None
or_unexpected (Some v) = Ok v

-- a test that no rule changes
abbrev pub plain : {A : Type 0} → (Symbol → Option A) → Rules → Symbol → Verdict A
plain g rules s = or_unexpected (g s)

abbrev pub by_rule : {A : Type 0} → Rule → Bool → Option (A × Bool) → Verdict A
by_rule r holds None = Err None
by_rule r holds (Some x) = if x.1 then Ok x.0 else (if holds then Err (Some r) else Ok x.0)

-- a test that also answers whether the symbol keeps a rule
abbrev pub judged : {A : Type 0} → Rule → (Symbol → Option (A × Bool)) → Rules → Symbol → Verdict A
judged r g rules s = by_rule r (rules r) (g s)

abbrev pub is_keyword : List ℕ → Symbol → Bool
is_keyword w (word v) = bytes_eq v w
is_keyword w (number v) = false
is_keyword w (text v) = false
is_keyword w (sign v) = false

abbrev pub is_mark : List ℕ → Symbol → Bool
is_mark w (sign v) = bytes_eq v w
is_mark w (word v) = false
is_mark w (number v) = false
is_mark w (text v) = false

abbrev pub if_so : Bool → Option (Unit {0})
if_so true = Some tt
if_so false = None

-- one symbol that passes
abbrev pub tested : (Symbol → Bool) → Reader (Unit {0})
tested test = symbol (plain (λ s. if_so (test s)))

abbrev pub keyword_reader : List ℕ → Reader (Unit {0})
keyword_reader w = tested (is_keyword w)

abbrev pub mark_reader : List ℕ → Reader (Unit {0})
mark_reader w = tested (is_mark w)

-- ---- repetition. Each takes a number that is at least that of the symbols.

-- { item } close, where what passes the test begins the close, after the items of front
abbrev pub until : {I : Type 0} → ℕ → (Symbol → Bool) → Reader I → Reader (Unit {0}) → List I → Reader (List I)
until zero test item close front rules ts = Err ([], None)
until (suc n) test item close front rules ts = choice test (mapped (λ _. front) close) (chain item (λ i. until n test item close (front ++ i ∷ []))) rules ts

-- item { separator item }, where what passes the test begins the separator
abbrev pub separated : {I : Type 0} → ℕ → (Symbol → Bool) → Reader I → Reader (Unit {0}) → Reader (List I)
separated zero test item separator rules ts = Err ([], None)
separated (suc n) test item separator rules ts =
    chain item (λ i. choice test (preceded separator (mapped (λ is. i ∷ is) (separated n test item separator))) (answer (i ∷ []))) rules ts

abbrev pub on_rest : {I : Type 0} → List I → List Symbol → Outcome (List I) → Outcome (List I)
on_rest front [] o = Ok (front, [])
on_rest front (s ∷ ts) o = o

-- { item } up to the end, after the items of front, where an item is read by whether a marked one comes before it
abbrev pub to_end : {I : Type 0} → ℕ → (I → Bool) → (Bool → Reader I) → Bool → List I → Reader (List I)
to_end zero marks item marked front rules ts = on_rest front ts (Err ([], None))
to_end (suc n) marks item marked front rules ts =
    on_rest front ts (chain (item marked) (λ i. to_end n marks item (if marked then true else marks i) (front ++ i ∷ [])) rules ts)
