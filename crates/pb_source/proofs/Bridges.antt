-- Readers that give the same where the code looks one symbol ahead.
use Rattle.std.proofs.Common.{◌≡◌, ℕ, suc, List, [], ◌∷◌, ◌++◌, length, arith, Bool, true, false, codes, refl, ap, sym, ◌∙◌, subst, Ok, Err}
use Rattle.std.specs.Prelude.{if◌then◌else◌}
use Rattle.pb_source_tokens.specs.declared.grammar.Grammar.{Grammar}
use Rattle.pb_source_tokens.specs.Symbols.{Symbol, word}
use Rattle.pb_source_tokens.specs.Language.{Rules}
use Rattle.pb_source_tokens.specs.Readers.Forms.{Outcome, on_outcome, answer, mapped, first_passes, is_mark, keyword_reader, mark_reader}
use Rattle.pb_source_tokens.specs.Readers.Phrases.{is_dot, name_reader, fullname_reader, type_of, type_reader}
use Rattle.pb_source_tokens.proofs.SymbolTests.{reads_keyword}
use Rattle.pb_source_tokens.proofs.Compose.{never}
use Rattle.pb_source.specs.Syntaxes.{is_proto2}
use Rattle.pb_source.specs.declared.kind.Label.TheVariants.{Unlabelled}
use Rattle.pb_source.specs.Readers.Lines.{a_single, field_tail_reader, field_from, field_reader, dotted_reader, of_map_reader, map_reader}

-- names after a first one, whether the first is put before them or not
names_so : {U V : Type 0} (dot : Outcome U) (names : List Symbol → Outcome (List (List ℕ))) (w : List ℕ) (g : List (List ℕ) → V)
    → on_outcome (on_outcome dot (λ u r. on_outcome (names r) (λ ws x. Ok (w ∷ ws, x)))) (λ ws x. Ok (g ws, x))
    ≡ on_outcome (on_outcome dot (λ u r. names r)) (λ ws x. Ok (g (w ∷ ws), x))
names_so (Err e) names w g = refl
names_so (Ok d) names w g = by_names (names d.1)
  where
    by_names : (o : Outcome (List (List ℕ))) → on_outcome (on_outcome o (λ ws x. Ok (w ∷ ws, x))) (λ ws x. Ok (g ws, x)) ≡ on_outcome o (λ ws x. Ok (g (w ∷ ws), x))
    by_names (Err e) = refl
    by_names (Ok o) = refl

type_so : (n : ℕ) (rules : Rules) (w : List ℕ) (ts : List Symbol) → type_reader (suc n) rules (word w ∷ ts) ≡ mapped (λ ws. type_of (w ∷ ws)) (dotted_reader n) rules ts
unfolding type_reader fullname_reader name_reader dotted_reader
type_so n rules w ts = by_dot (first_passes is_dot ts)
  where
    by_dot : (b : Bool)
        → on_outcome (if b then on_outcome (mark_reader (codes ".") rules ts) (λ u r. on_outcome (fullname_reader n rules r) (λ ws x. Ok (w ∷ ws, x))) else Ok (w ∷ [], ts)) (λ ws x. Ok (type_of ws, x))
        ≡ on_outcome (if b then on_outcome (mark_reader (codes ".") rules ts) (λ u r. fullname_reader n rules r) else Ok ([], ts)) (λ ws x. Ok (type_of (w ∷ ws), x))
    by_dot true = names_so (mark_reader (codes ".") rules ts) (fullname_reader n rules) w type_of
    by_dot false = refl

-- where no `<` follows the word `map`, it is a field's type
map_then : (grammar : Grammar) → (n : ℕ) (rules : Rules) (ts : List Symbol) → is_proto2 grammar ≡ false → first_passes (is_mark (codes "<")) ts ≡ false
    → map_reader grammar n rules (word (codes "map") ∷ ts) ≡ mapped a_single (field_reader grammar (suc n) Unlabelled) rules (word (codes "map") ∷ ts)
unfolding map_reader of_map_reader field_reader
map_then grammar n rules ts p h =
    rw (p, h)
    (ap (λ o. on_outcome (on_outcome (on_outcome o (λ t r. mapped (λ x. (t, x)) (field_tail_reader grammar (suc n)) rules r)) (λ x r. answer (field_from Unlabelled x) rules r)) (λ f r. answer (a_single f) rules r))
    (sym (type_so n rules (codes "map") ts)))

pub map_is_field : (grammar : Grammar) → (n : ℕ) (rules : Rules) (ts mid : List Symbol) → is_proto2 grammar ≡ false → keyword_reader (codes "map") rules ts ≡ Ok (tt, mid) → first_passes (is_mark (codes "<")) mid ≡ false
    → map_reader grammar n rules ts ≡ mapped a_single (field_reader grammar (suc n) Unlabelled) rules ts
map_is_field grammar n rules ts mid p h k =
    let a = (reads_keyword {n = length ts} {e = never} (codes "map")).sound rules ts tt mid (omega arith) h in
    let e : ts ≡ word (codes "map") ∷ mid = a.joined ∙ ap (λ c. c ++ mid) a.derived in
    subst (λ ts. map_reader grammar n rules ts ≡ mapped a_single (field_reader grammar (suc n) Unlabelled) rules ts) (sym e) (map_then grammar n rules mid p k)
