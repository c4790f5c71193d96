-- What the strict grammar takes, that of all of proto3 takes too, with the same meaning.
use Prim.Native.String.{String}
use Rattle.std.proofs.Common.{◌≡◌, ℕ, List, [], ◌∷◌, Bool, codes, Option, Some, None, inl, inr}
use Rattle.pb_source_tokens.specs.declared.grammar.Grammar.TheVariants.{Strict, Lenient}
use Rattle.pb_source_tokens.specs.declared.grammar.Syntax.TheVariants.{Proto3}
use Rattle.pb_source_tokens.specs.Symbols.{Symbol}
use Rattle.pb_source_tokens.specs.Language.{Language, ◌▸◌, all_rules}
use Rattle.pb_source_tokens.specs.Phrases.{mark, Until, Separated, part, optname, assignment, option, setting, field_option, options, field_end, value_end}

-- each word of the first language is one of the second
abbrev pub Widens : {I : Type 0} → (I → Language) → (I → Language) → Type 0
Widens {I} Item Wider = (i : I) (c : List Symbol) → Item i c → Wider i c

pub until_wider : {I : Type 0} (Item Wider : I → Language) (close : Language) → Widens Item Wider → Widens (Until Item close) (Until Wider close)
until_wider Item Wider close f [] c d = d
until_wider Item Wider close f (i ∷ is) c (a, b, ha, hb, j) = (a, b, f i a ha, until_wider Item Wider close f is b hb, j)

pub separated_wider : {I : Type 0} (Item Wider : I → Language) (separator : Language) → Widens Item Wider → Widens (Separated Item separator) (Separated Wider separator)
separated_wider Item Wider separator f [] c d = d
separated_wider Item Wider separator f (i ∷ []) c d = f i c d
separated_wider Item Wider separator f (i ∷ j ∷ is) c (a, b, ha, (x, y, hx, hy, k), l) =
    (a, b, f i a ha, (x, y, hx, separated_wider Item Wider separator f (j ∷ is) y hy, k), l)

part_wider : Widens (part Strict all_rules) (part (Lenient Proto3) all_rules)
part_wider w c (inl d) = inl d
part_wider w c (inr (r, e, d)) = absurd (cc r)

optname_wider : Widens (optname Strict all_rules) (optname (Lenient Proto3) all_rules)
optname_wider = separated_wider (part Strict all_rules) (part (Lenient Proto3) all_rules) (mark ".") part_wider

assignment_wider : (c : List Symbol) → assignment Strict all_rules c → assignment (Lenient Proto3) all_rules c
assignment_wider c (n, (a, b, ha, (x, y, hx, hy, j), k)) = (n, (a, b, optname_wider n a ha, (x, y, hx, inl hy, j), k))

pub option_wider : (c : List Symbol) → option Strict all_rules c → option (Lenient Proto3) all_rules c
option_wider c (a, b, ha, (x, y, hx, hy, j), k) = (a, b, ha, (x, y, assignment_wider x hx, hy, j), k)

pub setting_wider : (v : List ℕ) → Widens (setting Strict v all_rules) (setting (Lenient Proto3) v all_rules)
setting_wider v (Some t) c (a, b, ha, hb, k) = (a, b, optname_wider (v ∷ []) a ha, hb, k)
setting_wider v None c (n, h, (a, b, ha, (x, y, hx, hy, j), k)) = (n, h, (a, b, optname_wider n a ha, (x, y, hx, inl hy, j), k))

field_option_wider : Widens (field_option Strict all_rules) (field_option (Lenient Proto3) all_rules)
field_option_wider s c (b, d) = (b, setting_wider (codes "packed") s c d)

options_wider : {I : Type 0} (close : String) (Item Wider : I → Language) → Widens Item Wider → Widens (options close Item) (options close Wider)
options_wider close Item Wider f is c (a, b, ha, (x, y, hx, hy, j), k) = (a, b, ha, (x, y, separated_wider Item Wider (mark ",") f is x hx, hy, j), k)

pub field_end_wider : Widens (field_end Strict all_rules) (field_end (Lenient Proto3) all_rules)
field_end_wider packed c (inl d) = inl d
field_end_wider packed c (inr (ss, e, d)) = inr (ss, e, options_wider ";" (field_option Strict all_rules) (field_option (Lenient Proto3) all_rules) field_option_wider ss c d)

pub value_end_wider : (c : List Symbol) → value_end Strict all_rules c → value_end (Lenient Proto3) all_rules c
value_end_wider c (inl d) = inl d
value_end_wider c (inr (us, d)) = inr (us, options_wider ";" (λ _. assignment Strict all_rules) (λ _. assignment (Lenient Proto3) all_rules) (λ u. assignment_wider) us c d)
