-- What the next token is not.
use Rattle.std.proofs.Common.{◌≡◌, true, refl, sym, ap, not}
use Rattle.pb_text_tree.specs.Grammar.{Next, is_string}
use Rattle.pb_text_tree.specs.Seen.{next_view}
use Rattle.pb_text_tree.specs.declared.source.Next.{Next as CodeNext}
use Rattle.pb_text_tree.specs.declared.source.Next.TheVariants as next

-- a token that is no string
pub no_string_there : (n : CodeNext) (t : Next) → next_view n ≡ t → ((w : _) → n ≡ next.Quoted w → ⊥) → not (is_string t) ≡ true
no_string_there (next.Word w) t e f = ap (λ u. not (is_string u)) (sym e)
no_string_there (next.Number k w) t e f = ap (λ u. not (is_string u)) (sym e)
no_string_there (next.Quoted w) t e f = absurd (f w refl)
no_string_there (next.Mark c) t e f = ap (λ u. not (is_string u)) (sym e)
no_string_there next.End t e f = ap (λ u. not (is_string u)) (sym e)
