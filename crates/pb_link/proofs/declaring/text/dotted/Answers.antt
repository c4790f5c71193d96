use Rattle.std.proofs.Common.{◌≡◌, ◌∷◌, sym, ◌∙◌, subst, rules}
use Rattle.std.specs.Prelude.{IsUtf8}
use Rattle.std.proofs.lemmas.Str.{IsUtf8-from_ascii}
use Rattle.pb_link.proofs.AsciiLemmas.{dotted_ascii}
use Rattle.pb_link.proofs.declaring.text.dotted.Goals as goal

pub returns : goal.returns
returns c =
    let text : c.as_slice.result.now ≡ 46 ∷ c.args.name.now = search rules in
    c.in_ok-owned.ensures.ok (subst IsUtf8 (sym text) (IsUtf8-from_ascii (46 ∷ c.args.name.now) (dotted_ascii c.args.name.now c.requires))) ∙ text
