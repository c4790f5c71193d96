use Rattle.std.proofs.Common.{◌↔◌, ℕ, ℤ, List, String, Global, IsTrue, ◌∙◌, map, ap, sym, subst, string_bytes}
use Rattle.pb_schema.specs.Names.{is_word}
use Rattle.pb_schema.specs.Rules.{AreWords}
use Rattle.pb_schema.proofs.AddLemmas.{map-map}
use Rattle.pb_schema.proofs.rules.names.enum_is_of_words.Goals as goal

pub returns-then-is_word : goal.returns-then-is_word
returns-then-is_word c =
    let vs = c.args.entry.now.values.items in
    let word : IsTrue (is_word (string_bytes c.args.entry.now.name)) = ap is_word (sym (c.as_bytes.ensures.value ∙ c.as_str.ensures.value)) ∙ sym c.is_word.ensures ∙ c.if-is_word.true in
    let values = subst (λ (l : List (String Global × ℤ)). IsTrue c.values_are_of_words.result ↔ AreWords (map (λ v. string_bytes v.0) l)) c.deref.ensures.value c.values_are_of_words.ensures in
    let same = subst (λ l. IsTrue c.values_are_of_words.result ↔ AreWords l) (sym (map-map (λ (v : List ℕ × ℤ). v.0) (λ (v : String Global × ℤ). (string_bytes v.0, v.1)) vs)) values in
    (λ e. (word, same.0 e), λ p. same.1 p.1)
