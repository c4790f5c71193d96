use Rattle.std.proofs.Common.{◌+◌, ap, sym, arith, refl, not}
use Rattle.pb_text_tree.specs.Grammar.{AnotherString, AsQuoted, is_string, next_at, no_string, string_by}
use Rattle.pb_text_tree.specs.Seen.{text_of}
use Rattle.pb_text_tree.specs.Steps.{Repeats}
use Rattle.pb_text_tree.proofs.StepLemmas.{reach_on, reach_ends, then_ok}
use Rattle.pb_text_tree.proofs.SourceLemmas.{no_string_there}
use Rattle.pb_text_tree.proofs.source.Source.more_strings.Goals as goal

pub strings-preserved : goal.strings-preserved
strings-preserved c =
    let x = text_of c.args.self.now in
    let at = c.strings.at in
    let is = c.in-Quoted.ensures.is in
    record {
      passed = omega arith;
      within = omega (arith, c.in-Quoted.ensures.within);
      read = rw c.in_ok-push_string.ensures
          (reach_on (no_string x) (AnotherString x) _ _ _ at _ (at + 1) c.strings.invariant.read (ap (λ t. not (is_string t)) (sym is))
          (ap (string_by x at c.strings.bytes.items) is));
    }

pub returns-clause-read : goal.returns-clause-read
returns-clause-read c =
    let x = text_of c.args.self.now in
    then_ok (Repeats (no_string x) (AnotherString x) _ c.args.from) AsQuoted c.strings.bytes.items c.strings.at _
    (reach_ends (no_string x) (AnotherString x) _ _ _ c.strings.at c.strings.invariant.read (no_string_there c.next.result (next_at x c.strings.at) c.next.ensures.is c.in_default.not-Quoted)) refl
