use Rattle.std.proofs.Common.{◌++◌, ap, ◌∙◌, subst}
use Rattle.pb_text_tokens.specs.Strings.{string_meaning}
use Rattle.pb_text_tree.specs.Grammar.{MoreStrings}
use Rattle.pb_text_tree.specs.Seen.{text_of}
use Rattle.pb_text_tree.specs.Steps.{Answers}
use Rattle.pb_text_tree.specs.View.{scalar_view}
use Rattle.pb_text_tree.proofs.source.Source.strings.Goals as goal

pub returns-clause-read : goal.returns-clause-read
returns-clause-read c =
    subst (λ s. Answers scalar_view (MoreStrings (text_of c.args.self.now) s c.args.from) c.more_strings.result)
    (c.in_ok-push_string.ensures ∙ ap (λ b. b ++ string_meaning c.args.first.now) c.new-bytes.ensures.items) c.more_strings.ensures.read
