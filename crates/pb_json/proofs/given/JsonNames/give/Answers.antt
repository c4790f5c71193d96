use Rattle.std.proofs.Common.{Option, Some, List, ℕ, string_bytes, sym, ap, ◌∙◌}
use Rattle.std.specs.Prelude.{◌==◌, ◌&&◌, if◌then◌else◌}
use Rattle.pb_json.specs.Given.{NamesGiven, name_given}
use Rattle.pb_json.proofs.GivenLemmas.{found_seen, given_after}
use Rattle.pb_json.proofs.given.JsonNames.give.Goals as goal

pub returns-clause-given : goal.returns-clause-given
returns-clause-given c m n =
    sym (found_seen m n c.insert.new.self.entries)
    ∙ given_after c.args.message.0 c.args.number m n c.args.name _ _ (c.in_ok-insert.ensures.updates.0 (m, n))
    ∙ ap (λ (o : Option (List ℕ)). if (m == c.args.message.0) && (n == c.args.number) then Some (string_bytes c.args.name) else o)
    (found_seen m n c.self.inside.names.entries ∙ ap (λ (v : NamesGiven). name_given v m n) c.self.view_is)
