use Rattle.std.proofs.Common.{ap, ◌∙◌}
use Rattle.std.specs.Prelude.{is_some}
use Rattle.std.specs.Str.{bytes_eq}
use Rattle.pb_names.proofs.NameIndexLemmas.{is_some-position}
use Rattle.pb_names.proofs.name_set.NameSet.contains.Goals as goal

pub returns : goal.returns
returns c = c.is_some.ensures ∙ ap is_some c.index_of.ensures ∙ is_some-position (bytes_eq c.args.name.now) c.args.self.now
