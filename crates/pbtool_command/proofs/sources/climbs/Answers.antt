use Rattle.std.proofs.Common.{rules, codes}
use Rattle.std.specs.Str.{bytes_eq}
use borrow.Author.Tests.{tests}
use Rattle.std.proofs.lemmas.Iterator.Search.{any_from_yields_List}
use Rattle.std.proofs.lemmas.Iterator.Splits.{YieldsList-from_str_split}
use Rattle.std.proofs.Common.{lit<}
use Rattle.pbtool_command.proofs.sources.climbs.Goals as goal

pub returns : goal.returns
returns c =
    any_from_yields_List (λ part. bytes_eq part (codes "..")) _ _ c.any.result c.any.ensures.ran
    (YieldsList-from_str_split 47 c.args.name.now (lit< tt) c.split.ensures.text c.split.ensures.has_more c.split.ensures.pattern)
    (λ x b q k. search (rules, tests))
