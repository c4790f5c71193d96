use Rattle.std.proofs.Common.{sym, ap, ◌∙◌, subst}
use Rattle.std.specs.Str.{IsUtf8}
use Rattle.std.proofs.lemmas.Bool.{false≢true}
use Rattle.pb_schema.specs.Names.{entry_name}
use Rattle.pb_schema.proofs.EntryNames.{entry_utf8}
use Rattle.pb_source.proofs.parsing.declared.entry_text.Goals as goal

pub unreachable-requires : goal.unreachable-requires
unreachable-requires c =
    false≢true (c.in-Err.ensures.succeeds
    (subst IsUtf8 (sym (c.in_ok-bytes.ensures ∙ ap entry_name c.as_bytes.ensures.value)) (entry_utf8 c.args.name.now c.utf8.name)))
