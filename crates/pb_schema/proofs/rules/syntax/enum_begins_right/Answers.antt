use Rattle.std.proofs.Common.{◌↔◌, ℤ, List, IsTrue, map, string_bytes, String, Global, subst}
use Rattle.std.specs.Prelude.{Bool}
use Rattle.pb_schema.specs.View.{file_view}
use Rattle.pb_schema.specs.Types.{is_proto2}
use Rattle.pb_schema.specs.Rules.{BeginsRight}
use Rattle.pb_schema.proofs.rules.syntax.enum_begins_right.Goals as goal

pub returns : goal.returns
returns c =
    subst (λ (l : List (String Global × ℤ)). IsTrue c.begins_right.result ↔ BeginsRight (is_proto2 (map file_view c.args.files.now) c.args.entry.now.file) (map (λ v. (string_bytes v.0, v.1)) l)) c.deref.ensures.value
    (subst (λ (two : Bool). IsTrue c.begins_right.result ↔ BeginsRight two (map (λ v. (string_bytes v.0, v.1)) c.deref.result.now)) c.is_proto2.ensures c.begins_right.ensures)
