use Rattle.std.proofs.Common.{◌≡◌, true, false, ap, codes, sym, ◌∙◌}
use Rattle.std.specs.Prelude.{◌==◌}
use Rattle.std.specs.List.{ends_with, list_any}
use Rattle.std.specs.Str.{bytes_eq}
use Rattle.clap.proofs.WalkLemmas.{list_any-map}
use Rattle.pbtool_command.specs.CompileAnswer.{texts_of}
use Rattle.pbtool_cli.proofs.misuse.is_source.Goals as goal

pub returns-then-contains : goal.returns-then-contains
returns-then-contains c =
    let is : c.contains.result ≡ list_any (λ name. bytes_eq name c.args.path.now) (texts_of c.args.names.now) =
    c.contains.ensures.value ∙ list_any-map (λ name. bytes_eq name c.args.path.now) (λ t. t.now) c.args.names.now in
    let among : list_any (λ name. bytes_eq name c.args.path.now) (texts_of c.args.names.now) ≡ true = sym is ∙ c.if-contains.true in
    rw among c.if-contains.true

pub returns-else-contains : goal.returns-else-contains
returns-else-contains c =
    let is : c.contains.result ≡ list_any (λ name. bytes_eq name c.args.path.now) (texts_of c.args.names.now) =
    c.contains.ensures.value ∙ list_any-map (λ name. bytes_eq name c.args.path.now) (λ t. t.now) c.args.names.now in
    let among : list_any (λ name. bytes_eq name c.args.path.now) (texts_of c.args.names.now) ≡ false = sym is ∙ c.if-contains.false in
    rw among (c.ends_with.ensures.value ∙ ap (λ b. ends_with ◌==◌ b (codes ".proto")) c.as_bytes.ensures.value)
