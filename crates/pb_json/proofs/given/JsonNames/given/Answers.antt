use Rattle.std.proofs.Common.{Option, Some, option_map, string_bytes, Bor, String, Global, sym, ap, ◌∙◌}
use Rattle.std.specs.Option.{option_copied}
use Rattle.pb_json.specs.Given.{NamesGiven, name_given}
use Rattle.pb_json.proofs.GivenLemmas.{found_seen}
use Rattle.pb_json.proofs.given.JsonNames.given.Goals as goal

pub returns-in-Some : goal.returns-in-Some
returns-in-Some c =
    ap (λ (s : _). Some s) c.as_str.ensures.value
    ∙ ap (λ (o : Option (Bor (String Global))). option_map string_bytes (option_copied o)) (sym c.in-Some.is)
    ∙ ap (λ (o : Option (String Global)). option_map string_bytes o) c.get.ensures.value
    ∙ found_seen c.args.message.0 c.args.number c.self.inside.names.entries
    ∙ ap (λ (v : NamesGiven). name_given v c.args.message.0 c.args.number) c.self.view_is

pub returns-in-None : goal.returns-in-None
returns-in-None c =
    ap (λ (o : Option (Bor (String Global))). option_map string_bytes (option_copied o)) (sym c.in-None.is)
    ∙ ap (λ (o : Option (String Global)). option_map string_bytes o) c.get.ensures.value
    ∙ found_seen c.args.message.0 c.args.number c.self.inside.names.entries
    ∙ ap (λ (v : NamesGiven). name_given v c.args.message.0 c.args.number) c.self.view_is
