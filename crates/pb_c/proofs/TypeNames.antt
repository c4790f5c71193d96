-- Full names of types are ASCII, so a name of one is UTF-8.
use Rattle.std.proofs.Common.{◌≡◌, ℕ, List, [], get_or, sym, subst}
use Rattle.std.specs.Str.{IsUtf8, bytes_eq}
use Rattle.std.proofs.lemmas.List.Quantifiers.{position-Some}
use Rattle.std.proofs.lemmas.Option.{slice_get-get_or}
use Rattle.std.proofs.lemmas.Slice.Eq.{bytes_eq-Decides}
use Rattle.std.proofs.lemmas.Str.{IsUtf8-from_ascii}
use Rattle.pb_schema.specs.Names.{message_names}
use Rattle.pb_schema.specs.Rules.{IsPool}
use Rattle.pb_schema.specs.Types.{Types}
use Rattle.pb_link.proofs.AsciiLemmas.{message_name_ascii}
use Rattle.pb_c.specs.PoolNames.{HasNumber}

pub name_is_text : (ts : Types) → IsPool ts → (name : List ℕ) (m : ℕ) → HasNumber ts name m → IsUtf8 name
name_is_text ts pool name m has =
    let names = message_names ts in
    let first = position-Some (bytes_eq name) names m [] has.0 in
    let there : List ℕ = get_or names m [] in
    let same : name ≡ there = (bytes_eq-Decides name there).0 first.1 in
    subst IsUtf8 (sym same) (IsUtf8-from_ascii there (message_name_ascii ts pool m there (slice_get-get_or names m [] first.0)))
