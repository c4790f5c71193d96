use Rattle.std.proofs.Common.{◌≡◌, Some, None, ap, sym, ◌∙◌, nat_cmp}
use Rattle.std.specs.Map.{lookup}
use Rattle.std.specs.Option.{option_copied_mut}
use Rattle.std.specs.BTreeMap.{is_at}
use Rattle.pb_wire.specs.Unknown.{records_of}
use Rattle.pb_value.specs.declared.body.Body.{out-Body}
use Rattle.pb_value.specs.Data.{Fields, body}
use Rattle.pb_value.proofs.Views.{body_view-roll, body_view-out}
use Rattle.pb_descr_message.specs.Without.{each_held, file_without}
use Rattle.pb_descr_message.proofs.WithoutLemmas.{content_changed, content_missing}
use Rattle.pb_descr_message.proofs.stripping.strip_set.Goals as goal

pub returns-in-Some : goal.returns-in-Some
returns-in-Some c =
    let fs = (out-Body c.args.set.now).fields.entries in
    let us = records_of (out-Body c.args.set.now).unknown.items in
    let written = (c.get_mut.follows.holds c.strip_file_list.new.content).0 in
    let found : lookup (is_at (nat_cmp 1)) fs ≡ Some c.in-Some.content.now = sym c.get_mut.ensures.value ∙ ap option_copied_mut c.in-Some.is in
    rw (body_view-roll, body_view-out, written) (ap (λ (gs : Fields). body gs us)
    (content_changed (each_held file_without) 1 c.in-Some.content.now c.strip_file_list.new.content fs c.get_mut.ensures.ordered found c.strip_file_list.ensures))

pub returns-in_default : goal.returns-in_default
returns-in_default c =
    let fs = (out-Body c.args.set.now).fields.entries in
    let us = records_of (out-Body c.args.set.now).unknown.items in
    let gone : lookup (is_at (nat_cmp 1)) fs ≡ None = sym c.get_mut.ensures.value ∙ ap option_copied_mut c.in_default.is in
    rw (body_view-roll, body_view-out, c.get_mut.follows.holds-at-none) (ap (λ (gs : Fields). body gs us) (content_missing (each_held file_without) 1 fs gone))
