use Rattle.std.proofs.Common.{◌≡◌, Some, None, sym, ap, ◌∙◌, nat_cmp, option_and_then}
use Rattle.std.specs.Map.{lookup}
use Rattle.std.specs.Option.{option_copied_mut}
use Rattle.std.specs.BTreeMap.{is_at}
use Rattle.pb_wire.specs.Unknown.{records_of}
use Rattle.pb_value.specs.declared.body.Body.{out-Body}
use Rattle.pb_value.specs.Data.{Fields, Message, body, fields_of, get_field}
use Rattle.pb_value.specs.Inner.{datum_at}
use Rattle.pb_value.specs.View.{body_view, content_view, fields_view, value_view}
use Rattle.pb_value.proofs.Views.{body_view-roll, body_view-out}
use Rattle.pb_value.proofs.FieldViews.{get_field-at}
use Rattle.pb_value.specs.Change.{in_list, in_nth}
use Rattle.pb_value.proofs.Removed.{in_field-none}
use Rattle.pb_value.proofs.InPlace.{fields_view-in_field}
use Rattle.pb_value.proofs.change.element.put_element.Goals as goal

pub returns-in-Some-clause-left : goal.returns-in-Some-clause-left
returns-in-Some-clause-left c =
    let n = c.args.number in
    let fs = (out-Body c.args.body.now).fields.entries in
    let us = records_of (out-Body c.args.body.now).unknown.items in
    let content = c.in-Some.content.now in
    let new = c.put_in.new.content in
    let written = (c.get_mut.follows.holds new).0 in
    let found : lookup (is_at (nat_cmp n)) fs ≡ Some content = sym c.get_mut.ensures.value ∙ ap option_copied_mut c.in-Some.is in
    rw (body_view-roll, body_view-out, written) (ap (λ (gs : Fields). body gs us)
    (fields_view-in_field n content new fs (in_list (in_nth (λ e. value_view c.args.value) c.args.index)) found c.put_in.ensures.left))

pub returns-in-Some-clause-taken : goal.returns-in-Some-clause-taken
returns-in-Some-clause-taken c =
    let n = c.args.number in
    let fs = (out-Body c.args.body.now).fields.entries in
    let content = c.in-Some.content.now in
    let found : lookup (is_at (nat_cmp n)) fs ≡ Some content = sym c.get_mut.ensures.value ∙ ap option_copied_mut c.in-Some.is in
    let here : get_field n (fields_of (body_view c.args.body.now)) ≡ Some (content_view content) =
    ap (λ (v : Message). get_field n (fields_of v)) (body_view-out c.args.body.now) ∙ get_field-at n (Some content) fs found in
    c.put_in.ensures.taken ∙ sym (ap (option_and_then (datum_at c.args.index)) here)

pub returns-in-None-clause-left : goal.returns-in-None-clause-left
returns-in-None-clause-left c =
    let n = c.args.number in
    let fs = (out-Body c.args.body.now).fields.entries in
    let us = records_of (out-Body c.args.body.now).unknown.items in
    let gone : lookup (is_at (nat_cmp n)) fs ≡ None = sym c.get_mut.ensures.value ∙ ap option_copied_mut c.in-None.is in
    rw (body_view-roll, body_view-out, c.get_mut.follows.holds-at-none) (ap (λ (gs : Fields). body gs us)
    (sym (in_field-none (in_list (in_nth (λ e. value_view c.args.value) c.args.index)) n (fields_view fs) (get_field-at n None fs gone))))

pub returns-in-None-clause-taken : goal.returns-in-None-clause-taken
returns-in-None-clause-taken c =
    let n = c.args.number in
    let fs = (out-Body c.args.body.now).fields.entries in
    let gone : lookup (is_at (nat_cmp n)) fs ≡ None = sym c.get_mut.ensures.value ∙ ap option_copied_mut c.in-None.is in
    let here : get_field n (fields_of (body_view c.args.body.now)) ≡ None =
    ap (λ (v : Message). get_field n (fields_of v)) (body_view-out c.args.body.now) ∙ get_field-at n None fs gone in
    sym (ap (option_and_then (datum_at c.args.index)) here)
