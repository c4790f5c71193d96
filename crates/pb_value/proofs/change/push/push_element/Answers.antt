use Rattle.std.proofs.Common.{◌≡◌, Some, None, ap, sym, ◌∙◌, nat_cmp}
use Rattle.std.proofs.lemmas.Result.{on_ok_weaker, on_err_weaker}
use Rattle.std.specs.Map.{lookup}
use Rattle.std.specs.Option.{option_copied_mut}
use Rattle.std.specs.BTreeMap.{is_at}
use Rattle.pb_wire.specs.Unknown.{records_of}
use Rattle.pb_value.specs.declared.body.Body.{out-Body, roll-Body}
use Rattle.pb_value.specs.Data.{Fields, Message, body, fields_of, put_field}
use Rattle.pb_value.specs.Change.{with_fields, pushed}
use Rattle.pb_value.specs.View.{value_view, content_view, body_view}
use Rattle.pb_value.proofs.Views.{body_view-roll, body_view-out}
use Rattle.pb_value.proofs.FieldViews.{fields_view-step, fields_view-same, fields_view-first}
use Rattle.pb_value.proofs.change.push.push_element.Goals as goal

pub returns-in-Some-clause-ok : goal.returns-in-Some-clause-ok
returns-in-Some-clause-ok c =
    let fs = (out-Body c.args.message.now).fields.entries in
    let us = records_of (out-Body c.args.message.now).unknown.items in
    let written = (c.get_mut.follows.holds c.append.new.content).0 in
    let found : lookup (is_at (nat_cmp c.args.number)) fs ≡ Some c.in-Some.content.now = sym c.get_mut.ensures.value ∙ ap option_copied_mut c.in-Some.is in
    on_ok_weaker c.append.result (λ more. rw (body_view-roll, body_view-out, written) (ap (λ (gs : Fields). body gs us) (fields_view-step c.args.number c.in-Some.content.now c.append.new.content fs
    (pushed (value_view c.args.value)) c.get_mut.ensures.ordered found more))) c.append.ensures.ok

pub returns-in-Some-clause-err : goal.returns-in-Some-clause-err
returns-in-Some-clause-err c =
    let fs = (out-Body c.args.message.now).fields.entries in
    let us = records_of (out-Body c.args.message.now).unknown.items in
    let written = (c.get_mut.follows.holds c.append.new.content).0 in
    let found : lookup (is_at (nat_cmp c.args.number)) fs ≡ Some c.in-Some.content.now = sym c.get_mut.ensures.value ∙ ap option_copied_mut c.in-Some.is in
    on_err_weaker c.append.result (λ kept. rw (body_view-roll, body_view-out, written) (ap (λ (gs : Fields). body gs us) (fields_view-same c.args.number c.in-Some.content.now c.append.new.content fs found
    kept))) c.append.ensures.err

pub returns-in_ok-content-in-None-clause-ok : goal.returns-in_ok-content-in-None-clause-ok
returns-in_ok-content-in-None-clause-ok c =
    let fs = (out-Body c.args.message.now).fields.entries in
    let us = records_of (out-Body c.args.message.now).unknown.items in
    let gone : lookup (is_at (nat_cmp c.args.number)) fs ≡ None = sym c.get_mut.ensures.value ∙ ap option_copied_mut c.in-None.is in
    let same : body_view (roll-Body record { fields = c.get_mut.follows.lender-at-none; unknown = c.args.message.now.unknown }) ≡ body_view c.args.message.now =
    rw (body_view-roll, body_view-out, c.get_mut.follows.holds-at-none) in
    let put = ap (λ (v : Message). with_fields v (put_field c.args.number (content_view c.in_ok-content-in-None.content) (fields_of v))) (same ∙ body_view-out c.args.message.now) in
    on_ok_weaker c.put_field.result (λ stored. rw (body_view-out c.args.message.now) (stored ∙ put ∙ ap (λ (gs : Fields). body gs us) (fields_view-first c.args.number (content_view c.in_ok-content-in-None.content) fs
    (pushed (value_view c.args.value)) gone c.in_ok-content-in-None.ensures.made))) c.put_field.ensures.ok
