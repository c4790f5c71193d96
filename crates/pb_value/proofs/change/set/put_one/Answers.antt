use Rattle.std.proofs.Common.{◌≡◌, Some, ap, sym, ◌∙◌, nat_cmp}
use Rattle.std.proofs.lemmas.Result.{on_ok_weaker}
use Rattle.std.specs.Map.{lookup}
use Rattle.std.specs.Option.{option_copied_mut}
use Rattle.std.specs.BTreeMap.{is_at}
use Rattle.pb_wire.specs.Unknown.{records_of}
use Rattle.pb_value.specs.declared.body.Body.{out-Body, roll-Body}
use Rattle.pb_value.specs.declared.body.Content.TheVariants as content
use Rattle.pb_value.specs.Data.{Holding, Fields, Message, body, one, fields_of, put_field}
use Rattle.pb_value.specs.Change.{with_fields}
use Rattle.pb_value.specs.View.{value_view, content_view, body_view, fields_view}
use Rattle.pb_value.proofs.Views.{body_view-roll, body_view-out, content_view-One}
use Rattle.pb_value.proofs.FieldViews.{fields_view-step}
use Rattle.pb_value.proofs.OrderLemmas.{RisesFrom-sorted}
use Rattle.pb_value.proofs.change.set.put_one.Goals as goal

pub returns-in-Some-clause-ok : goal.returns-in-Some-clause-ok
returns-in-Some-clause-ok c =
    let n = c.args.number in
    let fs = (out-Body c.args.message.now).fields.entries in
    let us = records_of (out-Body c.args.message.now).unknown.items in
    let content = c.in-Some.content.now in
    let new = c.replace.new.content in
    let written = (c.get_mut.follows.holds new).0 in
    let found : lookup (is_at (nat_cmp n)) fs ≡ Some content = sym c.get_mut.ensures.value ∙ ap option_copied_mut c.in-Some.is in
    rw (body_view-roll, body_view-out, written) (ap (λ (gs : Fields). body gs us)
    (fields_view-step n content new fs (λ h. one (value_view c.args.value)) c.get_mut.ensures.ordered found c.replace.ensures))

pub returns-in-Some-clause-rises : goal.returns-in-Some-clause-rises
returns-in-Some-clause-rises c = rw body_view-out (RisesFrom-sorted (out-Body c.args.message.now).fields.entries c.get_mut.ensures.ordered)

pub returns-in-None-clause-ok : goal.returns-in-None-clause-ok
returns-in-None-clause-ok c =
    let n = c.args.number in
    let fs = (out-Body c.args.message.now).fields.entries in
    let us = records_of (out-Body c.args.message.now).unknown.items in
    let new = content_view (content.One c.args.value) in
    let same : body_view (roll-Body record { fields = c.get_mut.follows.lender-at-none; unknown = c.args.message.now.unknown }) ≡ body_view c.args.message.now =
    rw (body_view-roll, body_view-out, c.get_mut.follows.holds-at-none) in
    let put = ap (λ (v : Message). with_fields v (put_field n new (fields_of v))) (same ∙ body_view-out c.args.message.now) in
    let made = ap (λ (h : Holding). body (put_field n h (fields_view fs)) us) (content_view-One c.args.value) in
    on_ok_weaker c.put_field.result (λ stored. rw (body_view-out c.args.message.now) (stored ∙ put ∙ made)) c.put_field.ensures.ok

pub returns-in-None-clause-rises : goal.returns-in-None-clause-rises
returns-in-None-clause-rises c = rw body_view-out (RisesFrom-sorted (out-Body c.args.message.now).fields.entries c.get_mut.ensures.ordered)
