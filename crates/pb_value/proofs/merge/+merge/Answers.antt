use Rattle.std.proofs.Common.{◌≡◌, ◌<◌, ◌≤◌, ◌++◌, [], ◌∷◌, List, ℕ, suc, Option, Some, None, IfSome, rules, refl, sym, ap, ◌∙◌, subst, nat_cmp, append-nil, append_assoc}
use Rattle.std.proofs.lemmas.Result.{on_ok_weaker}
use Rattle.std.specs.Map.{lookup}
use Rattle.std.specs.Option.{option_copied_mut}
use Rattle.std.specs.BTreeMap.{is_at}
use Rattle.pb_wire.specs.Unknown.{records_of}
use Rattle.pb_wire.specs.declared.unknown.Unknown.{Unknown}
use Rattle.pb_schema.specs.Types.{message_fields}
use Rattle.pb_schema.specs.View.{field_view}
use Rattle.pb_value.specs.declared.body.Content.{Content, the_lemmas}
use Rattle.pb_value.specs.declared.body.Value.{the_lemmas as value_lemmas}
use Rattle.pb_value.specs.declared.body.Body.{Body, out-Body, roll-Body}
use Rattle.pb_value.specs.Data.{Holding, message, one, map as map_of, Fields, Message, body, fields_of, unknown_of, get_field, put_field, holding_depth, message_depth}
use Rattle.pb_value.specs.Change.{with_fields, gives_way}
use Rattle.pb_value.specs.Merge.{merged_over, merged_within}
use Rattle.pb_value.specs.WellFormed.{IsDatum, IsHeld}
use Rattle.pb_value.specs.View.{content_view, body_view, entries_view, fields_view}
use Rattle.pb_value.proofs.Views.{body_view-roll, body_view-out, content_view-List, content_view-Map}
use Rattle.pb_value.proofs.FieldViews.{fields_view-step, fields_view-first, get_field-at}
use Rattle.pb_value.proofs.MergeInPlace.{Merged, only_held, common_keys, held_there, of_field, over_one, ready, can_stand, merged_more, shallower, merged_nothing, merged_whole, whole_view, records_of-append}
use Rattle.pb_value.proofs.merge.+merge.Goals as goal

-- CONTENTS

pub merge_content-join_map-requires : goal.merge_content-join_map-requires
merge_content-join_map-requires t c =
    let own = c.requires.own in
    let other : IsHeld c.args.pool.now c.args.shape c.args.kind (map_of (entries_view c.in-Map.other.entries)) = rw (c.in-Map.is, content_view-Map) at c.requires.other in
    rw (c.in-Map.other-is) (record { keys = common_keys c.args.pool.now c.args.shape c.args.kind (content_view c.args.content.now) (entries_view c.in-Map.other.entries) own other })

pub merge_content-merge_message-requires : goal.merge_content-merge_message-requires
merge_content-merge_message-requires t c =
    let pool = c.args.pool.now in
    let seen : content_view c.args.other ≡ one (message (body_view c.in-One-Message.other)) =
    search (rules, the_lemmas, value_lemmas, c.in-One-Message.is, c.in-One-Message.field-0-is, c.in-One-Message.other-is) in
    let deep : holding_depth (content_view c.args.other) ≡ suc (message_depth (body_view c.in-One-Message.other)) = ap holding_depth seen in
    let other : IsDatum pool c.args.kind (message (body_view c.in-One-Message.other)) = subst (IsHeld pool c.args.shape c.args.kind) seen c.requires.other in (
      rw (c.in-One-Message.other-is) (search (rules, deep)),
      (
        c.requires.rules,
        (
          c.requires.named,
          (
            only_held pool c.args.shape c.args.kind (content_view c.args.content.now) c.requires.own,
            subst (λ (b : Body). IsDatum pool c.args.kind (message (body_view b))) (sym c.in-One-Message.other-is) other,
          ),
        ),
      ),
    )

pub merge_content-returns-in-List-clause-ok : goal.merge_content-returns-in-List-clause-ok
merge_content-returns-in-List-clause-ok t c =
    on_ok_weaker c.join_list.result (λ joined levels l. rw (c.in-List.is, content_view-List) (rw (c.in-List.other-is) at (joined (merged_within c.args.pool.now levels) c.args.kind))) c.join_list.ensures.ok

pub merge_content-returns-in-Map-clause-ok : goal.merge_content-returns-in-Map-clause-ok
merge_content-returns-in-Map-clause-ok t c =
    on_ok_weaker c.join_map.result (λ joined levels l. rw (c.in-Map.is, content_view-Map) (rw (c.in-Map.other-is) at (joined (merged_within c.args.pool.now levels) c.args.kind))) c.join_map.ensures.ok

-- THE CONTENT OF A NUMBER

pub merge_at-merge_content-requires : goal.merge_at-merge_content-requires
merge_at-merge_content-requires t c =
    let fs = (out-Body c.args.message.now).fields.entries in
    let found : lookup (is_at (nat_cmp c.args.number)) fs ≡ Some c.in-Some.content.now = sym c.get_mut.ensures.value ∙ ap option_copied_mut c.in-Some.is in
    let own : IsHeld c.args.pool.now c.args.shape c.args.kind (content_view c.in-Some.content.now) =
    subst (λ (o : Option Holding). IfSome o (IsHeld c.args.pool.now c.args.shape c.args.kind)) (get_field-at c.args.number (Some c.in-Some.content.now) fs found) (rw body_view-out at c.requires.own) in
    (search rules, (c.requires.rules, (c.requires.named, (own, c.requires.other))))

pub merge_at-returns-in-Some-clause-ok : goal.merge_at-returns-in-Some-clause-ok
merge_at-returns-in-Some-clause-ok t c =
    let fs = (out-Body c.args.message.now).fields.entries in
    let us = records_of (out-Body c.args.message.now).unknown.items in
    let written = (c.get_mut.follows.holds c.merge_content.new.content).0 in
    let found : lookup (is_at (nat_cmp c.args.number)) fs ≡ Some c.in-Some.content.now = sym c.get_mut.ensures.value ∙ ap option_copied_mut c.in-Some.is in
    on_ok_weaker c.merge_content.result (λ merged levels l. rw (body_view-roll, body_view-out, written) (ap (λ (gs : Fields). body gs us)
    (fields_view-step c.args.number c.in-Some.content.now c.merge_content.new.content fs
    (λ (o : Option Holding). merged_over (merged_within c.args.pool.now levels) c.args.kind o (content_view c.args.other)) c.get_mut.ensures.ordered found (merged levels l)))) c.merge_content.ensures.ok

pub merge_at-returns-in-None-clause-ok : goal.merge_at-returns-in-None-clause-ok
merge_at-returns-in-None-clause-ok t c =
    let fs = (out-Body c.args.message.now).fields.entries in
    let us = records_of (out-Body c.args.message.now).unknown.items in
    let gone : lookup (is_at (nat_cmp c.args.number)) fs ≡ None = sym c.get_mut.ensures.value ∙ ap option_copied_mut c.in-None.is in
    let same : body_view (roll-Body record { fields = c.get_mut.follows.lender-at-none; unknown = c.args.message.now.unknown }) ≡ body_view c.args.message.now =
    rw (body_view-roll, body_view-out, c.get_mut.follows.holds-at-none) in
    let put = ap (λ (v : Message). with_fields v (put_field c.args.number (content_view c.args.other) (fields_of v))) (same ∙ body_view-out c.args.message.now) in
    on_ok_weaker c.put_field.result (λ stored levels l. rw (body_view-out c.args.message.now) (stored ∙ put ∙ ap (λ (gs : Fields). body gs us) (fields_view-first c.args.number (content_view c.args.other) fs
    (λ (o : Option Holding). merged_over (merged_within c.args.pool.now levels) c.args.kind o (content_view c.args.other)) gone refl))) c.put_field.ensures.ok

-- ONE FIELD

pub merge_field-merge_at-requires : goal.merge_field-merge_at-requires
merge_field-merge_at-requires t c =
    let all = message_fields c.args.pool.now c.args.message_type.0 in
    let f = field_view c.in-Some.field.now in
    let found = sym c.in-Some.ensures.found in
    let own = subst (λ (v : Message). IfSome (get_field c.args.number (fields_of v)) (IsHeld c.args.pool.now f.shape f.kind)) (sym c.make_way.ensures)
    (held_there c.args.pool.now all f c.args.number (gives_way all f.shape c.args.number (fields_of (body_view c.args.message.now))) (fields_of (body_view c.args.message.now)) found c.requires.own) in
    (search rules, (c.requires.rules, (c.in-Some.ensures.named, (own, of_field c.args.pool.now all f c.args.number (content_view c.args.other) found c.requires.other))))

pub merge_field-returns-clause-ok : goal.merge_field-returns-clause-ok
merge_field-returns-clause-ok t c =
    on_ok_weaker c.merge_at.result (λ merged levels f l e. over_one (merged_within c.args.pool.now levels) (message_fields c.args.pool.now c.args.message_type.0) c.args.number f (field_view c.in-Some.field.now) (content_view c.args.other)
    (body_view c.args.message.now) (body_view c.make_way.new.message) (body_view c.merge_at.new.message) (sym c.in-Some.ensures.found) e c.make_way.ensures (merged levels l)) c.merge_at.ensures.ok

-- ALL FIELDS

pub merge_body-loop-number-init : goal.merge_body-loop-number-init
merge_body-loop-number-init t c = record {
  split = c.into_iter-number-iterator.ensures.into_iter_gives.0;
  merged = merged_nothing c.args.pool.now c.requires.rules c.args.message_type.0 (body_view c.args.message.now) c.args.other.fields.entries (records_of c.args.other.unknown.items) c.requires.own
      (whole_view c.args.pool.now c.args.message_type.0 c.args.other.fields c.args.other.unknown c.requires.other);
}

pub merge_body-merge_field-requires : goal.merge_body-merge_field-requires
merge_body-merge_field-requires t c =
    let split = ap (λ (fs : List (ℕ × Content)). c.loop-number.yielded ++ fs) (sym c.in-Some.ensures.steps) ∙ c.loop-number.invariant.split in
    let w = whole_view c.args.pool.now c.args.message_type.0 c.args.other.fields c.args.other.unknown c.requires.other in
    let now = ready c.args.pool.now c.requires.rules c.args.message_type.0 (body_view c.args.message.now) c.args.other.fields.entries (records_of c.args.other.unknown.items) c.requires.own w
    c.in-Some.number c.in-Some.content c.loop-number.yielded c.next.new.self (body_view c.loop-number.message) split c.loop-number.invariant.merged in
    let stand = can_stand c.args.pool.now c.requires.rules c.args.message_type.0 (body_view c.args.message.now) c.args.other.fields.entries (records_of c.args.other.unknown.items) c.requires.own w
    c.in-Some.number c.in-Some.content c.loop-number.yielded c.next.new.self (body_view c.loop-number.message) split c.loop-number.invariant.merged in
    let depth = shallower c.args.pool.now c.requires.rules c.args.message_type.0 (body_view c.args.message.now) c.args.other.fields.entries (records_of c.args.other.unknown.items) c.requires.own w
    c.in-Some.number c.in-Some.content c.loop-number.yielded c.next.new.self (body_view c.loop-number.message) split c.loop-number.invariant.merged in
    let deep : holding_depth (content_view c.in-Some.content) ≤ message_depth (body_view c.args.other) =
    subst (λ (v : Message). holding_depth (content_view c.in-Some.content) ≤ message_depth v) (sym (body_view-roll c.args.other.fields c.args.other.unknown)) depth in
    (search (rules, deep), (c.requires.rules, (c.requires.within, (now.0, (now.1, stand)))))

pub merge_body-loop-number-preserved : goal.merge_body-loop-number-preserved
merge_body-loop-number-preserved t c =
    let split = ap (λ (fs : List (ℕ × Content)). c.loop-number.yielded ++ fs) (sym c.in-Some.ensures.steps) ∙ c.loop-number.invariant.split in
    record {
      split = append_assoc c.loop-number.yielded ((c.in-Some.number, c.in-Some.content) ∷ []) c.next.new.self ∙ split;
      merged = merged_more c.args.pool.now c.requires.rules c.args.message_type.0 (body_view c.args.message.now) c.args.other.fields.entries (records_of c.args.other.unknown.items) c.requires.own
          (whole_view c.args.pool.now c.args.message_type.0 c.args.other.fields c.args.other.unknown c.requires.other)
          c.in-Some.number c.in-Some.content c.loop-number.yielded c.next.new.self (body_view c.loop-number.message) split c.loop-number.invariant.merged (body_view c.merge_field.new.message) c.in_ok-merge_field.ensures.ok;
    }

pub merge_body-returns-clause-ok : goal.merge_body-returns-clause-ok
merge_body-returns-clause-ok t c =
    λ levels l.
    let w = whole_view c.args.pool.now c.args.message_type.0 c.args.other.fields c.args.other.unknown c.requires.other in
    let all_done : c.loop-number.yielded ≡ c.args.other.fields.entries =
    sym (append-nil c.loop-number.yielded) ∙ ap (λ (fs : List (ℕ × Content)). c.loop-number.yielded ++ fs) (sym c.in-None.ensures.steps.0) ∙ c.loop-number.invariant.split in
    let merged = subst (Merged c.args.pool.now c.args.message_type.0 (body_view c.args.message.now) c.args.other.fields.entries (body_view c.loop-number.message)) all_done c.loop-number.invariant.merged in
    let us = records_of c.args.other.unknown.items in
    let other = body_view-roll c.args.other.fields c.args.other.unknown in
    body_view-roll c.loop-number.message.fields c.append.new.self
    ∙ ap (body (fields_view c.loop-number.message.fields.entries))
    (ap (λ (xs : List (ℕ × Unknown)). records_of xs) c.in_ok-append.ensures.items ∙ records_of-append c.loop-number.message.unknown.items c.args.other.unknown.items)
    ∙ sym (ap (λ (v : Message). body (fields_of v) (unknown_of v ++ us)) (body_view-out c.loop-number.message))
    ∙ merged_whole c.args.pool.now c.requires.rules c.args.message_type.0 (body_view c.args.message.now) c.args.other.fields.entries us c.requires.own w (body_view c.loop-number.message) merged levels
    (subst (λ (v : Message). message_depth v < levels) other l)
    ∙ ap (merged_within c.args.pool.now levels c.args.message_type.0 (body_view c.args.message.now)) (sym other)
