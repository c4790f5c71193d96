-- Bodies into which a content is put.
use Rattle.std.proofs.Common.{◌≡◌, ℕ, [], nat_cmp, BTreeMap, sym, ap, ◌∙◌}
use Rattle.std.specs.BTreeMap.{insert_entry}
use Rattle.pb_wire.specs.Unknown.{records_of}
use Rattle.pb_value.specs.Data.{Fields, Message, body, put_field, fields_of, unknown_of}
use Rattle.pb_value.specs.View.{body_view, content_view, fields_view}
use Rattle.pb_value.specs.declared.body.Content.{Content}
use Rattle.pb_value.specs.declared.body.Body.{Body, roll-Body, out-Body}
use Rattle.pb_value.proofs.Views.{body_view-roll, body_view-out}
use Rattle.pb_value.proofs.FieldViews.{fields_view-insert_entry}

pub put_view : (b : Body) (m : BTreeMap ℕ Content) (n : ℕ) (c : Content) (fs : Fields) → m.entries ≡ insert_entry nat_cmp (out-Body b).fields.entries n c → body_view b ≡ body fs []
    → body_view (roll-Body record { fields = m; unknown = (out-Body b).unknown }) ≡ body (put_field n (content_view c) fs) []
put_view b m n c fs put is =
    body_view-roll m (out-Body b).unknown
    ∙ ap (λ es. body (fields_view es) (records_of (out-Body b).unknown.items)) put
    ∙ ap (λ (x : Fields). body x (records_of (out-Body b).unknown.items)) (fields_view-insert_entry (out-Body b).fields.entries n c)
    ∙ ap (λ (v : Message). body (put_field n (content_view c) (fields_of v)) (unknown_of v)) (sym (body_view-out b) ∙ is)
