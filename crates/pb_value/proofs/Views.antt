-- What values, contents and bodies stand for, variant by variant.
use Rattle.std.proofs.Common.{◌≡◌, ◌↔◌, length, arith, ℕ, List, [], ◌∷◌, rules, refl, ap, ◌∙◌, Vec, Global, BTreeMap}
use Rattle.std.proofs.lemmas.Bool.Decides.{nat_tests}
use Rattle.std.specs.Prelude.{◌==◌, suc, max, String, string_bytes, Bool, true, false, IsTrue}
use Rattle.pb_schema.specs.declared.types.Shape.{Shape}
use Rattle.pb_value.specs.Judge.{is_absence}
use Rattle.pb_wire.specs.declared.unknown.Unknown.{Unknown}
use Rattle.pb_wire.specs.Record.{Record, group_of, depth, group_depth, records_depth}
use Rattle.pb_wire.specs.Unknown.{records_of}
use Rattle.pb_schema.specs.Scalar.{text, bytes}
use Rattle.pb_value.specs.Data.{scalar, message, one, list, map, body}
use Rattle.pb_value.specs.View.{value_view, content_view, body_view, values_view, entries_view, fields_view}
use Rattle.pb_value.specs.declared.body.MapKey.{MapKey}
use Rattle.pb_value.specs.declared.body.Value.{Value, the_lemmas as value_lemmas}
use Rattle.pb_value.specs.declared.body.Value.TheVariants as value
use Rattle.pb_value.specs.declared.body.Content.{Content, the_lemmas as content_lemmas}
use Rattle.pb_value.specs.declared.body.Content.TheVariants as content
use Rattle.pb_value.specs.declared.body.Body.{Body, roll-Body, out-Body, the_lemmas as body_lemmas}

pub value_view-Text : (s : String Global) → value_view (value.Text s) ≡ scalar (text (string_bytes s))
value_view-Text s = search (rules, value_lemmas)

pub value_view-Bytes : (v : Vec ℕ Global) → value_view (value.Bytes v) ≡ scalar (bytes v.items)
value_view-Bytes v = search (rules, value_lemmas)

pub value_view-Message : (b : Body) → value_view (value.Message b) ≡ message (body_view b)
value_view-Message b = search (rules, value_lemmas)

pub content_view-One : (v : Value) → content_view (content.One v) ≡ one (value_view v)
content_view-One v = search (rules, content_lemmas)

pub content_view-List : (v : Vec Value Global) → content_view (content.List v) ≡ list (values_view v.items)
content_view-List v = search (rules, content_lemmas)

pub content_view-Map : (m : BTreeMap MapKey Value) → content_view (content.Map m) ≡ map (entries_view m.entries)
content_view-Map m = search (rules, content_lemmas)

pub body_view-roll : (m : BTreeMap ℕ Content) (us : Vec (ℕ × Unknown) Global) → body_view (roll-Body record { fields = m; unknown = us }) ≡ body (fields_view m.entries) (records_of us.items)
body_view-roll m us = search (rules, body_lemmas)

pub body_view-out : (b : Body) → body_view b ≡ body (fields_view (out-Body b).fields.entries) (records_of (out-Body b).unknown.items)
body_view-out b = search (rules, body_lemmas)

no_datums-values : (vs : List Value) (b : Bool) (s : Shape) → b ≡ (length vs == 0) → b ≡ is_absence s (list (values_view vs))
no_datums-values [] b s h = h
no_datums-values (v ∷ vs) b s h = h ∙ none (length vs)
  where
    none : (n : ℕ) → (suc n == 0) ≡ false
    none n = grind (arith, nat_tests)

no_entries-entries : (es : List (MapKey × Value)) (b : Bool) (s : Shape) → IsTrue b ↔ (length es ≡ 0) → b ≡ is_absence s (map (entries_view es))
no_entries-entries [] true s h = refl
no_entries-entries [] false s h = absurd (let e = h.1 refl in cc)
no_entries-entries (e ∷ es) true s h = absurd (let f : length (e ∷ es) ≡ 0 = h.0 refl in omega (arith, f))
no_entries-entries (e ∷ es) false s h = refl

pub is_absence-List : (v : Vec Value Global) (b : Bool) (s : Shape) → b ≡ (length v.items == 0) → b ≡ is_absence s (content_view (content.List v))
is_absence-List v b s h = rw (content_view-List v) (no_datums-values v.items b s h)

pub is_absence-Map : (m : BTreeMap MapKey Value) (b : Bool) (s : Shape) → IsTrue b ↔ (length m.entries ≡ 0) → b ≡ is_absence s (content_view (content.Map m))
is_absence-Map m b s h = rw (content_view-Map m) (no_entries-entries m.entries b s h)

pub group_depth-group_of : (rs : List Record) → group_depth (group_of rs) ≡ records_depth rs
group_depth-group_of [] = refl
group_depth-group_of (r ∷ rs) = ap (λ (n : ℕ). max (depth r.payload) n) (group_depth-group_of rs)
