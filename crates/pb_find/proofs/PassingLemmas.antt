-- Whole records that are read past: what they leave as it is, and those that follow them.
use Rattle.std.proofs.Common.{◌≡◌, ◌∙◌, ℕ, List, [], ◌∷◌, ◌++◌, refl, sym, ap, Option, Some, None}
use Rattle.std.specs.Prelude.{fold}
use Rattle.std.proofs.lemmas.List.Sums.{fold-append}
use Rattle.std.specs.List.{AllByRecursion}
use Rattle.pb_wire.specs.Record.{Record}
use Rattle.pb_wire.specs.Fault.{Place}
use Rattle.pb_wire.specs.Schema.{Schema}
use Rattle.pb_wire.proofs.ReadingLemmas.{moves_both}
use Rattle.pb_schema.specs.declared.types.Shape.{Shape}
use Rattle.pb_schema.specs.declared.types.Shape.TheVariants as shape
use Rattle.pb_schema.specs.Types.{FieldView, Types}
use Rattle.pb_schema.specs.Context.{a_message, schema_of}
use Rattle.pb_schema.specs.Scalar.{Scalar}
use Rattle.pb_schema.specs.View.{field_view}
use Rattle.pb_value.proofs.JoinedTexts.{AreRecords-append, AllSound-append}
use Rattle.pb_validate.specs.Judging.{Front}
use Rattle.pb_find.specs.declared.level.Target.{Target}
use Rattle.pb_find.specs.declared.level.Level.{Level}
use Rattle.pb_find.specs.Found.{found, after_record, after_records, shares_oneof}
use Rattle.pb_find.specs.Walk.{after_target, after, IsStranger, Breaks}
use Rattle.pb_find.proofs.TargetLemmas.{stranger_stays}

-- ---- records, and others after them

pub front_join :
    {S : Schema} {c : S.Context} {levels : ℕ} {p q r : Place} (rs ss : List Record) → Front S c levels p rs q → Front S c levels q ss r → Front S c levels p (rs ++ ss) r
front_join rs ss f g = record {
  spelled = (
    f.spelled.0 ++ g.spelled.0,
    AreRecords-append rs ss f.spelled.0 g.spelled.0 f.spelled.1 g.spelled.1,
    moves_both _ _ f.spelled.2 g.spelled.2,
  );
  sound = AllSound-append rs ss f.sound g.sound;
}

-- and so to a tag that no sound record follows
pub breaks_later : {pool : Types} {m levels : ℕ} {p q : Place} (rs : List Record) → Front (schema_of pool) (a_message m) levels p rs q → Breaks pool m levels q → Breaks pool m levels p
breaks_later rs front b = record {
  before = rs ++ b.before;
  at = b.at;
  number = b.number;
  type = b.type;
  start = b.start;
  front = front_join rs b.before front b.front;
  tag = b.tag;
  no_end = b.no_end;
  none = b.none;
}

-- they leave what was found of it as it is
strangers_stay :
    (pool : Types) (m : ℕ) (rest : List ℕ) (f : FieldView) (s : Shape) → ((g : Option FieldView) → shares_oneof s g ≡ shares_oneof f.shape g)
    → (rs : List Record) → AllByRecursion (λ r. IsStranger pool m f.number s r.number) rs → (x : Option Scalar)
    → after_records (found pool rest) pool m rest (Some f) x rs ≡ x
strangers_stay pool m rest f s same [] h x = refl
strangers_stay pool m rest f s same (r ∷ rs) h x =
    let stays : x ≡ after_record (found pool rest) pool m rest f x r = stranger_stays pool m r.number rest f x r.payload h.0.0 (sym (same _) ∙ h.0.1) in
    ap (λ (y : Option Scalar). fold (after_record (found pool rest) pool m rest f) y rs) (sym stays) ∙ strangers_stay pool m rest f s same rs h.1 x

-- a field that is no member of a oneof shares none
pub shares_none : (s : Shape) → ((o : ℕ) → s ≡ shape.OneofMember o → ⊥) → (g : Option FieldView) → shares_oneof shape.Implicit g ≡ shares_oneof s g
shares_none shape.Implicit none g = refl
shares_none shape.Explicit none g = refl
shares_none (shape.OneofMember o) none g = absurd (none o refl)
shares_none (shape.List p) none g = refl
shares_none (shape.Map key) none g = refl

-- past a target that is in no oneof, or in this one
pub passes_by :
    (l : Level) (own : Target) (s : Shape) (rs : List Record) → l.target ≡ Some own → ((g : Option FieldView) → shares_oneof s g ≡ shares_oneof own.field.now.shape g)
    → AllByRecursion (λ r. IsStranger l.pool.now l.message_type.0 own.field.now.number s r.number) rs → (x : Option Scalar) → after l x rs ≡ x
passes_by l own s rs is same h x =
    ap (λ (t : Option Target). after_target l.pool.now l.message_type.0 t x rs) is
    ∙ strangers_stay l.pool.now l.message_type.0 own.rest.now (field_view own.field.now) s same rs h x

-- ---- what is found of records, and of others after them

target-append :
    (pool : Types) (m : ℕ) (t : Option Target) (x : Option Scalar) (rs ss : List Record)
    → after_target pool m t x (rs ++ ss) ≡ after_target pool m t (after_target pool m t x rs) ss
target-append pool m None x rs ss = refl
target-append pool m (Some t) x rs ss = fold-append (after_record (found pool t.rest.now) pool m t.rest.now (field_view t.field.now)) x rs ss

pub no_target : (l : Level) (rs : List Record) → l.target ≡ None → (x : Option Scalar) → after l x rs ≡ x
no_target l rs e x = ap (λ (t : Option Target). after_target l.pool.now l.message_type.0 t x rs) e

-- after one more record, and others that leave it
pub one_more :
    (l : Level) (x y z : Option Scalar) (rs : List Record) (r : Record) (ss : List Record) → y ≡ after l x rs → z ≡ after l y (r ∷ [])
    → ((x : Option Scalar) → after l x ss ≡ x) → z ≡ after l x ((rs ++ r ∷ []) ++ ss)
one_more l x y z rs r ss so_far next stay =
    next ∙ ap (λ (w : Option Scalar). after l w (r ∷ [])) so_far ∙ sym (target-append l.pool.now l.message_type.0 l.target x rs (r ∷ []))
    ∙ sym (stay (after l x (rs ++ r ∷ []))) ∙ sym (target-append l.pool.now l.message_type.0 l.target x (rs ++ r ∷ []) ss)
