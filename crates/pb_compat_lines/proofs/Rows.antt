-- Worked reports: lines of types that are lacking, of pairs of one name and of two, and what they say of a break.
use Rattle.std.proofs.Common.{◌≡◌, ℕ, List, [], ◌∷◌, ◌++◌, map, Bool, true, false, Option, Some, None, inl, inr, refl, sym, ap, ◌∙◌, arith}
use Rattle.std.proofs.lemmas.List.Elements.{Contains-push, Contains-append_left}
use Rattle.std.specs.Fmt.{digits}
use Rattle.std.specs.Prelude.{codes, Vec, length, ◌||◌}
use Rattle.std.specs.declared.alloc.Global.{Global}
use Rattle.pb_schema.specs.declared.types.Kind.{Kind}
use Rattle.pb_schema.specs.declared.types.Kind.TheVariants as kind
use Rattle.pb_schema.specs.declared.types.Shape.TheVariants as shape
use Rattle.pb_schema.specs.Types.{FieldView, MessageView, Types}
use Rattle.pb_compat.specs.declared.difference.ComparedTypes.{ComparedTypes}
use Rattle.pb_compat.specs.declared.difference.Difference.{Difference}
use Rattle.pb_compat.specs.declared.difference.Severity.TheVariants.{BreaksReading}
use Rattle.pb_compat.specs.declared.difference.Step.{Step}
use Rattle.pb_compat.specs.Agrees.{break_in}
use Rattle.pb_compat.specs.Pairs.{IsComparisonFrom, ReachedFrom, given, onward, types_of}
use Rattle.pb_compat_lines.specs.Lines.{compared_lines, difference_line, line_of, missing_below, lacks_below, or_ok, pair_note}
use Rattle.pb_compat_lines.specs.Verdict.{IsReport, of_all, of_types, IsReportOfAll, IsReportOfBoth, Judges, LacksType}
use Rattle.pb_compat_lines.specs.declared.verdict.Readers.TheVariants.{Both}

abbrev a_field : List ℕ → ℕ → Kind → FieldView
a_field name n k = record { name = name; number = n; kind = k; shape = shape.Explicit }

abbrev a_message : List ℕ → List FieldView → MessageView
a_message name fs = record { name = name; file = 0; parent = None; fields = fs; oneofs = [] }

abbrev pool_of : List MessageView → Types
pool_of ms = record { files = record { name = []; package_name = codes "shop"; imports = []; proto2 = false } ∷ []; messages = ms; enums = [] }

-- message Order { Item same = 8; } and message Item { int32 n = 1; }
abbrev old : Types
old = pool_of (a_message (codes "Order") (a_field (codes "same") 8 (kind.Message (record { 0 = 1 })) ∷ []) ∷ a_message (codes "Item") (a_field (codes "n") 1 kind.Int32 ∷ []) ∷ [])

-- message Order { Thing same = 8; } and message Thing { string n = 1; }
abbrev new : Types
new = pool_of (a_message (codes "Order") (a_field (codes "same") 8 (kind.Message (record { 0 = 1 })) ∷ []) ∷ a_message (codes "Thing") (a_field (codes "n") 1 kind.Text ∷ []) ∷ [])

abbrev empty : Types
empty = record { files = []; messages = []; enums = [] }

-- TYPES THAT ARE LACKING

one_lacking : missing_below [] old new 2 ≡ codes "shop.Item breaks missing\n"
one_lacking = refl

both_lacking : missing_below (codes "forward ") old empty 2 ≡ codes "forward shop.Order breaks missing\nforward shop.Item breaks missing\n"
both_lacking = refl

none_lacking : missing_below [] old old 2 ≡ []
none_lacking = refl

the_first_lacks : lacks_below old empty 1 ≡ true
the_first_lacks = refl

none_lacks : lacks_below old old 2 ≡ false
none_lacks = refl

-- a type that is lacking breaks, whatever the comparison reports
lacking_breaks : (text : List ℕ) → IsReportOfAll [] old new text false → ⊥
lacking_breaks text report = let e = report.judged in cc

-- A TYPE OF A NAME

lacking_in_old : LacksType old new (Some (codes "shop.Thing"))
lacking_in_old = inl refl

lacking_in_new : LacksType old new (Some (codes "shop.Item"))
lacking_in_new = inr refl

clash : {i : ℕ} → ◌≡◌ {A = Option ℕ} (Some i) None → ⊥
clash e = cc

both_have : LacksType old new (Some (codes "shop.Order")) → ⊥
both_have (inl e) = clash e
both_have (inr e) = clash e

none_named : LacksType old new None → ⊥
none_named h = h

-- where a pool lacks the type there is no report, and where both have it there is one
no_report : (text : List ℕ) (breaks : Bool) → IsReport [] old new text breaks (Some (codes "shop.Item")) → ⊥
no_report text breaks (of_types from to report) = clash (sym to)

no_answer : Judges Both old new (Some (codes "shop.Order")) None → ⊥
no_answer = both_have

-- BOTH DIRECTIONS

-- no pair is reached from none
none_reached : (p : ℕ × ℕ) → ReachedFrom empty empty [] p → ⊥
none_reached p (given there) = omega (arith, there.1)
none_reached p (onward {p = q} k r to) = none_reached q r

nothing_compared : (cs : List ComparedTypes) → IsComparisonFrom empty empty [] cs → cs ≡ []
nothing_compared [] is = refl
nothing_compared (c ∷ cs) is = absurd (none_reached (types_of c) ((is.reached (types_of c)).0 (Contains-append_left (types_of c ∷ []) (map types_of cs) (types_of c) (Contains-push [] (types_of c)))))

all_of_none : (prefix text : List ℕ) (breaks : Bool) → IsReport prefix empty empty text breaks None → text ≡ line_of prefix (codes "ok")
all_of_none prefix text breaks (of_all report) = report.printed ∙ ap (λ (cs : List ComparedTypes). or_ok prefix (compared_lines prefix empty empty cs)) (nothing_compared report.compared report.is)

-- how the new pool reads comes first
both_ok : (text : List ℕ) (breaks : Bool) → IsReportOfBoth empty empty text breaks None → text ≡ codes "backward ok\nforward ok\n"
both_ok text breaks r =
    r.printed ∙ ap (λ (l : List ℕ). l ++ r.lines_back) (all_of_none (codes "backward ") r.lines r.breaks_first r.first)
    ∙ ap (λ (l : List ℕ). codes "backward ok\n" ++ l) (all_of_none (codes "forward ") r.lines_back r.breaks_back r.back)

-- a type that the new pool lacks breaks backward, and one that the old pool lacks forward
breaks_by_all : (prefix text : List ℕ) (breaks : Bool) (a b : Types) → lacks_below a b (length a.messages) ≡ true → IsReport prefix a b text breaks None → breaks ≡ true
breaks_by_all prefix text breaks a b lacks (of_all report) = report.judged ∙ ap (λ (t : Bool). t || break_in report.compared) lacks

removed_breaks : (text : List ℕ) → IsReportOfBoth old empty text false None → ⊥
removed_breaks text r =
    let first = breaks_by_all (codes "backward ") r.lines r.breaks_first old empty refl r.first in
    let judged = r.judged ∙ ap (λ (t : Bool). t || r.breaks_back) first in cc

or_true : (b : Bool) → (b || true) ≡ true
or_true true = refl
or_true false = refl

added_breaks : (text : List ℕ) → IsReportOfBoth empty old text false None → ⊥
added_breaks text r =
    let back = breaks_by_all (codes "forward ") r.lines_back r.breaks_back old empty refl r.back in
    let judged = r.judged ∙ ap (λ (t : Bool). r.breaks_first || t) back ∙ or_true r.breaks_first in cc

-- PAIRS OF TWO NAMES

module _ (ds : Vec Difference Global) where
  abbrev orders : ComparedTypes
  orders = record { old = record { 0 = 0 }; new = record { 0 = 0 }; reached_by = None; differences = ds }

  abbrev items : Option Step → ComparedTypes
  items s = record { old = record { 0 = 1 }; new = record { 0 = 1 }; reached_by = s; differences = ds }

  abbrev compared : List ComparedTypes
  compared = orders ∷ items (Some (record { from = 0; field = 8 })) ∷ []

  one_name : pair_note old new compared orders ≡ []
  one_name = refl

  by_a_field : pair_note old new compared (items (Some (record { from = 0; field = 8 }))) ≡ codes " (shop.Order.same: shop.Item -> shop.Thing)"
  by_a_field = refl

  -- with which the comparison began
  by_none : pair_note old new compared (items None) ≡ codes " (shop.Item -> shop.Thing)"
  by_none = refl

  line : difference_line (codes "backward ") old new compared (items (Some (record { from = 0; field = 8 }))) (record { number = 1; severity = BreaksReading })
      ≡ codes "backward shop.Item.n 1 breaks optional string was optional int32 (shop.Order.same: shop.Item -> shop.Thing)\n"
  unfolding digits
  line = refl

-- WHERE THERE IS NOTHING TO REPORT

nothing : or_ok (codes "forward ") [] ≡ codes "forward ok\n"
nothing = refl

something : or_ok (codes "forward ") (codes "x\n") ≡ codes "x\n"
something = refl
