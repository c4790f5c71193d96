-- Each record takes a byte at least, so no count passes the reader's position.
use Rattle.std.proofs.Common.{◌≡◌, ℕ, ◌+◌, ◌≤◌, List, [], ◌∷◌, length, ap, ◌∙◌, arith, length-append}
use Rattle.pb_wire.specs.Record.{Record}
use Rattle.pb_wire.specs.Spell.{AreRecords}
use Rattle.pb_wire.specs.Fault.{Place}
use Rattle.pb_wire.specs.Schema.{Schema, Open}
use Rattle.pb_wire.proofs.Tokens.{ends_some}
use Rattle.pb_schema.specs.Types.{Types}
use Rattle.pb_schema.specs.Context.{Context}
use Rattle.pb_wire.specs.declared.fault.PathStep.{PathStep}
use Rattle.pb_decode_parts.specs.Open.Occurrences.{CountsOf}
use Rattle.pb_decode_parts.specs.Open.Opened.{SoFar, Begun, a_message, a_value, a_group}
use Rattle.pb_decode_parts.specs.Open.Parents.{Part, Scope, Parent, Held, inside, Reached}
use Rattle.pb_decode_parts.proofs.StepCounts.{occurrence-le-length}

few_records : (rs : List Record) (b : List ℕ) → AreRecords rs b → length rs ≤ length b
few_records [] b h = omega arith
few_records (r ∷ rs) b h =
    let some = ends_some h.2.tag h.2.tagged.ends in
    let first : length h.0 ≡ length h.2.tag + length h.2.body = ap length h.2.joined ∙ length-append h.2.tag h.2.body in
    let whole : length b ≡ length h.0 + length h.1 = ap length h.4 ∙ length-append h.0 h.1 in
    let others = few_records rs h.1 h.3 in
    omega (arith, some, first, whole, others)

counts_after : {S : Schema} {o : Open S.Context} {depth_left : ℕ} {p q : Place} {rs : List Record} (counts : ℕ → ℕ) (k : ℕ) → SoFar S o depth_left p rs q → CountsOf counts rs → counts k ≤ q.at
counts_after {rs = rs} counts k b h =
    let is = h k in
    let fit = occurrence-le-length k rs in
    let few = few_records rs b.front b.spelled in
    let at = b.moves.at in
    omega (arith, is, fit, few, at)

begun_later : {S : Schema} {a o : Open S.Context} {depth_left below k : ℕ} {q u : Place} → Begun S a depth_left k q o below u → q.at ≤ u.at
begun_later (a_message levels tag re l is_open is_place) = let x = ap (λ (z : Place). z.at) is_place in let y = tag.tag.2.at in let z = l.length_is.2.at in omega (arith, x, y, z)
begun_later (a_value levels tag re l is_open is_place) = let x = ap (λ (z : Place). z.at) is_place in let y = tag.tag.2.at in let z = l.length_is.2.at in omega (arith, x, y, z)
begun_later (a_group levels tag is_open is_place) = let x = ap (λ (z : Place). z.at) is_place in let y = tag.tag.2.at in omega (arith, x, y)

-- the counts of the innermost part
pub counts_fit :
    {pool : Types} {m depth levels : ℕ} {base : List Record} {p0 : Place} {parents : List Parent} {scope : Scope} {now : Part} {q : Place} (k : ℕ) → Reached pool m depth levels base p0 parents now scope q → scope.counts k ≤ q.at
counts_fit {scope = scope} k s = counts_after scope.counts k s.so_far s.counted

-- and those of its parent
pub parent_counts_fit :
    {pool : Types} {m depth levels : ℕ} {base : List Record} {p0 : Place} {parent : Parent} {parents : List Parent} {scope : Scope} {now : Part} {q : Place} (k : ℕ)
    → Reached pool m depth levels base p0 (parent ∷ parents) now scope q → parent.scope.counts k ≤ q.at
parent_counts_fit {pool} {m} {depth} {levels} {base} {p0} {parent} {parents} {scope} {now} {q} k s =
    let before = outer_counts s.held in
    let at = s.so_far.moves.at in
    omega (arith, before, at)
  where
    outer_counts : {o : Open Context} {depth_left inner : ℕ} {path : List PathStep} {p : Place} {earlier : List Record} → Held pool m depth levels base p0 (parent ∷ parents) now o depth_left inner path p earlier → parent.scope.counts k ≤ p.at
    outer_counts (inside up h begun form can deep completes is_path counts ends goes_on takes) =
        let few = counts_after parent.scope.counts k h counts in
        let later = begun_later begun in
        omega (arith, few, later)
