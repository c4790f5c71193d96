-- The message itself, from its first record to its last.
use Rattle.std.proofs.Common.{◌≡◌, ℕ, ◌<◌, ◌≤◌, List, [], ◌++◌, length, refl, sym, ap, ◌∙◌, subst, arith, Some}
use Rattle.std.proofs.lemmas.List.{append-nil}
use Rattle.pb_wire.specs.Record.{Record}
use Rattle.pb_wire.specs.Ranges.{AreBytes}
use Rattle.pb_wire.specs.Fault.{Place}
use Rattle.pb_wire.specs.Schema.{Open, context_of}
use Rattle.pb_wire.specs.Limits.{Bounds}
use Rattle.pb_schema.specs.Types.{Types}
use Rattle.pb_schema.specs.Context.{Context, a_message as in_message, schema_of}
use Rattle.pb_value.specs.Data.{Message, empty}
use Rattle.pb_value.specs.Derives.{Text}
use Rattle.pb_decode_parts.specs.Open.Parents.{Part, message_part, entry_part, group_part, Parent, Scope, Held, at_top, inside, IsSameForm, Reached}
use Rattle.pb_wire.specs.Sound.{AllSound}
use Rattle.pb_wire.specs.declared.fault.PathStep.{PathStep}
use Rattle.pb_wire.specs.Scan.{given_at, passed}
use Rattle.pb_schema.specs.Rules.{IsPool}
use Rattle.pb_value.specs.Value.{value, value_within}
use Rattle.pb_value.proofs.MessageSteps.{value_of_nothing}
use Rattle.pb_value.specs.WellFormed.{IsBody, IsWellFormed}
use Rattle.pb_decode_parts.specs.Open.Opened.{SoFar}
use Rattle.pb_decode_parts.proofs.ParentLemmas.{reached_at_start}
use Rattle.pb_decode_parts.proofs.WellLemmas.{message_good}
use Rattle.pb_wire.specs.Spell.{AreRecords}
use Rattle.std.proofs.Math.Seq.{drop-length}
use Rattle.pb_decode_whole.specs.Reads.{ReachedIn, IsOpen, ReadsTo}

-- NOTHING IS OPEN BUT THE TOP: the part is the message, and no end is known
pub is_top :
    {pool : Types} {m depth levels : ℕ} {base : List Record} {p0 : Place} {parents : List Parent} {now : Part} {o : Open Context} {depth_left inner : ℕ} {path : _} {p : Place} {earlier : List Record}
    → parents ≡ [] → Held pool m depth levels base p0 parents now o depth_left inner path p earlier → (v : Message) × (now ≡ message_part m v)
is_top none (at_top {now = now} v form is_open is_depth is_inner is_path is_place is_base goes_on) = by_part now form
  where
    by_part : {k : ℕ} (part : Part) → IsSameForm part (message_part k v) → (w : Message) × (part ≡ message_part k w)
    by_part (message_part j w) same = (w, ap (λ (z : ℕ). message_part z w) same)
    by_part (entry_part key k x d) same = absurd same
    by_part (group_part us) same = absurd same
is_top none (inside up h begun form can deep completes is_path counts ends goes_on takes) = absurd (cc)

-- THE END
-- the part is the message, of the type and the levels that it began with
top_inner :
    {pool : Types} {m depth levels : ℕ} {base : List Record} {p0 : Place} {now : Part} {o : Open Context} {depth_left inner : ℕ} {path : _} {p : Place} {earlier : List Record}
    → Held pool m depth levels base p0 [] now o depth_left inner path p earlier → inner ≡ levels
top_inner (at_top v form is_open is_depth is_inner is_path is_place is_base goes_on) = is_inner

-- what there is of the top is well formed
pub top_well_formed :
    {pool : Types} {m depth : ℕ} {base : List Record} {p0 : Place} {scope : Scope} {q : Place} (k : ℕ) (w : Message) → IsPool pool → Reached pool m depth 101 base p0 [] (message_part k w) scope q → IsWellFormed pool m w
top_well_formed {pool} {m} k w ok reached =
    let good = message_good ok k w reached in
    let (v, form) = is_top refl reached.held in
    let same : k ≡ m = (let e : message_part k w ≡ message_part m v = form in cc) in
    let inner = top_inner reached.held in
    let low = good.1 in
    record { parts = subst (λ (z : ℕ). IsBody pool z w) same good.0; depth = omega (arith, low, inner) }

-- the empty message is well formed
pub nothing_good : (pool : Types) (m : ℕ) (v : Message) → v ≡ empty → IsWellFormed pool m v
nothing_good pool m v none = subst (IsWellFormed pool m) (sym none) (record { parts = (tt, tt, tt, tt); depth = omega arith })

-- A WHOLE MESSAGE: nothing is open but the message, and no byte is left
pub text_read :
    (pool : Types) (m : ℕ) (limits : Bounds) (b : List ℕ) (p0 : Place) (k : ℕ) (v : Message) (scope : Scope) (q : Place) → p0.rest ≡ b → length b ≤ limits.bytes
    → Reached pool m limits.depth 101 [] p0 [] (message_part k v) scope q → q.rest ≡ [] → Text pool m limits b v
unfolding value
text_read pool m limits b p0 k v scope q from size s none = from_held s.held s.so_far s.worth
  where
    from_held :
        {o : Open Context} {depth_left inner : ℕ} {path : List PathStep} {p : Place} {earlier rs : List Record} → Held pool m limits.depth 101 [] p0 [] (message_part k v) o depth_left inner path p earlier
        → SoFar (schema_of pool) o depth_left p rs q → v ≡ value_within pool inner k (earlier ++ rs) → Text pool m limits b v
    from_held {o} {depth_left} {inner} {path} {p} {earlier} {rs} (at_top v0 form is_open is_depth is_inner is_path is_place is_base goes_on) h worth =
        let whole : b ≡ h.front = sym from ∙ sym (ap (λ (z : Place). z.rest) is_place) ∙ h.moves.given ∙ ap (λ (z : List ℕ). h.front ++ z) none ∙ append-nil h.front in
        record {
          size = size;
          derives = record {
            records = rs;
            spelled = subst (AreRecords rs) (sym whole) h.spelled;
            sound =
                subst (λ (z : ℕ). AllSound (schema_of pool) (in_message m) z rs) is_depth
                (subst (λ (z : Open Context). AllSound (schema_of pool) (context_of z) depth_left rs) is_open h.sound);
            valued =
                worth ∙ ap (λ (z : ℕ). value_within pool z k (earlier ++ rs)) is_inner ∙ ap (λ (z : ℕ). value_within pool 101 z (earlier ++ rs)) form
                ∙ ap (λ (z : List Record). value_within pool 101 m (z ++ rs)) is_base;
          };
        }

top_scope : ℕ → ℕ → Scope
top_scope depth size = record { depth_left = depth; end = Some size; counts = λ _. 0 }

-- NO RECORD IS READ YET of a message that is empty so far
at_start :
    (pool : Types) (k depth : ℕ) (b : List ℕ) (v : Message) → v ≡ empty → depth ≤ 100 → k < length pool.messages → AreBytes b
    → ReachedIn pool k depth 101 [] (given_at 0 (Some (length b)) b) [] depth (message_part k v) (given_at 0 (Some (length b)) b)
unfolding top_scope
at_start pool k depth b v none deep within bytes =
    let good = nothing_good pool k v none in (
      top_scope depth (length b),
      reached_at_start pool k depth 101 [] (given_at 0 (Some (length b)) b) (top_scope depth (length b)) v (omega (arith, deep)) (none ∙ sym (value_of_nothing pool 101 k)) within good.parts
          (let low = good.depth in omega (arith, low)) bytes refl (λ n. refl) (length b, refl, omega arith),
      refl,
    )

pub text_open : (pool : Types) (k depth : ℕ) (b : List ℕ) (v : Message) → v ≡ empty → depth ≤ 100 → k < length pool.messages → AreBytes b → IsOpen pool (message_part k v) b (length b) depth
text_open pool k depth b v none deep within bytes = record {
  m = k;
  depth = depth;
  levels = 101;
  at = 0;
  base = [];
  p0 = given_at 0 (Some (length b)) b;
  parents = [];
  reached = at_start pool k depth b v none deep within bytes;
}

-- ALL ARE READ
pub text_filled :
    (pool : Types) (k depth_left : ℕ) (limits : Bounds) (b : List ℕ) (v : Message) (new : Part) (j : ℕ) (w : Message)
    → IsPool pool → v ≡ empty → depth_left ≡ limits.depth → depth_left ≤ 100 → length b ≤ limits.bytes → k < length pool.messages → AreBytes b
    → new ≡ message_part j w → ReadsTo pool (message_part k v) new b (length b) depth_left (length b) → Text pool k limits b w × IsWellFormed pool k w
text_filled pool k depth_left limits b v new j w rules none same deep size within bytes is filled =
    let (scope, reached, level) = filled k depth_left 101 0 [] (given_at 0 (Some (length b)) b) [] (at_start pool k depth_left b v none deep within bytes) in
    let there : Reached pool k limits.depth 101 [] (given_at 0 (Some (length b)) b) [] (message_part j w) scope (passed (given_at 0 (Some (length b)) b) (length b)) =
    subst (λ (z : ℕ). Reached pool k z 101 [] (given_at 0 (Some (length b)) b) [] (message_part j w) scope (passed (given_at 0 (Some (length b)) b) (length b))) same
    (subst (λ (z : Part). Reached pool k depth_left 101 [] (given_at 0 (Some (length b)) b) [] z scope (passed (given_at 0 (Some (length b)) b) (length b))) is reached) in (
      text_read pool k limits b (given_at 0 (Some (length b)) b) j w scope (passed (given_at 0 (Some (length b)) b) (length b)) refl size there (drop-length b),
      top_well_formed j w rules there,
    )
