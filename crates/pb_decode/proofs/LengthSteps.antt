-- A reader where something begins.
use Rattle.std.proofs.Common.{◌≡◌, ℕ, ◌-◌, List, [], ◌∷◌, ◌++◌, map, reverse, refl, sym, ap, ◌∙◌, subst, option_map}
use Rattle.std.proofs.lemmas.List.{map-append, reverse-append}
use Rattle.pb_wire.specs.Record.{Record}
use Rattle.pb_wire.specs.Fault.{Place}
use Rattle.pb_schema.specs.Types.{Types}
use Rattle.pb_decode_parts.specs.declared.open.part.Parent.{Parent as ParentKept}
use Rattle.pb_decode_parts.specs.declared.tokens.step.Step.{Step}
use Rattle.pb_decode_parts.specs.declared.tokens.step.Step.TheVariants as step
use Rattle.pb_decode_parts.specs.Open.Parents.{Parent, Reached}
use Rattle.pb_decode_parts.specs.Open.PartView.{part_view, scope_view, parent_view}
use Rattle.pb_decode_parts.specs.Tokens.After.{After}
use Rattle.pb_decode_parts.specs.declared.open.part.Part.{Part as PartKept}
use Rattle.pb_decode_parts.specs.declared.open.part.Scope.{Scope as ScopeKept}
use Rattle.pb_decode.specs.declared.reader.state.State.{State as StateKept}
use Rattle.pb_decode.specs.Reader.{State, state_view, parents_view, left_of, here, Reads}
use Rattle.pb_decode_parts.proofs.ParentLemmas.{place_up_to}
use Rattle.pb_decode_parts.proofs.AfterLemmas.{after_record}

-- one more parent is the innermost
pub parents_pushed : (fs : List ParentKept) (f : ParentKept) → parents_view (fs ++ f ∷ []) ≡ parent_view f ∷ parents_view fs
parents_pushed fs f = ap reverse (map-append parent_view fs (f ∷ [])) ∙ reverse-append (map parent_view fs) (parent_view f ∷ [])

-- where a reader is, is known by its position, its end and the bytes that are left
place_here : (s : State) (rest : List ℕ) (u : Place) → u ≡ record u { known = option_map (λ (e : ℕ). e - u.at) s.scope.end } → u.at ≡ s.at → u.rest ≡ rest → u ≡ here s rest
place_here s rest u is at same =
    is ∙ ap (λ (z : ℕ). record { at = z; known = option_map (λ (e : ℕ). e - z) s.scope.end; rest = u.rest }) at
    ∙ ap (λ (z : List ℕ). record { at = s.at; known = left_of s; rest = z }) same

pub after_here :
    {pool : Types} {m depth levels : ℕ} {base : List Record} {p0 : Place} (s : State) (rest : List ℕ) (u : Place) → After pool m depth levels base p0 s.parents s.next s.now s.scope u → u.at ≡ s.at → u.rest ≡ rest
    → Reads pool m depth levels base p0 s rest
after_here {pool} {m} {depth} {levels} {base} {p0} s rest u a at same =
    subst (After pool m depth levels base p0 s.parents s.next s.now s.scope) (place_here s rest u (place_up_to u s.scope.end a.ends) at same) a

-- after a whole record, or where a part begins, a tag comes next
pub reached_here :
    {pool : Types} {m depth levels : ℕ} {base : List Record} {p0 : Place} (s : State) (rest : List ℕ) (u : Place) → Reached pool m depth levels base p0 s.parents s.now s.scope u → s.next ≡ step.Tag → u.at ≡ s.at → u.rest ≡ rest
    → Reads pool m depth levels base p0 s rest
reached_here {pool} {m} {depth} {levels} {base} {p0} s rest u h tag at same =
    after_here s rest u (subst (λ (z : Step). After pool m depth levels base p0 s.parents z s.now s.scope u) (sym tag) (after_record h)) at same

-- a reader in what is opened is where it begins
pub entered :
    {pool : Types} {m depth levels : ℕ} {base : List Record} {p0 : Place} (r : StateKept) (part : PartKept) (scope : ScopeKept) (parent : ParentKept) (parents : List Parent) (q : Place) → parents_view r.parents.items ≡ parent_view parent ∷ parents
    → r.part ≡ part → r.scope ≡ scope → r.step ≡ step.Tag → q.at ≡ r.at → Reached pool m depth levels base p0 (parent_view parent ∷ parents) (part_view part) (scope_view scope) q → Reads pool m depth levels base p0 (state_view r) q.rest
entered {pool} {m} {depth} {levels} {base} {p0} r part scope parent parents q is_parents is_part is_scope tag at h =
    reached_here (state_view r) q.rest q
    (subst (λ (z : List Parent). Reached pool m depth levels base p0 z (part_view r.part) (scope_view r.scope) q) (sym is_parents)
    (subst (λ (z : PartKept). Reached pool m depth levels base p0 (parent_view parent ∷ parents) (part_view z) (scope_view r.scope) q) (sym is_part)
    (subst (λ (z : ScopeKept). Reached pool m depth levels base p0 (parent_view parent ∷ parents) (part_view part) (scope_view z) q) (sym is_scope) h)))
    tag at refl
