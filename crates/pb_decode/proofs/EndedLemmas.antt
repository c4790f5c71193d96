-- What ends where a reader is.
use Rattle.std.proofs.Common.{◌≡◌, ℕ, ◌+◌, ◌-◌, ◌≤◌, List, [], ◌∷◌, ◌++◌, map, reverse, drop, refl, sym, ap, ◌∙◌, subst, arith, append-nil, Option, Some, None, option_map}
use Rattle.std.specs.Prelude.{Bool, true, false, if◌then◌else◌, is_some}
use Rattle.std.proofs.lemmas.List.{reverse-append, map-append}
use Rattle.pb_wire.specs.Record.{Record}
use Rattle.pb_wire.specs.declared.fault.Cause.TheVariants.{PastEnd}
use Rattle.pb_wire.specs.declared.fault.PathStep.{PathStep}
use Rattle.pb_wire.specs.Fault.{fault, Place, HasTag}
use Rattle.pb_wire.specs.Scan.{passed}
use Rattle.pb_wire.specs.Schema.{records}
use Rattle.pb_wire.specs.Grammar.{Bad}
use Rattle.pb_schema.specs.declared.types.Kind.{Kind}
use Rattle.pb_schema.specs.Types.{Types}
use Rattle.pb_schema.specs.Rules.{IsPool}
use Rattle.pb_schema.specs.Context.{a_message as in_message, schema_of}
use Rattle.pb_decode_parts.specs.declared.open.part.Parent.{Parent as ParentKept}
use Rattle.pb_decode_parts.specs.declared.open.part.Part.{Part as PartKept}
use Rattle.pb_decode_parts.specs.declared.tokens.step.Step.{Step}
use Rattle.pb_decode_parts.specs.declared.tokens.step.Step.TheVariants as step
use Rattle.pb_decode_parts.specs.Open.Parents.{Part, Scope, Parent, parent_of, one_more_in, up_to, path_of, Reached}
use Rattle.pb_decode_parts.specs.Open.PartView.{part_view, scope_view, parent_view}
use Rattle.pb_decode_parts.specs.Open.Openings.{innermost_group}
use Rattle.pb_decode_parts.specs.Tokens.After.{After}
use Rattle.pb_decode_parts.specs.Close.Closes.{ClosesAt}
use Rattle.pb_decode.specs.Reader.{State, parents_view, left_of, here, own_step, path_here, Reads, HasReached, Reported}
use Rattle.pb_decode.specs.Reader.Ended.{EndsWith}
use Rattle.pb_decode.proofs.LengthSteps.{reached_here}
use Rattle.pb_decode_parts.proofs.AfterLemmas.{after_record, at_record}
use Rattle.pb_decode_parts.proofs.GroupLemmas.{past_end_reported}
use Rattle.pb_decode.proofs.FewRecords.{counts_fit}
use Rattle.pb_decode_parts.proofs.ListSteps.{at_list, list_over}
use Rattle.pb_decode_whole.proofs.ListHolds.{list_can_hold}

-- parents are kept outermost first, so the last is the innermost
pub parents_split : (fs gs : List ParentKept) (f : ParentKept) → fs ≡ gs ++ f ∷ [] → parents_view fs ≡ parent_view f ∷ parents_view gs
parents_split fs gs f is = ap parents_view is ∙ ap reverse (map-append parent_view gs (f ∷ [])) ∙ reverse-append (map parent_view gs) (parent_view f ∷ [])

-- and so where its part is taken out of it
pub parents_popped : (fs gs : List ParentKept) (f : ParentKept) (p : PartKept) → fs ≡ gs ++ f ∷ [] → p ≡ f.part → parents_view fs ≡ parent_of (part_view p) f.number f.slot f.group (scope_view f.scope) ∷ parents_view gs
parents_popped fs gs f p is same = parents_split fs gs f is ∙ ap (λ (z : PartKept). parent_of (part_view z) f.number f.slot f.group (scope_view f.scope) ∷ parents_view gs) (sym same)

-- AT A TAG the reader is after a whole record of the innermost part
pub has_reached :
    {pool : Types} {m depth levels : ℕ} {base : List Record} {p0 : Place} (s : State) (rest : List ℕ) (parents : List Parent) (now : Part) → Reads pool m depth levels base p0 s rest → s.next ≡ step.Tag → s.parents ≡ parents → s.now ≡ now
    → Reached pool m depth levels base p0 parents now s.scope (here s rest)
has_reached {pool} {m} {depth} {levels} {base} {p0} s rest parents now begun tag around is =
    subst (λ (z : Part). Reached pool m depth levels base p0 parents z s.scope (here s rest)) is
    (subst (λ (z : List Parent). Reached pool m depth levels base p0 z s.now s.scope (here s rest)) around
    (at_record (subst (λ (z : Step). After pool m depth levels base p0 s.parents z s.now s.scope (here s rest)) tag begun)))

-- and where that ended, the reader is in the part that holds it
closed_here : (s t : State) (end : Option ℕ) (rest : List ℕ) → t.at ≡ s.at → t.scope.end ≡ end → up_to end (here s rest) ≡ here t rest
closed_here s t end rest at is =
    ap (λ (z : Option ℕ). up_to z (here s rest)) (sym is)
    ∙ ap (λ (z : ℕ). record { at = z; known = option_map (λ (e : ℕ). e - z) t.scope.end; rest = rest }) (sym at)

pub closed_reads :
    {pool : Types} {m depth levels : ℕ} {base : List Record} {p0 : Place} (s t : State) (end : Option ℕ) (rest : List ℕ) → t.at ≡ s.at → t.next ≡ step.Tag → t.scope.end ≡ end → HasReached pool m depth levels base p0 t (up_to end (here s rest))
    → Reads pool m depth levels base p0 t rest
closed_reads {pool} {m} {depth} {levels} {base} {p0} s t end rest at tag is h =
    subst (λ (z : Step). After pool m depth levels base p0 t.parents z t.now t.scope (here t rest)) (sym tag)
    (after_record (subst (HasReached pool m depth levels base p0 t) (closed_here s t end rest at is) h))

-- THE PARENT THAT IS TAKEN OUT

in_group_of : (parent : Parent) (parents : List Parent) (k : ℕ) → innermost_group (parent ∷ parents) ≡ Some k → parent.group ≡ true
in_group_of parent parents k some = by_flag parent.group some
  where
    by_flag : (g : Bool) → (if g then Some parent.number else None) ≡ Some k → g ≡ true
    by_flag true e = refl
    by_flag false e = absurd (cc)

-- it ends with this many bytes, and its parent is the innermost part
pub part_closed :
    {pool : Types} {m depth levels : ℕ} {base : List Record} {p0 : Place} (s t : State) (f : Parent) (rest : List ℕ) (used : ℕ) → s.parents ≡ f ∷ t.parents → t.at ≡ s.at + used → t.next ≡ step.Tag → t.scope.end ≡ f.scope.end
    → EndsWith (innermost_group s.parents) (here s rest) used → ((w : Place) → ClosesAt f.group f.number f.scope.end (here s rest) w → HasReached pool m depth levels base p0 t w) → Reads pool m depth levels base p0 t (drop used rest)
part_closed {pool} {m} {depth} {levels} {base} {p0} s t f rest used around at tag end ends closes =
    by_group f.group (subst (λ (z : List Parent). EndsWith (innermost_group z) (here s rest) used) around ends) closes
  where
    by_group : (g : Bool) → EndsWith (if g then Some f.number else None) (here s rest) used → ((w : Place) → ClosesAt g f.number f.scope.end (here s rest) w → HasReached pool m depth levels base p0 t w)
        → Reads pool m depth levels base p0 t (drop used rest)
    by_group true last put = reached_here t (drop used rest) (passed (here s rest) used) (put (passed (here s rest) used) last) tag (sym at) refl
    by_group false last put =
        let none = last.0 in
        subst (λ (z : ℕ). Reads pool m depth levels base p0 t (drop z rest)) (sym none)
        (closed_reads s t f.scope.end rest (omega (arith, at, none)) tag end (put (up_to f.scope.end (here s rest)) (last.1, refl)))

-- A GROUP at a known end
group_reported :
    {pool : Types} {m depth levels : ℕ} {base : List Record} {p0 : Place} {parents : List Parent} {scope : Scope} {now : Part} {q : Place} (k : ℕ)
    → Reached pool m depth levels base p0 parents now scope q → innermost_group parents ≡ Some k → q.known ≡ Some 0 → Bad (schema_of pool) (records (in_message m)) depth p0 (fault q.at (path_of parents) PastEnd)
group_reported {parents = []} k s some end = absurd (cc)
group_reported {parents = parent ∷ parents} k s some end = past_end_reported s (in_group_of parent parents k some) end

pub group_at_end :
    {pool : Types} {m depth levels : ℕ} {base : List Record} {p0 : Place} (s : State) (rest : List ℕ) → Reads pool m depth levels base p0 s rest → s.next ≡ step.Tag → is_some (innermost_group s.parents) ≡ true → left_of s ≡ Some 0
    → Reported pool m depth p0 (fault s.at (path_here s) PastEnd)
group_at_end {pool} {m} {depth} {levels} {base} {p0} s rest begun tag some end =
    let (k, is) = the_group (innermost_group s.parents) some in
    record { bad = subst (λ (z : List PathStep). Bad (schema_of pool) (records (in_message m)) depth p0 (fault s.at z PastEnd)) path (group_reported k (has_reached s rest s.parents s.now begun tag refl refl) is end); settled = λ same. absurd (cc) }
  where
    the_group : (o : Option ℕ) → is_some o ≡ true → (k : ℕ) × (o ≡ Some k)
    the_group (Some k) h = (k, refl)
    the_group None h = absurd (cc)

    path : path_of s.parents ≡ path_here s
    path = sym (append-nil (path_of s.parents)) ∙ ap (λ (z : Step). path_of s.parents ++ own_step z s.scope) (sym tag)

-- where no group is innermost the part ends there with no byte
pub ends_here : (o g : Option ℕ) (q : Place) → o ≡ g → is_some o ≡ false → q.known ≡ Some 0 → EndsWith g q 0
ends_here None g q is none end = subst (λ (z : Option ℕ). EndsWith z q 0) is (refl, end)
ends_here (Some k) g q is none end = absurd (cc)

-- and a group with its last tag
pub ends_group : (g : Option ℕ) (q : Place) (number used : ℕ) → g ≡ Some number → HasTag q number 4 (passed q used) → EndsWith g q used
ends_group g q number used is last = subst (λ (z : Option ℕ). EndsWith z q used) (sym is) last

-- A PACKED LIST at its end
pub list_few :
    {pool : Types} {m depth levels : ℕ} {base : List Record} {p0 : Place} (s : State) (rest : List ℕ) (k : ℕ) (kd : Kind) (outer : Option ℕ) → Reads pool m depth levels base p0 s rest → s.next ≡ step.Elements k kd outer
    → s.scope.counts k ≤ s.at
list_few {pool} {m} {depth} {levels} {base} {p0} s rest k kd outer begun is =
    let list = at_list k kd outer (subst (λ (z : Step). After pool m depth levels base p0 s.parents z s.now s.scope (here s rest)) is begun) in
    let few = counts_fit k list.reached in
    let tag = list.has.tag.2.at in
    let size = list.length_is.length_is.2.at in
    let on = list.elements_are.moves.at in
    omega (arith, few, tag, size, on)

pub list_ended :
    {pool : Types} {m depth levels : ℕ} {base : List Record} {p0 : Place} (s t : State) (rest : List ℕ) (k : ℕ) (kd : Kind) (outer : Option ℕ) → IsPool pool → Reads pool m depth levels base p0 s rest → s.next ≡ step.Elements k kd outer
    → left_of s ≡ Some 0 → t.at ≡ s.at → t.next ≡ step.Tag → t.parents ≡ s.parents → t.now ≡ s.now → t.scope ≡ one_more_in k (record s.scope { end = outer }) → Reads pool m depth levels base p0 t rest
list_ended {pool} {m} {depth} {levels} {base} {p0} s t rest k kd outer ok begun is end at tag around now scope =
    let inside_list = subst (λ (z : Step). After pool m depth levels base p0 s.parents z s.now s.scope (here s rest)) is begun in
    let over = list_over k kd outer ok (list_can_hold k kd outer ok inside_list) inside_list end in
    closed_reads s t outer rest at tag (ap (λ (z : Scope). z.end) scope)
    (subst (λ (z : List Parent). Reached pool m depth levels base p0 z t.now t.scope (up_to outer (here s rest))) (sym around)
    (subst (λ (z : Part). Reached pool m depth levels base p0 s.parents z t.scope (up_to outer (here s rest))) (sym now)
    (subst (λ (z : Scope). Reached pool m depth levels base p0 s.parents s.now z (up_to outer (here s rest))) (sym scope) over)))
