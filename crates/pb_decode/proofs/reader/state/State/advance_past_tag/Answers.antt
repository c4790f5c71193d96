-- A tag is refused, or begins or ends what its wire type says.
use Rattle.std.proofs.Common.{ℕ, ◌+◌, ◌++◌, ◌∷◌, [], refl, sym, ◌∙◌, subst}
use Rattle.pb_wire.specs.Fault.{fault, HasTag}
use Rattle.pb_wire.specs.Scan.{passed}
use Rattle.pb_wire.specs.declared.fault.Cause.TheVariants.{TooDeep}
use Rattle.pb_decode_parts.specs.Open.Openings.{innermost_group}
use Rattle.pb_decode_parts.specs.Open.Parents.{path_of, next_step}
use Rattle.pb_decode.specs.Reader.{state_view, here, path_here}
use Rattle.pb_decode.proofs.ReaderLemmas.{fault_reported}
use Rattle.pb_decode.proofs.ElementLemmas.{after_reads}
use Rattle.pb_decode.proofs.EndedLemmas.{has_reached, ends_group}
use Rattle.pb_decode_parts.proofs.TokenReports.{end_reported}
use Rattle.pb_decode.proofs.TagTaken.{refused_at_tag}
use Rattle.pb_decode.proofs.WholeRecords.{tag_can}
use Rattle.pb_decode.proofs.reader.state.State.advance_past_tag.Goals as goal

pub returns-in-Some-clause-refused : goal.returns-in-Some-clause-refused
returns-in-Some-clause-refused c =
    λ m depth levels base p0 rest begun has.
    let s = state_view c.args.self.now in
    let step = c.requires.at_tag.1.step in
    fault_reported c.fault_inside.result (fault c.args.self.now.at (path_of s.parents ++ next_step c.args.tag.number s.scope ∷ []) c.in-Some.cause) c.fault_inside.ensures
    (record {
      bad =
          c.in-Some.ensures.refused c.args.by.now.pool.now m depth levels c.args.tag.number base p0 (here s rest) (passed (here s rest) c.args.tag.size) s.parents s.scope s.now (has_reached s rest s.parents s.now begun step refl refl) refl
          (subst (λ (z : ℕ). HasTag (here s rest) c.args.tag.number z (passed (here s rest) c.args.tag.size)) c.if-tag-eq3.true has);
      settled = c.in-Some.ensures.settled;
    })

pub returns-in-Err-clause-refused : goal.returns-in-Err-clause-refused
returns-in-Err-clause-refused c =
    λ m depth levels base p0 rest begun has.
    let s = state_view c.args.self.now in
    let step = c.requires.at_tag.1.step in
    let last = subst (λ (z : ℕ). HasTag (here s rest) c.args.tag.number z (passed (here s rest) c.args.tag.size)) c.if-tag-eq4.true has in
    fault_reported c.fault_at.result (fault c.args.self.now.at (path_here s) c.in-Err.cause) c.fault_at.ensures
    (refused_at_tag s c.in-Err.cause step c.in-Err.ensures.settled
    (end_reported c.in-Err.cause c.args.tag.number c.innermost.result (has_reached s rest s.parents s.now begun step refl refl) last c.innermost.ensures.group (c.in-Err.ensures.refused (here s rest) (passed (here s rest) c.args.tag.size) last)))

pub returns-in_ok-close_innermost-in-Ok-clause-reads : goal.returns-in_ok-close_innermost-in-Ok-clause-reads
returns-in_ok-close_innermost-in-Ok-clause-reads c =
    λ m depth levels base p0 rest begun has.
    let s = state_view c.args.self.now in
    c.in_ok-close_innermost-in-Ok.ensures.closes m depth levels base p0 rest begun
    (ends_group (innermost_group s.parents) (here s rest) c.args.tag.number c.args.tag.size (sym c.innermost.ensures.group ∙ c.in-Ok.ensures.ends refl)
    (subst (λ (z : ℕ). HasTag (here s rest) c.args.tag.number z (passed (here s rest) c.args.tag.size)) c.if-tag-eq4.true has))

pub tag_step-requires-clause-can : goal.tag_step-requires-clause-can
tag_step-requires-clause-can c = let at_tag = c.requires.at_tag.1 in tag_can (state_view c.args.self.now) c.requires.at_tag.0 at_tag.rules at_tag.reading.reads at_tag.step

pub returns-in-Some-tag_step-clause-reads : goal.returns-in-Some-tag_step-clause-reads
returns-in-Some-tag_step-clause-reads c =
    λ m depth levels base p0 rest begun has.
    let s = state_view c.args.self.now in
    after_reads s (state_view (record { at = c.args.self.now.at + c.args.tag.size; part = c.args.self.now.part; scope = c.args.self.now.scope; parents = c.args.self.now.parents; step = c.in-Some-tag_step.step })) c.args.tag.size rest refl refl
    (c.in-Some-tag_step.ensures.goes_on m depth levels base p0 (here s rest) (passed (here s rest) c.args.tag.size) s.parents s.scope (has_reached s rest s.parents s.now begun c.requires.at_tag.1.step refl refl) refl has)

pub returns-in-None-clause-refused : goal.returns-in-None-clause-refused
returns-in-None-clause-refused c =
    λ m depth levels base p0 rest begun has.
    let s = state_view c.args.self.now in
    fault_reported c.fault_inside-in-None.result (fault c.args.self.now.at (path_of s.parents ++ next_step c.args.tag.number s.scope ∷ []) TooDeep) c.fault_inside-in-None.ensures
    (record {
      bad = c.in-None.ensures.too_deep m depth levels base p0 (here s rest) (passed (here s rest) c.args.tag.size) s.parents s.scope (has_reached s rest s.parents s.now begun c.requires.at_tag.1.step refl refl) refl has;
      settled = λ same. absurd (cc);
    })
