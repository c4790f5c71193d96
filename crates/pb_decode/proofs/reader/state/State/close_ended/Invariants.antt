use Rattle.std.proofs.Common.{◌≡◌, ℕ, List, vec_len}
use Rattle.pb_wire.specs.Record.{Record}
use Rattle.pb_wire.specs.Fault.{Place}
use Rattle.pb_decode_parts.specs.declared.tokens.step.Step.TheVariants.{Tag}
use Rattle.pb_decode.specs.Reader.{state_view, Reads}
use Rattle.pb_decode.proofs.reader.state.State.close_ended.Given as goal

abbrev pub invariant-loop-self : goal.invariant-loop-self
invariant-loop-self l = record {
  at : l.self.at ≡ l.fn.self.at;
  tag : l.self.step ≡ Tag;
  reads :
      (m depth levels : ℕ) (base : List Record) (p0 : Place) (rest : List ℕ) → Reads l.by.pool.now m depth levels base p0 (state_view l.fn.self) rest
      → Reads l.by.pool.now m depth levels base p0 (state_view l.self) rest;
}

abbrev pub decreases-loop-self : goal.decreases-loop-self
decreases-loop-self l = vec_len l.self.parents
