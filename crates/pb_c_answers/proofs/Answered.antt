-- From what a decoder answers to what C is answered.
use Rattle.std.proofs.Common.{◌≡◌, ◌⊎◌, ◌++◌, ◌≤◌, ◌+◌, ◌*◌, inl, inr, ℕ, List, Option, Some, None, refl, sym, subst, arith, ◌∙◌}
use Rattle.pb_wire.specs.Fault.{Fault, fault}
use Rattle.pb_value.specs.Data.{Message}
use Rattle.pb_value.specs.Dynamic.{Dynamic}
use Rattle.pb_decode.specs.Decoder.{Decoder}
use Rattle.pb_decode.specs.Reader.{IfFault}
use Rattle.pb_decode.specs.Received.{After, IsTextFor, IsFaultFor, IsSettledFor, IsGoingFor}
use Rattle.pb_decode.specs.declared.error.DecodeError.{DecodeError}
use Rattle.pb_decode.specs.declared.error.DecodeError.TheVariants as error
use Rattle.pb_c_answers.specs.Reporting.{Tells}
use Rattle.pb_c_answers.specs.declared.reporting.FaultReport.{FaultReport}
use Rattle.pb_c_answers.specs.declared.reporting.Step.{Step}
use Rattle.pb_c_answers.proofs.Making.{the_message}
use Rattle.pb_c_answers.proofs.StepBounds.{of_message}
use Rattle.pb_c_answers.specs.Decoder.{ByError, IsEnded, IsFed, frame_of}

pub frame_same : (d n : Decoder) → n.pool ≡ d.pool → n.kind ≡ d.kind → n.limits ≡ d.limits → frame_of (Some n) ≡ frame_of (Some d)
frame_same d n of_pool of_kind within = rw (of_pool, of_kind, within) refl

-- what is answered of an error
not_done : (e : DecodeError) (answer : ℕ) (Reported : Fault → Type 0)
    → ByError e (λ f. (answer ≡ 13) × Reported f) (answer ≡ 14) (answer ≡ 43) → answer ≡ 0 → ⊥
not_done (error.Fault byte path cause) answer Reported told is = let other = told.0 in omega (arith, other, is)
not_done error.Memory answer Reported told is = omega (arith, told, is)
not_done error.Device answer Reported told is = omega (arith, told, is)
not_done error.Finished answer Reported told is = omega (arith, told, is)

fault_answered : (e : DecodeError) (answer : ℕ) (Reported : Fault → Type 0) (P : Fault → Type 0)
    → ByError e (λ f. (answer ≡ 13) × Reported f) (answer ≡ 14) (answer ≡ 43) → IfFault e P → answer ≡ 13 → (f : Fault) × P f × Reported f
fault_answered (error.Fault byte path cause) answer Reported P told is answered = (fault byte path.items cause, is, told.1)
fault_answered error.Memory answer Reported P told is answered = absurd (omega (arith, told, answered))
fault_answered error.Device answer Reported P told is answered = absurd is
fault_answered error.Finished answer Reported P told is answered = absurd is

the_fault : (e : DecodeError) (answer : ℕ) (Reported : Fault → Type 0) (f : Fault)
    → ByError e (λ g. (answer ≡ 13) × Reported g) (answer ≡ 14) (answer ≡ 43) → IfFault e (λ g. g ≡ f) → ((answer ≡ 13) × Reported f) ⊎ (answer ≡ 14)
the_fault (error.Fault byte path cause) answer Reported f told is = inl (told.0, subst Reported is told.1)
the_fault error.Memory answer Reported f told is = inr told
the_fault error.Device answer Reported f told is = absurd is
the_fault error.Finished answer Reported f told is = absurd is

memory_answered : (e : DecodeError) (answer : ℕ) (Reported : Fault → Type 0)
    → ByError e (λ f. (answer ≡ 13) × Reported f) (answer ≡ 14) (answer ≡ 43) → e ≡ error.Memory → answer ≡ 14
memory_answered e answer Reported told is = subst (λ x. ByError x (λ f. (answer ≡ 13) × Reported f) (answer ≡ 14) (answer ≡ 43)) is told

finished_answered : (e : DecodeError) (answer : ℕ) (Reported : Fault → Type 0)
    → ByError e (λ f. (answer ≡ 13) × Reported f) (answer ≡ 14) (answer ≡ 43) → e ≡ error.Finished → answer ≡ 43
finished_answered e answer Reported told is = subst (λ x. ByError x (λ f. (answer ≡ 13) × Reported f) (answer ≡ 14) (answer ≡ 43)) is told

not_finished : (e : DecodeError) (answer : ℕ) (Reported : Fault → Type 0) (P : Fault → Type 0)
    → ByError e (λ f. (answer ≡ 13) × Reported f) (answer ≡ 14) (answer ≡ 43) → IfFault e P → answer ≡ 43 → ⊥
not_finished (error.Fault byte path cause) answer Reported P told is answered = let other = told.0 in omega (arith, other, answered)
not_finished error.Memory answer Reported P told is answered = omega (arith, told, answered)
not_finished error.Device answer Reported P told is answered = absurd is
not_finished error.Finished answer Reported P told is answered = absurd is

-- the answers of a finished decoder are others
not_over : (answer : ℕ) → (answer ≡ 0) ⊎ (answer ≡ 3) → (answer ≡ 13) ⊎ (answer ≡ 14) ⊎ (answer ≡ 43) → ⊥
not_over answer (inl is) (inl other) = omega (arith, is, other)
not_over answer (inl is) (inr (inl other)) = omega (arith, is, other)
not_over answer (inl is) (inr (inr other)) = omega (arith, is, other)
not_over answer (inr is) (inl other) = omega (arith, is, other)
not_over answer (inr is) (inr (inl other)) = omega (arith, is, other)
not_over answer (inr is) (inr (inr other)) = omega (arith, is, other)

module _ (d n : Decoder) (piece : List ℕ) (Reported : Fault → Type 0) (same : frame_of (Some n) ≡ frame_of (Some d)) where
  -- the piece was received
  pub fed :
      (d.reading ≡ None → ⊥) → ((b : List ℕ) → After d b → After n (b ++ piece)) → ((b : List ℕ) → After d b → IsGoingFor d (b ++ piece))
      → ((b : List ℕ) (f : Fault) → After d b → IsSettledFor d (b ++ piece) f → ⊥) → IsFed (Some d) (Some n) piece 0 Reported
  fed alive after goes never = record {
    received = λ done b is. after b is;
    goes_on = λ done b is. goes b is;
    fault = λ other. absurd (omega (arith, other));
    going = λ b is on. inl refl;
    refused = λ b f is settled. absurd (never b f is settled);
    closes = λ other. absurd (not_over 0 (inl refl) other);
    finished = λ gone. absurd (alive gone);
    unfinished = λ other. absurd (omega (arith, other));
    same = same;
  }

  -- it was not, by this error
  pub unfed :
      (e : DecodeError) (answer : ℕ) → ByError e (λ f. (answer ≡ 13) × Reported f) (answer ≡ 14) (answer ≡ 43)
      → (d.reading ≡ None) ⊎ ((b : List ℕ) × After d b) → (d.reading ≡ None → e ≡ error.Finished)
      → ((b : List ℕ) → After d b → IfFault e (IsSettledFor d (b ++ piece))) → ((b : List ℕ) → After d b → IsGoingFor d (b ++ piece) → e ≡ error.Memory)
      → ((b : List ℕ) (f : Fault) → After d b → IsSettledFor d (b ++ piece) f → IfFault e (λ g. g ≡ f)) → n.reading ≡ None
      → IsFed (Some d) (Some n) piece answer Reported
  unfed e answer told some finished is_fault going refused closed = record {
    received = λ done. absurd (not_done e answer Reported told done);
    goes_on = λ done. absurd (not_done e answer Reported told done);
    fault = λ bad b is. fault_answered e answer Reported (IsSettledFor d (b ++ piece)) told (is_fault b is) bad;
    going = λ b is on. inr (memory_answered e answer Reported told (going b is on));
    refused = λ b f is settled. the_fault e answer Reported f told (refused b f is settled);
    closes = λ _. closed;
    finished = λ gone. finished_answered e answer Reported told (finished gone);
    unfinished = λ over. gone_by over some;
    same = same;
  }
    where
      gone_by : answer ≡ 43 → (d.reading ≡ None) ⊎ ((b : List ℕ) × After d b) → d.reading ≡ None
      gone_by over (inl gone) = gone
      gone_by over (inr on) = absurd (not_finished e answer Reported (IsSettledFor d (on.0 ++ piece)) told (is_fault on.0 on.1) over)

module _ (d n : Decoder) (Reported : Fault → Type 0) (same : frame_of (Some n) ≡ frame_of (Some d)) where
  -- the message of the bytes was given
  pub ended :
      (m : Dynamic) → (d.reading ≡ None → ⊥) → n.reading ≡ None
      → ((b : List ℕ) → After d b → (m.pool ≡ d.pool) × (m.kind ≡ d.kind) × IsTextFor d b m.body)
      → ((b : List ℕ) (v : Message) → After d b → IsTextFor d b v → m.body ≡ v)
      → ((b : List ℕ) (f : Fault) → After d b → IsFaultFor d b f → ⊥) → IsEnded (Some d) (Some n) 0 (λ k. k ≡ m) Reported
  ended m alive closed is_value one never = record {
    value = λ done b is. (m, is_value b is, refl);
    fault = λ other. absurd (omega (arith, other));
    accepted = λ b k is means.
        let given = is_value b is in
        inl (refl, the_message k d.pool d.kind k.body means.0 means.1 refl ∙ sym (the_message m d.pool d.kind k.body given.0 given.1 (one b k.body is means.2)));
    refused = λ b f is bad. absurd (never b f is bad);
    closes = inr closed;
    finished = λ gone. absurd (alive gone);
    unfinished = λ other. absurd (omega (arith, other));
    same = same;
  }

  -- none was, by this error
  pub not_ended :
      (e : DecodeError) (answer : ℕ) → ByError e (λ f. (answer ≡ 13) × Reported f) (answer ≡ 14) (answer ≡ 43)
      → (d.reading ≡ None) ⊎ ((b : List ℕ) × After d b) → (d.reading ≡ None → e ≡ error.Finished)
      → ((b : List ℕ) → After d b → IfFault e (IsFaultFor d b)) → ((b : List ℕ) (v : Message) → After d b → IsTextFor d b v → e ≡ error.Memory)
      → ((b : List ℕ) (f : Fault) → After d b → IsFaultFor d b f → IfFault e (λ g. g ≡ f)) → n.reading ≡ None
      → IsEnded (Some d) (Some n) answer (λ k. ⊥) Reported
  not_ended e answer told some finished is_fault accepted refused closed = record {
    value = λ done. absurd (not_done e answer Reported told done);
    fault = λ bad b is. fault_answered e answer Reported (IsFaultFor d b) told (is_fault b is) bad;
    accepted = λ b k is means. inr (memory_answered e answer Reported told (accepted b k.body is means.2));
    refused = λ b f is bad. the_fault e answer Reported f told (refused b f is bad);
    closes = inr closed;
    finished = λ gone. finished_answered e answer Reported told (finished gone);
    unfinished = λ over. gone_by over some;
    same = same;
  }
    where
      gone_by : answer ≡ 43 → (d.reading ≡ None) ⊎ ((b : List ℕ) × After d b) → d.reading ≡ None
      gone_by over (inl gone) = gone
      gone_by over (inr on) = absurd (not_finished e answer Reported (IsFaultFor d on.0) told (is_fault on.0 on.1) over)

-- the steps that are reported of a piece
pub few_fed :
    (d : Decoder) (piece : List ℕ) (e : DecodeError) (answer : ℕ) (report : FaultReport) (old new : List Step)
    → ByError e (λ f. (answer ≡ 13) × Tells f report old new) (answer ≡ 14) (answer ≡ 43) → (d.reading ≡ None) ⊎ ((b : List ℕ) × After d b)
    → (d.reading ≡ None → e ≡ error.Finished) → ((b : List ℕ) → After d b → IfFault e (IsSettledFor d (b ++ piece)))
    → answer ≡ 13 → report.steps ≤ 2 * d.limits.depth + 1
few_fed d piece e answer report old new told (inl gone) finished is_fault bad =
    let over = finished_answered e answer (λ f. Tells f report old new) told (finished gone) in absurd (omega (arith, over, bad))
few_fed d piece e answer report old new told (inr on) finished is_fault bad =
    let f = fault_answered e answer (λ f. Tells f report old new) (IsSettledFor d (on.0 ++ piece)) told (is_fault on.0 on.1) bad in
    of_message d.pool d.kind f.1.fault f.2

-- those that are reported of all bytes
pub few_ended :
    (d : Decoder) (e : DecodeError) (answer : ℕ) (report : FaultReport) (old new : List Step)
    → ByError e (λ f. (answer ≡ 13) × Tells f report old new) (answer ≡ 14) (answer ≡ 43) → (d.reading ≡ None) ⊎ ((b : List ℕ) × After d b)
    → (d.reading ≡ None → e ≡ error.Finished) → ((b : List ℕ) → After d b → IfFault e (IsFaultFor d b))
    → answer ≡ 13 → report.steps ≤ 2 * d.limits.depth + 1
few_ended d e answer report old new told (inl gone) finished is_fault bad =
    let over = finished_answered e answer (λ f. Tells f report old new) told (finished gone) in absurd (omega (arith, over, bad))
few_ended d e answer report old new told (inr on) finished is_fault bad =
    let f = fault_answered e answer (λ f. Tells f report old new) (IsFaultFor d on.0) told (is_fault on.0 on.1) bad in
    of_message d.pool d.kind f.1 f.2

-- a message that was given is of the decoder's pool
pub given_pool :
    (d : Decoder) (m : Dynamic) → (d.reading ≡ None) ⊎ ((b : List ℕ) × After d b) → (d.reading ≡ None → ⊥)
    → ((b : List ℕ) → After d b → (m.pool ≡ d.pool) × (m.kind ≡ d.kind) × IsTextFor d b m.body) → m.pool ≡ d.pool
given_pool d m (inl gone) alive is_value = absurd (alive gone)
given_pool d m (inr on) alive is_value = (is_value on.0 on.1).0

-- what is given, said otherwise
pub given_as :
    (old new : Option Decoder) (answer : ℕ) (Given Held : Dynamic → Type 0) (Reported : Fault → Type 0) → ((m : Dynamic) → Given m → Held m)
    → IsEnded old new answer Given Reported → IsEnded old new answer Held Reported
given_as old new answer Given Held Reported so is = record {
  value = λ done b on. let m = is.value done b on in (m.0, m.1, so m.0 m.2);
  fault = is.fault;
  accepted = λ b m on means. as_held m (is.accepted b m on means);
  refused = is.refused;
  closes = is.closes;
  finished = is.finished;
  unfinished = is.unfinished;
  same = is.same;
}
  where
    as_held : (m : Dynamic) → ((answer ≡ 0) × Given m) ⊎ (answer ≡ 14) → ((answer ≡ 0) × Held m) ⊎ (answer ≡ 14)
    as_held m (inl both) = inl (both.0, so m both.1)
    as_held m (inr none) = inr none

-- a message was given, but there is no memory to hold it
pub lost :
    (old new : Option Decoder) (Given Held : Dynamic → Type 0) (Reported : Fault → Type 0) → IsEnded old new 0 Given Reported → IsEnded old new 14 Held Reported
lost old new Given Held Reported is = record {
  value = λ other. absurd (omega (arith, other));
  fault = λ other. absurd (omega (arith, other));
  accepted = λ b m on means. inr refl;
  refused = λ b f on bad. inr refl;
  closes = is.closes;
  finished = λ gone. let other = is.finished gone in absurd (omega (arith, other));
  unfinished = λ other. absurd (omega (arith, other));
  same = is.same;
}

-- no decoder is held
no_piece : (piece : List ℕ) (Reported : Fault → Type 0) → IsFed None None piece 3 Reported
no_piece piece Reported = record {
  received = λ other. absurd (omega (arith, other));
  goes_on = λ other. absurd (omega (arith, other));
  fault = λ other. absurd (omega (arith, other));
  going = λ b on. absurd on;
  refused = λ b f on. absurd on;
  closes = λ other. absurd (not_over 3 (inr refl) other);
  finished = λ gone. absurd gone;
  unfinished = λ other. absurd (omega (arith, other));
  same = refl;
}

pub no_decoder_fed :
    (old new : Option Decoder) (piece : List ℕ) (Reported : Fault → Type 0) → old ≡ None → new ≡ None → IsFed old new piece 3 Reported
no_decoder_fed old new piece Reported none left = rw (none, left) (no_piece piece Reported)

no_end : (Given : Dynamic → Type 0) (Reported : Fault → Type 0) → IsEnded None None 3 Given Reported
no_end Given Reported = record {
  value = λ other. absurd (omega (arith, other));
  fault = λ other. absurd (omega (arith, other));
  accepted = λ b m on. absurd on;
  refused = λ b f on. absurd on;
  closes = inl refl;
  finished = λ gone. absurd gone;
  unfinished = λ other. absurd (omega (arith, other));
  same = refl;
}

pub no_decoder_ended :
    (old new : Option Decoder) (Given : Dynamic → Type 0) (Reported : Fault → Type 0) → old ≡ None → new ≡ None → IsEnded old new 3 Given Reported
no_decoder_ended old new Given Reported none left = rw (none, left) (no_end Given Reported)
