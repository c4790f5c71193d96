-- A decoder between pieces: more bytes, too many bytes, and the end.
use Rattle.std.proofs.Common.{◌≡◌, ℕ, ◌+◌, ◌-◌, ◌<◌, ◌≤◌, ◌^◌, List, [], ◌∷◌, ◌++◌, take, drop, length, refl, sym, ap, ◌∙◌, subst, arith, length-append, inl, inr, None, option_map}
use Rattle.std.proofs.lemmas.List.{length-take-le}
use Rattle.pb_wire.specs.Record.{Record}
use Rattle.pb_wire.specs.Ranges.{AreBytes}
use Rattle.pb_wire.specs.declared.fault.Cause.TheVariants.{Truncated, InputTooLarge}
use Rattle.pb_wire.specs.Fault.{Fault, fault, Place, text_at}
use Rattle.pb_wire.specs.Schema.{Open, records}
use Rattle.pb_wire.specs.Grammar.{Whole, Bad, HasFault}
use Rattle.pb_wire.specs.Exact.{IsOver, longer}
use Rattle.pb_wire.specs.Limits.{Bounds}
use Rattle.pb_wire.proofs.Longer.{beyond_settled, front_within}
use Rattle.pb_schema.specs.Types.{Types}
use Rattle.pb_schema.specs.Context.{Context, a_message as in_message, schema_of}
use Rattle.pb_value.specs.Data.{Message, empty}
use Rattle.pb_value.specs.Derives.{Text}
use Rattle.pb_decode_parts.specs.declared.tokens.step.Step.{Step}
use Rattle.pb_decode_parts.specs.declared.tokens.step.Step.TheVariants as step
use Rattle.pb_decode_parts.specs.Open.Parents.{Part, message_part, Parent, Scope, Held, at_top, Reached}
use Rattle.pb_decode_parts.specs.Tokens.After.{After}
use Rattle.pb_decode.specs.Reader.{State, here, path_here, Reads, IsReading, Stops, over, cut, Reported}
use Rattle.pb_decode.specs.Push.{Took, IsSettled}
use Rattle.pb_decode_parts.proofs.AfterLemmas.{after_longer, at_record}
use Rattle.pb_decode_whole.proofs.Top.{is_top, text_read}
use Rattle.pb_decode_parts.proofs.PlaceLemmas.{slice_from}

-- WHAT IS HELD is the rest of the bytes
pub held_rest :
    (pool : Types) (m depth levels : ℕ) (base : List Record) (p0 : Place) (s : State) (n : ℕ) (l z : List ℕ) → z ≡ drop n l
    → Reads pool m depth levels base p0 s (drop n l) × Stops pool m depth p0 s (drop n l) → Reads pool m depth levels base p0 s z × Stops pool m depth p0 s z
held_rest pool m depth levels base p0 s n l z is h = subst (λ (x : List ℕ). Reads pool m depth levels base p0 s x × Stops pool m depth p0 s x) (sym is) h

pub held_all :
    (pool : Types) (m depth levels : ℕ) (base : List Record) (p0 : Place) (s : State) (n : ℕ) (l : List ℕ) → n ≡ 0
    → Reads pool m depth levels base p0 s (drop n l) × Stops pool m depth p0 s (drop n l) → Reads pool m depth levels base p0 s l × Stops pool m depth p0 s l
held_all pool m depth levels base p0 s n l none h = subst (λ (x : ℕ). Reads pool m depth levels base p0 s (drop x l) × Stops pool m depth p0 s (drop x l)) none h

-- MORE BYTES after those that are held
pub reads_more :
    {pool : Types} {m depth levels : ℕ} {base : List Record} {p0 : Place} (s : State) (held more : List ℕ) → AreBytes more
    → Reads pool m depth levels base p0 s held → Reads pool m depth levels base (longer p0 more) s (held ++ more)
reads_more s held more bytes h = after_longer more bytes h

pub reading_more : {pool : Types} (s : State) (held more : List ℕ) → AreBytes more → s.at + length held + length more < 2 ^ 31 → IsReading pool s held → IsReading pool s (held ++ more)
reading_more s held more bytes small h = record {
  m = h.m;
  depth = h.depth;
  levels = h.levels;
  base = h.base;
  p0 = longer h.p0 more;
  reads = reads_more s held more bytes h.reads;
  small = let e = length-append held more in omega (arith, e, small);
}

pub no_bytes : (l : List ℕ) → length l ≡ 0 → l ≡ []
no_bytes [] none = refl
no_bytes (x ∷ l) none = absurd (omega (arith, none))

-- after nothing
pub held_after : (n : ℕ) (held l : List ℕ) → length held ≡ 0 → held ++ take (length l - n) (drop n l) ≡ drop n l
held_after n held l none = ap (λ (z : List ℕ). z ++ take (length l - n) (drop n l)) (no_bytes held none) ∙ slice_from n l

-- what is taken of an encoding, with the next piece after it
pub took_more :
    {pool : Types} {m : ℕ} {limits : Bounds} (b piece : List ℕ) (s t : State) (held rest : List ℕ) → Took pool m limits b s held → length b + length piece ≤ limits.bytes
    → t.at + length rest ≡ s.at + length held + length piece → Reads pool m limits.depth 101 [] (longer (text_at b) piece) t rest × Stops pool m limits.depth (longer (text_at b) piece) t rest
    → Took pool m limits (b ++ piece) t rest
took_more b piece s t held rest h fits at there = record {
  reads = there.0;
  stops = there.1;
  at = let was = h.at in let joined = length-append b piece in omega (arith, at, was, joined);
  size = let joined = length-append b piece in omega (arith, fits, joined);
}

-- no end is known of the whole input
pub top_known : {pool : Types} {m depth levels : ℕ} {b : List ℕ} {now : Part} {scope : Scope} {q : Place} → Reached pool m depth levels [] (text_at b) [] now scope q → q.known ≡ None
top_known {pool} {m} {depth} {levels} {b} {now} {q = q} s = from_held (length s.so_far.front) s.held s.so_far.moves.known
  where
    from_held :
        {o : Open Context} {depth_left inner : ℕ} {path : _} {p : Place} {earlier : List Record} (n : ℕ) → Held pool m depth levels [] (text_at b) [] now o depth_left inner path p earlier
        → q.known ≡ option_map (λ (e : ℕ). e - n) p.known → q.known ≡ None
    from_held n (at_top v form is_open is_depth is_inner is_path is_place is_base goes_on) known = known ∙ ap (λ (z : Place). option_map (λ (e : ℕ). e - n) z.known) is_place

-- at the top, and after a whole record
pub reached_top :
    {pool : Types} {m depth levels : ℕ} {b : List ℕ} (s : State) (held : List ℕ) → s.parents ≡ [] → s.next ≡ step.Tag → Reads pool m depth levels [] (text_at b) s held
    → Reached pool m depth levels [] (text_at b) [] s.now s.scope (here s held)
reached_top {pool} {m} {depth} {levels} {b} s held none tag h =
    at_record
    (subst (λ (z : Step). After pool m depth levels [] (text_at b) [] z s.now s.scope (here s held)) tag
    (subst (λ (z : List Parent). After pool m depth levels [] (text_at b) z s.next s.now s.scope (here s held)) none h))

pub top_over : {pool : Types} {m depth levels : ℕ} {b : List ℕ} (s : State) (held : List ℕ) → s.parents ≡ [] → s.next ≡ step.Tag → Reads pool m depth levels [] (text_at b) s held → IsOver (here s held) → held ≡ []
top_over s held none tag h (inl ended) = let open_end = top_known (reached_top s held none tag h) in absurd (cc)
top_over s held none tag h (inr ended) = ended.1

-- a whole input, at the end of its bytes
pub text_there :
    {pool : Types} {m : ℕ} {limits : Bounds} (b : List ℕ) (s : State) (held : List ℕ) → length b ≤ limits.bytes → s.parents ≡ [] → s.next ≡ step.Tag → held ≡ []
    → Reads pool m limits.depth 101 [] (text_at b) s held → (v : Message) × (s.now ≡ message_part m v) × Text pool m limits b v
text_there {pool} {m} {limits} b s held size none tag empty h = from_top (is_top refl reached.held)
  where
    reached : Reached pool m limits.depth 101 [] (text_at b) [] s.now s.scope (here s held)
    reached = reached_top s held none tag h

    from_top : (v : Message) × (s.now ≡ message_part m v) → (v : Message) × (s.now ≡ message_part m v) × Text pool m limits b v
    from_top (v, is) = (v, is, text_read pool m limits b (text_at b) m v s.scope (here s held) refl size (subst (λ (z : Part). Reached pool m limits.depth 101 [] (text_at b) [] z s.scope (here s held)) is reached) empty)

-- TOO MANY BYTES: those within the limit are read first
pub front_bad :
    {pool : Types} {m : ℕ} {limits : Bounds} (b piece : List ℕ) (depth_left : ℕ) (f : Fault) → length b + depth_left ≡ limits.bytes → depth_left < length piece → Reported pool m limits.depth (longer (text_at b) (take depth_left piece)) f
    → IsSettled pool m limits (b ++ piece) f
front_bad {pool} {m} {limits} b piece depth_left f is more h = record {
  fault =
      HasFault.bad_front (let e = length-append b piece in omega (arith, e, is, more))
      (subst (λ (z : List ℕ). Bad (schema_of pool) (records (in_message m)) limits.depth (text_at z) f) (front_within b piece limits.bytes depth_left is (omega (arith, more))) h.bad) (beyond_settled limits.bytes f h.settled);
  settled = h.settled;
}

pub whole_bad :
    {pool : Types} {m : ℕ} {limits : Bounds} (b piece : List ℕ) (f : Fault) → length b + length piece ≤ limits.bytes → Reported pool m limits.depth (longer (text_at b) piece) f → IsSettled pool m limits (b ++ piece) f
whole_bad b piece f size h = record { fault = HasFault.bad (let e = length-append b piece in omega (arith, e, size)) h.bad; settled = h.settled }

pub too_large :
    {pool : Types} {m : ℕ} {limits : Bounds} (b piece : List ℕ) (depth_left : ℕ) (s : State) (held : List ℕ) → length b + depth_left ≡ limits.bytes → depth_left < length piece
    → Reads pool m limits.depth 101 [] (longer (text_at b) (take depth_left piece)) s held → Stops pool m limits.depth (longer (text_at b) (take depth_left piece)) s held
    → IsSettled pool m limits (b ++ piece) (fault limits.bytes [] InputTooLarge)
too_large {pool} {m} {limits} b piece depth_left s held is more h (cut bad) = record {
  fault =
      HasFault.bad_front (let e = length-append b piece in omega (arith, e, is, more))
      (subst (λ (z : List ℕ). Bad (schema_of pool) (records (in_message m)) limits.depth (text_at z) (fault (s.at + length held) (path_here s) Truncated)) (front_within b piece limits.bytes depth_left is (omega (arith, more))) bad) refl;
  settled = λ e. absurd (cc);
}
too_large {pool} {m} {limits} b piece depth_left s held is more h (over none tag ended) =
    let size : length (b ++ take depth_left piece) ≤ limits.bytes = (let e = length-append b (take depth_left piece) in let t = length-take-le depth_left piece (omega (arith, more)) in omega (arith, e, t, is)) in
    let (v, form, text) = text_there (b ++ take depth_left piece) s held size none tag (top_over s held none tag h ended) h in
    record {
      fault =
          HasFault.too_large (let e = length-append b piece in omega (arith, e, is, more))
          (subst (Whole (schema_of pool) (in_message m) limits.depth) (front_within b piece limits.bytes depth_left is (omega (arith, more))) (text.derives.records, text.derives.spelled, text.derives.sound)) refl;
      settled = λ e. absurd (cc);
    }
