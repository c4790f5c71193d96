-- What an input begins with is one frame, or has one fault.
use Rattle.std.proofs.Common.{◌≡◌, ◌≢◌, ℕ, ◌+◌, ◌-◌, ◌<◌, ◌≤◌, List, [], ◌∷◌, ◌++◌, length, take, drop, refl, sym, ap, subst, ◌∙◌, arith, append_assoc, Option, Some, None, ◌⊎◌, inl, inr, ⊎_elim, All}
use Rattle.std.specs.Prelude.{Result, Ok, Err, IfOk, IfErr, IfSome, IfNone, IsSomeAnd, IsErrAnd, MatchResult}
use Rattle.std.proofs.lemmas.Bool.{cases_lt}
use Rattle.std.proofs.lemmas.List.{take-append-drop, length-take-le, drop_at}
use Rattle.std.proofs.lemmas.List.Elements.{All-drop}
use Rattle.pb_wire.specs.Fault.{Fault, fault, Place, text_at, Reads, VarintFault}
use Rattle.pb_wire.specs.Ranges.{IsByte}
use Rattle.pb_wire.specs.Limits.{Bounds}
use Rattle.pb_wire.specs.Schema.{records}
use Rattle.pb_wire.specs.Grammar.{Bad, Whole, payload_at}
use Rattle.pb_wire.specs.Exact.{IsRead, IsFrame, ending_at, Exactly}
use Rattle.pb_wire.specs.declared.fault.Cause.TheVariants.{LengthTooLarge}
use Rattle.pb_wire.proofs.Places.{after, moves_after}
use Rattle.pb_wire.proofs.Unique.{same_front, same_records}
use Rattle.pb_wire.proofs.Tokens.{one_reads, varint_not_both, one_varint_fault, a_varint_or_fault}
use Rattle.pb_wire.proofs.OneFault as wire
use Rattle.pb_wire.proofs.ExactLemmas.{exactly_frame}
use Rattle.pb_schema.specs.Types.{Types}
use Rattle.pb_schema.specs.Context.{a_message, schema_of}
use Rattle.pb_value.specs.Data.{Message}
use Rattle.pb_value.specs.Value.{value}
use Rattle.pb_value.specs.Derives.{Derives}
use Rattle.pb_decode.specs.declared.error.DecodeError.{DecodeError}
use Rattle.pb_decode.specs.declared.error.DecodeError.TheVariants as error
use Rattle.pb_stream.specs.Frame.{Frame, FrameFault, BeginsWithFrame}
use Rattle.pb_decode.specs.FromDevice.{IfRefused, IsNoFault}
use Rattle.pb_stream.specs.Taking.{TakesNone}

same_value : {pool : Types} {m d e : ℕ} {b : List ℕ} {v w : Message} → Derives pool m d b v → Derives pool m e b w → v ≡ w
same_value {pool} {m} {d} {e} {b} h g = h.valued ∙ ap (value pool m) (same_records h.records g.records b h.spelled g.spelled) ∙ sym g.valued

-- no varint stands in no bytes
no_reads : {n : ℕ} {q : Place} → Reads (text_at []) n q → ⊥
no_reads ([], is_varint, moves) = is_varint.ends
no_reads (x ∷ xs, is_varint, moves) = let e = moves.given in cc

module _ (pool : Types) (m : ℕ) (limits : Bounds) where
  -- the length of a frame is read
  frame_reads :
      {input rest : List ℕ} {v : Message} → (h : Frame pool m limits input v rest) → Reads (text_at input) (length h.text) (after (text_at input) h.front (h.text ++ rest))
  frame_reads {input} {rest} h =
      (h.front, h.counted, moves_after (text_at input) h.front (h.text ++ rest) (h.joined ∙ append_assoc h.front h.text rest) tt)

  pub one_frame : {input rest more : List ℕ} {v w : Message} → Frame pool m limits input v rest → Frame pool m limits input w more → (v ≡ w) × (rest ≡ more)
  one_frame {input} {rest} {more} {v} {w} h g =
      let one = one_reads (frame_reads h) (frame_reads g) in
      let same = same_front h.text g.text rest more one.0 (ap (λ (q : Place). q.rest) one.1) in
      (same_value h.derives.derives (subst (λ (z : List ℕ). Derives pool m limits.depth z w) (sym same.0) g.derives.derives), same.1)

  -- whole records are read up to the end that they reach
  read_whole :
      (at : ℕ) (text rest : List ℕ) → Whole (schema_of pool) (a_message m) limits.depth text
      → IsRead (schema_of pool) (records (a_message m)) limits.depth (ending_at at (length text) (text ++ rest))
  read_whole at text rest whole = (
    text,
    after (ending_at at (length text) (text ++ rest)) text rest,
    whole,
    moves_after (ending_at at (length text) (text ++ rest)) text rest refl (let h : length text ≤ length text = omega arith in h),
    inl (ap (λ (z : ℕ). Some z) (let h : length text - length text ≡ 0 = omega arith in h)),
  )

  -- a frame has no fault
  pub frame_not_both : {input rest : List ℕ} {v : Message} {f : Fault} → FrameFault pool m limits input f → Frame pool m limits input v rest → ⊥
  frame_not_both (FrameFault.no_length some bad) h = varint_not_both bad (frame_reads h)
  frame_not_both (FrameFault.too_large reads large is) h =
      let one = one_reads reads (frame_reads h) in let small = h.derives.size in omega (arith, one.0, small, large)
  frame_not_both {input} {rest} {v} {f} (FrameFault.in_text {n = n} {q = q} reads small bad) h =
      let one = one_reads reads (frame_reads h) in
      let text = h.derives.derives in
      wire.not_both (subst (λ (k : ℕ). Bad (schema_of pool) (records (a_message m)) limits.depth (payload_at (after (text_at input) h.front (h.text ++ rest)) k) f) one.0
      (subst (λ (z : Place). Bad (schema_of pool) (records (a_message m)) limits.depth (payload_at z n) f) one.1 bad))
      (read_whole (0 + length h.front) h.text rest (text.records, text.spelled, text.sound))

  pub one_frame_fault : {input : List ℕ} {f g : Fault} → FrameFault pool m limits input f → FrameFault pool m limits input g → f ≡ g
  one_frame_fault (FrameFault.no_length a b) (FrameFault.no_length c d) = one_varint_fault b d
  one_frame_fault (FrameFault.no_length a b) (FrameFault.too_large r large is) = absurd (varint_not_both b r)
  one_frame_fault (FrameFault.no_length a b) (FrameFault.in_text r small bad) = absurd (varint_not_both b r)
  one_frame_fault (FrameFault.too_large r large is) (FrameFault.no_length c d) = absurd (varint_not_both d r)
  one_frame_fault (FrameFault.too_large r large is) (FrameFault.too_large s more it) = is ∙ sym it
  one_frame_fault (FrameFault.too_large r large is) (FrameFault.in_text s small bad) = let one = (one_reads r s).0 in absurd (omega (arith, one, large, small))
  one_frame_fault (FrameFault.in_text r small bad) (FrameFault.no_length c d) = absurd (varint_not_both d r)
  one_frame_fault (FrameFault.in_text r small bad) (FrameFault.too_large s more it) = let one = (one_reads r s).0 in absurd (omega (arith, one, more, small))
  one_frame_fault {input} {f} {g} (FrameFault.in_text {n = n} {q = q} r small bad) (FrameFault.in_text {n = k} {q = p} s less other) =
      let one = one_reads r s in
      wire.one_fault (subst (λ (i : ℕ). Bad (schema_of pool) (records (a_message m)) limits.depth (payload_at p i) f) one.0
      (subst (λ (z : Place). Bad (schema_of pool) (records (a_message m)) limits.depth (payload_at z n) f) one.1 bad)) other

  frame_of_text :
      (input : List ℕ) (n : ℕ) (q : Place) → Reads (text_at input) n q → n ≤ limits.bytes → IsFrame (schema_of pool) (a_message m) limits.depth n q.rest
      → BeginsWithFrame pool m limits input
  frame_of_text input n q (front, is_varint, moves) small (given, (rs, spelled, sound)) =
      let size : length (take n q.rest) ≡ n = length-take-le n q.rest given in (
        value pool m rs,
        drop n q.rest,
        record {
          front = front;
          text = take n q.rest;
          joined = moves.given ∙ ap (λ (z : List ℕ). front ++ z) (sym (take-append-drop n q.rest)) ∙ sym (append_assoc front (take n q.rest) (drop n q.rest));
          counted = rw size is_varint;
          derives = record { size = omega arith; derives = record { records = rs; spelled = spelled; sound = sound; valued = refl } };
        },
      )

  some_frame : (input : List ℕ) → input ≢ [] → All IsByte input → BeginsWithFrame pool m limits input ⊎ ((f : Fault) × FrameFault pool m limits input f)
  some_frame input some bytes = judge (a_varint_or_fault (text_at input))
    where
      behind : {n : ℕ} (q : Place) → Reads (text_at input) n q → All IsByte q.rest
      behind q (front, is_varint, moves) =
          subst (λ (z : List ℕ). All IsByte z) (ap (drop (length front)) moves.given ∙ drop_at front q.rest (length front) refl) (All-drop IsByte (length front) input bytes)

      within : (n : ℕ) (q : Place) → Reads (text_at input) n q → n ≤ limits.bytes → BeginsWithFrame pool m limits input ⊎ ((f : Fault) × FrameFault pool m limits input f)
      within n q reads small =
          ⊎_elim (λ (h : IsFrame (schema_of pool) (a_message m) limits.depth n q.rest). inl (frame_of_text input n q reads small h))
          (λ (h : (f : Fault) × Bad (schema_of pool) (records (a_message m)) limits.depth (ending_at q.at n q.rest) f). inr (h.0, FrameFault.in_text reads small h.1))
          (exactly_frame (schema_of pool) (a_message m) limits.depth q.at n q.rest (behind q reads)).either

      judge :
          ((n : ℕ) × (q : Place) × Reads (text_at input) n q) ⊎ ((f : Fault) × VarintFault (text_at input) f)
          → BeginsWithFrame pool m limits input ⊎ ((f : Fault) × FrameFault pool m limits input f)
      judge (inr (f, bad)) = inr (f, FrameFault.no_length some bad)
      judge (inl (n, q, reads)) =
          ⊎_elim (λ (large : limits.bytes < n). inr (fault 0 [] LengthTooLarge, FrameFault.too_large reads large refl))
          (λ (small : n ≤ limits.bytes). within n q reads small) (cases_lt limits.bytes n)

  pub exactly_one : (input : List ℕ) → input ≢ [] → All IsByte input → Exactly (BeginsWithFrame pool m limits input) (FrameFault pool m limits input)
  exactly_one input some bytes = record {
    either = some_frame input some bytes;
    not_both = λ f bad good. frame_not_both bad good.2;
    one = λ f g bad other. one_frame_fault bad other;
  }

  -- ---- at the end of the input

  pub no_frame : {rest : List ℕ} {v : Message} → Frame pool m limits [] v rest → ⊥
  no_frame h = no_reads (frame_reads h)

  pub no_frame_fault : {f : Fault} → FrameFault pool m limits [] f → ⊥
  no_frame_fault (FrameFault.no_length some bad) = some refl
  no_frame_fault (FrameFault.too_large r large is) = no_reads r
  no_frame_fault (FrameFault.in_text r small bad) = no_reads r

  -- ---- what is answered is all that can be

  none_left : (left : List ℕ) (new : Option (List ℕ)) → TakesNone (Some left) new → left ≡ []
  none_left left None h = absurd h.0
  none_left left (Some ys) h = h.0 ∙ h.1

  module _ {X : Type 0} (body : X → Message) where
    -- each answer is right
    pub record IsRight (old new : Option (List ℕ)) (r : Result (Option X) DecodeError) : Type 0 where
      pub end : IfOk r (λ o. IfNone o (TakesNone old new))
      pub message : IfSome old (λ left. IfOk r (λ o. IfSome o (λ x. IsSomeAnd new (Frame pool m limits left (body x)))))
      pub fault : IfErr r (λ e. IfRefused e (λ f. IfSome old (λ left. FrameFault pool m limits left f)))

    same_frame : (new : Option (List ℕ)) (left rest : List ℕ) (v w : Message) → IsSomeAnd new (Frame pool m limits left v) → Frame pool m limits left w rest → v ≡ w
    same_frame None left rest v w h g = absurd h
    same_frame (Some more) left rest v w h g = (one_frame h g).0

    fault_or_frame : (new : Option (List ℕ)) (left : List ℕ) (v : Message) (f : Fault) → IsSomeAnd new (Frame pool m limits left v) → FrameFault pool m limits left f → ⊥
    fault_or_frame None left v f h g = h
    fault_or_frame (Some more) left v f h g = frame_not_both g h

    -- whatever is right is answered
    pub frame_answered :
        (old new : Option (List ℕ)) (r : Result (Option X) DecodeError) → IsRight old new r
        → IfSome old (λ left. (v : Message) (rest : List ℕ) → Frame pool m limits left v rest → MatchResult r (λ o. IsSomeAnd o (λ x. body x ≡ v)) IsNoFault)
    frame_answered None new r h = tt
    frame_answered (Some left) new (Ok None) h = λ v rest frame. no_frame (subst (λ (z : List ℕ). Frame pool m limits z v rest) (none_left left new h.end) frame)
    frame_answered (Some left) new (Ok (Some x)) h = λ v rest frame. same_frame new left rest (body x) v h.message frame
    frame_answered (Some left) new (Err (error.Fault byte path cause)) h = λ v rest frame. frame_not_both h.fault frame
    frame_answered (Some left) new (Err error.Memory) h = λ v rest frame. tt
    frame_answered (Some left) new (Err error.Device) h = λ v rest frame. tt
    frame_answered (Some left) new (Err error.Finished) h = λ v rest frame. h.fault

    pub fault_answered :
        (old new : Option (List ℕ)) (r : Result (Option X) DecodeError) → IsRight old new r
        → IfSome old (λ left. (f : Fault) → FrameFault pool m limits left f → IsErrAnd r (λ e. IfRefused e (λ g. g ≡ f)))
    fault_answered None new r h = tt
    fault_answered (Some left) new (Ok None) h = λ f bad. no_frame_fault (subst (λ (z : List ℕ). FrameFault pool m limits z f) (none_left left new h.end) bad)
    fault_answered (Some left) new (Ok (Some x)) h = λ f bad. fault_or_frame new left (body x) f h.message bad
    fault_answered (Some left) new (Err (error.Fault byte path cause)) h = λ f bad. one_frame_fault h.fault bad
    fault_answered (Some left) new (Err error.Memory) h = λ f bad. tt
    fault_answered (Some left) new (Err error.Device) h = λ f bad. tt
    fault_answered (Some left) new (Err error.Finished) h = λ f bad. h.fault

    some_at_end : (new : Option (List ℕ)) (left : List ℕ) (v : Message) → left ≡ [] → IsSomeAnd new (Frame pool m limits left v) → ⊥
    some_at_end None left v none h = h
    some_at_end (Some more) left v none h = no_frame (subst (λ (z : List ℕ). Frame pool m limits z v more) none h)

    pub end_answered :
        (old new : Option (List ℕ)) (r : Result (Option X) DecodeError) → IsRight old new r → old ≡ Some [] → r ≢ Err error.Memory
        → MatchResult r (λ o. o ≡ None) (λ e. e ≡ error.Device)
    end_answered None new r h known plain = absurd cc
    end_answered (Some left) new (Ok None) h known plain = refl
    end_answered (Some left) new (Ok (Some x)) h known plain = absurd (some_at_end new left (body x) (let e : left ≡ [] = cc in e) h.message)
    end_answered (Some left) new (Err (error.Fault byte path cause)) h known plain =
        let none : left ≡ [] = cc in absurd (no_frame_fault (subst (λ (z : List ℕ). FrameFault pool m limits z (fault byte path.items cause)) none h.fault))
    end_answered (Some left) new (Err error.Memory) h known plain = absurd (plain refl)
    end_answered (Some left) new (Err error.Device) h known plain = refl
    end_answered (Some left) new (Err error.Finished) h known plain = absurd h.fault
