-- Bytes that go out through a buffer, part by part.
use Rattle.std.proofs.Common.{◌≡◌, ◌≢◌, ℕ, ◌+◌, ◌-◌, ◌^◌, ◌<◌, min, List, [], ◌++◌, take, drop, length, arith, ap, sym, refl, ◌∙◌, subst, append_assoc, append-nil, length-append, length-take, length-drop, take-append-drop, Option}
use Rattle.std.specs.Prelude.{Bool, true, false, Result, MatchResult}
use Rattle.std.specs.Io.KnownBytes.{Appends}
use Rattle.std.proofs.KnownBytes.{Appends-nil, Appends-trans}
use Rattle.std.proofs.Math.Seq.{take-append_seam}
use Rattle.pb_wire.specs.Varint.{shortest}
use Rattle.pb_output.specs.declared.sink.Sink.{Sink}
use Rattle.pb_wire.specs.declared.device.DeviceFault.{DeviceFault}
use Rattle.pb_output.specs.Sending.{Sent, Cut}
use Rattle.pb_output.specs.Sink.{IsRest, Carries, Finishes, Puts}

module _ {D : Type 0} {written : D → Option (List ℕ)} {failures : D → ℕ} where
  -- nothing was put
  pub puts_none : {d : D} {a : Sink} → Puts written failures d d a a []
  puts_none {d} {a} = record { follow = λ start text h. subst (Carries written failures start d a) (sym (append-nil text)) h }

  -- one text after another
  pub puts_then : {d0 d1 d2 : D} {a b c : Sink} {xs ys : List ℕ} → Puts written failures d0 d1 a b xs → Puts written failures d1 d2 b c ys → Puts written failures d0 d2 a c (xs ++ ys)
  puts_then {d0} {d1} {d2} {a} {b} {c} {xs} {ys} first second = record {
    follow = λ start text h. subst (Carries written failures start d2 c) (append_assoc text xs ys) (second.follow start (text ++ xs) (first.follow start text h));
  }

  -- the bytes are held, and lost where the device failed
  pub puts_held : {d : D} {a b : Sink} {bytes : List ℕ} → b.sent ≡ a.sent → b.failed ≡ a.failed → b.held ≡ a.held ++ bytes → Puts written failures d d a b bytes
  puts_held {d} {a} {b} {bytes} same still e = record {
    follow = λ start text h. record {
      front = h.front;
      rest = h.rest ++ bytes;
      whole = ap (λ (l : List ℕ). l ++ bytes) h.whole ∙ append_assoc h.front h.rest bytes;
      went_out = h.went_out;
      counted = λ small. same ∙ h.counted (let size = length-append text bytes in omega (arith, size, small));
      state = subst (λ (f : Bool). IsRest f (failures start) (failures d) b.held (h.rest ++ bytes)) (sym still) (longer a.failed (failures start) h.rest h.state);
    };
  }
    where
      longer : (f : Bool) (before : ℕ) (rest : List ℕ) → IsRest f before (failures d) a.held rest → IsRest f before (failures d) b.held (rest ++ bytes)
      longer true before rest st = (st.0, (let size = length-append rest bytes in let some = st.1 in omega (arith, size, some)))
      longer false before rest st = (st.0, ap (λ (l : List ℕ). l ++ bytes) st.1 ∙ sym e)

  -- nothing goes out where the device failed
  pub puts_lost : {d : D} {a : Sink} {bytes : List ℕ} → a.failed ≡ true → Puts written failures d d a a bytes
  puts_lost {d} {a} {bytes} broken = record {
    follow = λ start text h.
        let st : IsRest true (failures start) (failures d) a.held h.rest = subst (λ (f : Bool). IsRest f (failures start) (failures d) a.held h.rest) broken h.state in record {
          front = h.front;
          rest = h.rest ++ bytes;
          whole = ap (λ (l : List ℕ). l ++ bytes) h.whole ∙ append_assoc h.front h.rest bytes;
          went_out = h.went_out;
          counted = λ small. h.counted (let size = length-append text bytes in omega (arith, size, small));
          state = subst (λ (f : Bool). IsRest f (failures start) (failures d) a.held (h.rest ++ bytes)) (sym broken) (st.0, (let size = length-append h.rest bytes in let some = st.1 in omega (arith, size, some)));
        };
  }

  -- what is held is let go of, where the device failed
  pub puts_dropped : {d : D} {a b : Sink} → b.sent ≡ a.sent → a.failed ≡ true → b.failed ≡ true → Puts written failures d d a b []
  puts_dropped {d} {a} {b} same broken still = record {
    follow = λ start text h. record {
      front = h.front;
      rest = h.rest;
      whole = append-nil text ∙ h.whole;
      went_out = h.went_out;
      counted = λ small. same ∙ h.counted (let size = length-append text [] in omega (arith, size, small));
      state = subst (λ (f : Bool). IsRest f (failures start) (failures d) b.held h.rest) (sym still) (subst (λ (f : Bool). IsRest f (failures start) (failures d) a.held h.rest) broken h.state);
    };
  }

  -- what was held went out, and then these bytes
  pub puts_sent :
      {d0 d1 : D} {a b : Sink} {bytes : List ℕ} (n : ℕ) → a.failed ≡ false → (failures d1 ≡ failures d0) → Appends (written d0) (written d1) (a.held ++ bytes) → b.held ≡ [] → b.failed ≡ false → n ≡ length (a.held ++ bytes)
      → b.sent ≡ min (a.sent + n) (2 ^ 64 - 1) → Puts written failures d0 d1 a b bytes
  puts_sent {d0} {d1} {a} {b} {bytes} n open_ kept appends empty still size sent = record {
    follow = λ start text h.
        let st : IsRest false (failures start) (failures d0) a.held h.rest = subst (λ (f : Bool). IsRest f (failures start) (failures d0) a.held h.rest) open_ h.state in
        let all : text ++ bytes ≡ h.front ++ (a.held ++ bytes) = ap (λ (l : List ℕ). l ++ bytes) (h.whole ∙ ap (λ (l : List ℕ). h.front ++ l) st.1) ∙ append_assoc h.front a.held bytes in record {
          front = h.front ++ (a.held ++ bytes);
          rest = [];
          whole = all ∙ sym (append-nil (h.front ++ (a.held ++ bytes)));
          went_out = Appends-trans (written start) (written d0) (written d1) h.front (a.held ++ bytes) h.went_out appends;
          counted = λ small.
              let longer = length-append text bytes in
              let before = h.counted (omega (arith, longer, small)) in
              let whole = ap length all in
              let parts = length-append h.front (a.held ++ bytes) in omega (arith, small, before, whole, parts, size, sent);
          state = subst (λ (f : Bool). IsRest f (failures start) (failures d1) b.held []) (sym still) (kept ∙ st.0, sym empty);
        };
  }

  -- the device failed after a beginning of what was held and of these bytes
  pub puts_cut :
      {d0 d1 : D} {a b : Sink} {bytes : List ℕ} (n : ℕ) → a.failed ≡ false → (failures d1 ≢ failures d0) → n < length (a.held ++ bytes) → Appends (written d0) (written d1) (take n (a.held ++ bytes)) → b.failed ≡ true
      → b.sent ≡ min (a.sent + n) (2 ^ 64 - 1) → Puts written failures d0 d1 a b bytes
  puts_cut {d0} {d1} {a} {b} {bytes} n open_ failed within appends broken sent = record {
    follow = λ start text h.
        let st : IsRest false (failures start) (failures d0) a.held h.rest = subst (λ (f : Bool). IsRest f (failures start) (failures d0) a.held h.rest) open_ h.state in
        let all : text ++ bytes ≡ h.front ++ (a.held ++ bytes) = ap (λ (l : List ℕ). l ++ bytes) (h.whole ∙ ap (λ (l : List ℕ). h.front ++ l) st.1) ∙ append_assoc h.front a.held bytes in
        let cut = take-append-drop n (a.held ++ bytes) in
        let taken : length (take n (a.held ++ bytes)) ≡ n = length-take n (a.held ++ bytes) ∙ omega (arith, within) in record {
          front = h.front ++ take n (a.held ++ bytes);
          rest = drop n (a.held ++ bytes);
          whole = all ∙ ap (λ (l : List ℕ). h.front ++ l) (sym cut) ∙ sym (append_assoc h.front (take n (a.held ++ bytes)) (drop n (a.held ++ bytes)));
          went_out = Appends-trans (written start) (written d0) (written d1) h.front (take n (a.held ++ bytes)) h.went_out appends;
          counted = λ small.
              let longer = length-append text bytes in
              let before = h.counted (omega (arith, longer, small)) in
              let whole = ap length all in
              let parts = length-append h.front (a.held ++ bytes) in
              let front = length-append h.front (take n (a.held ++ bytes)) in omega (arith, small, before, whole, parts, front, taken, within, sent);
          state = subst (λ (f : Bool). IsRest f (failures start) (failures d1) b.held (drop n (a.held ++ bytes))) (sym broken) (λ same. failed (same ∙ sym st.0), (let left = length-drop n (a.held ++ bytes) in omega (arith, left, within)));
        };
  }

  -- what was held went out
  pub flushed : {d0 d1 : D} {a b : Sink} (n : ℕ) → a.failed ≡ false → (failures d1 ≡ failures d0) → Appends (written d0) (written d1) a.held → b.held ≡ [] → b.failed ≡ false → n ≡ length a.held → b.sent ≡ min (a.sent + n) (2 ^ 64 - 1) → Puts written failures d0 d1 a b []
  flushed {d0} {d1} {a} {b} n open_ kept appends empty still size sent =
      puts_sent n open_ kept (subst (Appends (written d0) (written d1)) (sym (append-nil a.held)) appends) empty still (size ∙ ap length (sym (append-nil a.held))) sent

  pub flush_cut : {d0 d1 : D} {a b : Sink} (n : ℕ) → a.failed ≡ false → (failures d1 ≢ failures d0) → (n < length a.held) × Appends (written d0) (written d1) (take n a.held) → b.failed ≡ true → b.sent ≡ min (a.sent + n) (2 ^ 64 - 1) → Puts written failures d0 d1 a b []
  flush_cut {d0} {d1} {a} {b} n open_ failed part broken sent =
      let both = subst (λ (l : List ℕ). (n < length l) × Appends (written d0) (written d1) (take n l)) (sym (append-nil a.held)) part in puts_cut n open_ failed both.0 both.1 broken sent

  -- bytes went out where none was held
  pub went_through : {d0 d1 : D} {a b : Sink} {bytes : List ℕ} (n : ℕ) → a.held ≡ [] → a.failed ≡ false → (failures d1 ≡ failures d0) → Appends (written d0) (written d1) bytes → b.held ≡ a.held → b.failed ≡ false → n ≡ length bytes → b.sent ≡ min (a.sent + n) (2 ^ 64 - 1) → Puts written failures d0 d1 a b bytes
  went_through {d0} {d1} {a} {b} {bytes} n empty open_ kept appends same still size sent =
      let whole : bytes ≡ a.held ++ bytes = ap (λ (l : List ℕ). l ++ bytes) (sym empty) in
      puts_sent n open_ kept (subst (Appends (written d0) (written d1)) whole appends) (same ∙ empty) still (size ∙ ap length whole) sent

  pub cut_through : {d0 d1 : D} {a b : Sink} {bytes : List ℕ} (n : ℕ) → a.held ≡ [] → a.failed ≡ false → (failures d1 ≢ failures d0) → (n < length bytes) × Appends (written d0) (written d1) (take n bytes) → b.failed ≡ true → b.sent ≡ min (a.sent + n) (2 ^ 64 - 1) → Puts written failures d0 d1 a b bytes
  cut_through {d0} {d1} {a} {b} {bytes} n empty open_ failed part broken sent =
      let whole : bytes ≡ a.held ++ bytes = ap (λ (l : List ℕ). l ++ bytes) (sym empty) in
      let both = subst (λ (l : List ℕ). (n < length l) × Appends (written d0) (written d1) (take n l)) whole part in puts_cut n open_ failed both.0 both.1 broken sent

  pub puts_number : {d0 d1 : D} {a b : Sink} (m n : ℕ) → m ≡ n → Puts written failures d0 d1 a b (shortest m) → Puts written failures d0 d1 a b (shortest n)
  puts_number {d0} {d1} {a} {b} m n e h = subst (λ (i : ℕ). Puts written failures d0 d1 a b (shortest i)) e h

  -- A WHOLE TEXT

  -- a new buffer carries nothing
  carries_none : {d : D} → Carries written failures d d record { held = []; sent = 0; failed = false } []
  carries_none {d} = record { front = []; rest = []; whole = refl; went_out = Appends-nil (written d); counted = λ small. refl; state = (refl, refl) }

  -- what is carried went out where the device did not fail and nothing is held
  pub carried_whole : {d0 d1 : D} {b : Sink} {text : List ℕ} → Carries written failures d0 d1 b text → b.failed ≡ false → b.held ≡ [] → Sent written failures d0 d1 text
  carried_whole {d0} {d1} {b} {text} h open_ empty =
      let st : IsRest false (failures d0) (failures d1) b.held h.rest = subst (λ (f : Bool). IsRest f (failures d0) (failures d1) b.held h.rest) open_ h.state in
      (st.0, subst (Appends (written d0) (written d1)) (sym (append-nil h.front) ∙ ap (λ (l : List ℕ). h.front ++ l) (sym (st.1 ∙ empty)) ∙ sym h.whole) h.went_out)

  -- and else a beginning of it
  pub carried_in_part : {d0 d1 : D} {b : Sink} {text : List ℕ} → Carries written failures d0 d1 b text → b.failed ≡ true → Cut written failures d0 d1 text
  carried_in_part {d0} {d1} {b} {text} h broken =
      let st : IsRest true (failures d0) (failures d1) b.held h.rest = subst (λ (f : Bool). IsRest f (failures d0) (failures d1) b.held h.rest) broken h.state in
      (st.0, (length h.front, subst (Appends (written d0) (written d1)) (sym (ap (take (length h.front)) h.whole ∙ take-append_seam h.front h.rest)) h.went_out))

  -- what a text that was put into a new buffer comes to at its end
  pub finished :
      {d0 d1 d2 : D} {a b : Sink} {text : List ℕ} {r : Result Unit DeviceFault} → a ≡ record { held = []; sent = 0; failed = false } → Puts written failures d0 d1 a b text
      → Finishes written failures d1 d2 b r → MatchResult r (λ _. Sent written failures d0 d2 text) (λ _. Cut written failures d0 d2 text)
  finished {d0} {d1} {d2} {a} {b} {text} new put end = end.answers d0 text (put.follow d0 [] (subst (λ (x : Sink). Carries written failures d0 d0 x []) (sym new) carries_none))
