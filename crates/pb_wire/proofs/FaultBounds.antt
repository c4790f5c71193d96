-- Where a fault is reported: between the place that is read from and the end of the input, and Truncated at that end. InputTooLarge is
-- never reported of bytes within the limit.
use Rattle.std.proofs.Common.{◌≡◌, ◌≢◌, ℕ, ◌+◌, ◌≤◌, List, [], take, sym, ap, ◌∙◌, arith, Option}
use Rattle.std.proofs.lemmas.List.{length-take}
use Rattle.std.proofs.lemmas.Str.{utf8_valid_len_le}
use Rattle.std.specs.Str.Lossy.{utf8_valid_len}
use Rattle.pb_wire.specs.Record.{Record}
use Rattle.pb_wire.specs.declared.fault.PathStep.{PathStep}
use Rattle.pb_wire.specs.Fault.{Fault, fault, inside, Place, input_end, Moves, HasTag, HasLength, TagFault, VarintFault, FixedFault, LengthFault}
use Rattle.pb_wire.specs.Schema.{Schema, Element, a_varint, four_bytes, eight_bytes, Open}
use Rattle.pb_wire.specs.Grammar.{payload_at, Bad, RecordFault, ElementFault}
use Rattle.pb_wire.specs.Exact.{IsCut}
use Rattle.pb_wire.specs.declared.fault.Cause.{Cause}
use Rattle.pb_wire.specs.declared.fault.Cause.TheVariants.{Truncated, InputTooLarge}
use Rattle.pb_wire.proofs.Places.{fewer}

-- what is known of a fault that reading from p has
pub record Told (p : Place) (f : Fault) : Type 0 where
  pub low : p.at ≤ f.byte
  pub high : f.byte ≤ input_end p
  pub cut : IsCut f → f.byte ≡ input_end p
  pub small : f.cause ≢ InputTooLarge

told_cut : {p : Place} {f : Fault} → f ≡ fault (input_end p) [] Truncated → Told p f
told_cut {p} {f} is =
    let byte : f.byte ≡ input_end p = ap (λ (z : Fault). z.byte) is in
    record {
      low = omega (arith, byte);
      high = omega (arith, byte);
      cut = λ h. byte;
      small = λ h. let e : f.cause ≡ Truncated = ap (λ (z : Fault). z.cause) is in cc;
    }

-- a fault of another cause, at this byte
told_at :
    {p : Place} {f : Fault} {byte : ℕ} {steps : List PathStep} {c : Cause} → p.at ≤ byte → byte ≤ input_end p → f ≡ fault byte steps c
    → c ≢ Truncated → c ≢ InputTooLarge → Told p f
told_at {p} {f} {byte} {steps} {c} low high is ne nl =
    let at : f.byte ≡ byte = ap (λ (z : Fault). z.byte) is in
    let e : f.cause ≡ c = ap (λ (z : Fault). z.cause) is in
    record {
      low = omega (arith, at);
      high = omega (arith, at);
      cut = λ h. absurd (ne (sym e ∙ h));
      small = λ h. nl (sym e ∙ h);
    }

-- a fault of another cause, where one is
told_here : {p : Place} {f : Fault} {steps : List PathStep} {c : Cause} → f ≡ fault p.at steps c → c ≢ Truncated → c ≢ InputTooLarge → Told p f
told_here {p} is ne nl = told_at {p = p} (omega arith) (omega arith) is ne nl

told_inside : {p : Place} {f g : Fault} {s : PathStep} → f ≡ inside s g → Told p g → Told p f
told_inside {p} {f} {g} is t =
    let e : f.cause ≡ g.cause = ap (λ (z : Fault). z.cause) is in
    let at : f.byte ≡ g.byte = ap (λ (z : Fault). z.byte) is in
    let low = t.low in
    let high = t.high in
    record {
      low = omega (arith, at);
      high = omega (arith, at);
      cut = λ h. at ∙ t.cut (sym e ∙ h);
      small = λ h. t.small (sym e ∙ h);
    }

told_from : {p q : Place} {f : Fault} (a : List ℕ) → Moves p a q → Told q f → Told p f
told_from {p} {q} {f} a m t =
    let size = fewer a m in
    let at = m.at in
    let end : input_end q ≡ input_end p = omega (arith, size, at) in
    let low = t.low in
    let high = t.high in
    record { low = omega (arith, at); high = omega (arith, end); cut = λ h. t.cut h ∙ end; small = t.small }

varint_told : {p : Place} {f : Fault} → VarintFault p f → Told p f
varint_told (VarintFault.too_long a b is) = told_here is (λ h. cc) (λ h. cc)
varint_told (VarintFault.past_end a b c is) = told_here is (λ h. cc) (λ h. cc)
varint_told (VarintFault.cut_short a b c is) = told_cut is

fixed_told : {p : Place} {n : ℕ} {f : Fault} → FixedFault n p f → Told p f
fixed_told (FixedFault.past_end a is) = told_here is (λ h. cc) (λ h. cc)
fixed_told (FixedFault.cut_short a b is) = told_cut is

length_told : {p : Place} {f : Fault} → LengthFault p f → Told p f
length_told (LengthFault.token v) = varint_told v
length_told (LengthFault.too_large r a is) = told_here is (λ h. cc) (λ h. cc)
length_told (LengthFault.past_end r a b is) = told_here is (λ h. cc) (λ h. cc)

tag_told : {o : Option ℕ} {p : Place} {f : Fault} → TagFault o p f → Told p f
tag_told (TagFault.token v) = varint_told v
tag_told (TagFault.too_large r a is) = told_here is (λ h. cc) (λ h. cc)
tag_told (TagFault.number_zero r a is) = told_here is (λ h. cc) (λ h. cc)
tag_told (TagFault.bad_type r a b c is) = told_here is (λ h. cc) (λ h. cc)
tag_told (TagFault.stray_end t a is) = told_here is (λ h. cc) (λ h. cc)
tag_told (TagFault.wrong_end t a b is) = told_here is (λ h. cc) (λ h. cc)

element_told : (e : Element) (p : Place) (f : Fault) → ElementFault e p f → Told p f
element_told a_varint p f h = varint_told h
element_told four_bytes p f h = fixed_told h
element_told eight_bytes p f h = fixed_told h

after_tag : {p q : Place} {k w : ℕ} {f : Fault} → HasTag p k w q → Told q f → Told p f
after_tag t h = told_from t.tag.0 t.tag.2 h

after_length : {p q : Place} {n : ℕ} {f : Fault} → HasLength p n q → Told q f → Told p f
after_length l h = told_from l.length_is.0 l.length_is.2 h

-- the payload's place is where its bytes begin, with another known end
in_payload : (r : Place) (n : ℕ) (f : Fault) → Told (payload_at r n) f → Told r f
in_payload r n f t = record { low = t.low; high = t.high; cut = t.cut; small = t.small }

text_told :
    (r : Place) (n : ℕ) (steps : List PathStep) (c : Cause) (f : Fault) → c ≢ Truncated → c ≢ InputTooLarge
    → f ≡ fault (r.at + utf8_valid_len (take n r.rest)) steps c → Told r f
text_told r n steps c f ne nl is =
    let size = utf8_valid_len_le (take n r.rest) in
    told_at {p = r} (omega arith) (omega (arith, size, length-take n r.rest)) is ne nl

mutual
  pub told : {S : Schema} {o : Open S.Context} {depth_left : ℕ} {p : Place} {f : Fault} → Bad S o depth_left p f → Told p f
  told (Bad.at_record {front = front} w m goes bad) = told_from front m (record_told bad)
  told (Bad.at_end {front = front} is w m end e) = told_from front m (told_here e (λ h. cc) (λ h. cc))

  pub record_told : {S : Schema} {o : Open S.Context} {before : List Record} {depth_left : ℕ} {p : Place} {f : Fault} → RecordFault S o before depth_left p f → Told p f
  record_told (RecordFault.tag t) = tag_told t
  record_told (RecordFault.group_too_deep t z is) = told_here is (λ h. cc) (λ h. cc)
  record_told (RecordFault.message_too_deep t re z is) = told_here is (λ h. cc) (λ h. cc)
  record_told (RecordFault.varint t v is) = told_inside is (after_tag t (varint_told v))
  record_told (RecordFault.fixed64 t v is) = told_inside is (after_tag t (fixed_told v))
  record_told (RecordFault.fixed32 t v is) = told_inside is (after_tag t (fixed_told v))
  record_told (RecordFault.in_a_group t bad is) = told_inside is (after_tag t (told bad))
  record_told (RecordFault.length_of t a v is) = told_inside is (after_tag t (length_told v))
  record_told (RecordFault.cut_payload t re v is) = told_inside is (after_tag t (after_length v.length_is (told_cut v.fault_is)))
  record_told (RecordFault.bad_text {n = n} {r = r} {f = f} t re l given bad is) =
      after_tag t (after_length l (text_told r n _ _ f (λ h. cc) (λ h. cc) is))
  record_told (RecordFault.in_a_list {n = n} {e = e} {r = r} {g = g} t re l bad is) =
      told_inside is (after_tag t (after_length l (in_payload r n g (told_from bad.0 bad.3 (element_told e bad.1 g bad.5)))))
  record_told (RecordFault.in_a_message {n = n} {r = r} {g = g} t re l bad is) =
      told_inside is (after_tag t (after_length l (in_payload r n g (told bad))))
  record_told (RecordFault.in_a_value {n = n} {r = r} {g = g} t re l bad is) =
      told_inside is (after_tag t (after_length l (in_payload r n g (told bad))))
