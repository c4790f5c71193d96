-- Where all bytes before a known end are given, no fault says that the input ends too early.
use Rattle.std.proofs.Common.{◌≡◌, ℕ, ◌-◌, ◌≤◌, List, length, refl, sym, ap, ◌∙◌, arith, length-append, Option, Some, None, option_map}
use Rattle.std.proofs.lemmas.List.{length-take-le}
use Rattle.pb_wire.specs.Record.{Record}
use Rattle.pb_wire.specs.declared.fault.PathStep.{PathStep}
use Rattle.pb_wire.specs.Fault.{Fault, fault, inside, Place, window, IsWithin, Moves, Leads, TagFault, VarintFault, FixedFault, LengthFault, CutFault}
use Rattle.pb_wire.specs.Schema.{Schema, Element, a_varint, four_bytes, eight_bytes, Open}
use Rattle.pb_wire.specs.Grammar.{payload_at, Bad, RecordFault, BadElements, ElementFault}
use Rattle.pb_wire.specs.Exact.{IsCut}

-- the bytes before the known end are given
pub record IsGiven (p : Place) : Type 0 where
  pub left : ℕ
  pub known : p.known ≡ Some left
  pub enough : left ≤ length p.rest

within_known : (known : Option ℕ) (e n : ℕ) (at : ℕ) (rest : List ℕ) → known ≡ Some e → IsWithin (record { at = at; known = known; rest = rest }) n → n ≤ e
within_known None e n at rest is h = absurd (cc)
within_known (Some k) e n at rest is h = let same : k ≡ e = cc in omega (arith, h, same)

given_moves : {p q : Place} (a : List ℕ) → Moves p a q → IsGiven p → IsGiven q
given_moves {p} {q} a m g = record {
  left = g.left - length a;
  known = m.known ∙ ap (option_map (λ (e : ℕ). e - length a)) g.known;
  enough = let all = ap length m.given ∙ length-append a q.rest in let enough = g.enough in omega (arith, all, enough);
}

given_leads : {Body : List ℕ → Type 0} {p q : Place} → Leads Body p q → IsGiven p → IsGiven q
given_leads h g = given_moves h.0 h.2 g

given_payload : {r : Place} (n : ℕ) → IsWithin r n → IsGiven r → IsGiven (payload_at r n)
given_payload {r} n within g = record { left = n; known = refl; enough = let few = within_known r.known g.left n r.at r.rest g.known within in let enough = g.enough in omega (arith, few, enough) }

-- the window ends at the known end
window_size : (known : Option ℕ) (at e : ℕ) (rest : List ℕ) → known ≡ Some e → e ≤ length rest → known ≡ Some (length (window (record { at = at; known = known; rest = rest })))
window_size None at e rest is enough = absurd (cc)
window_size (Some k) at e rest is enough =
    let same : k ≡ e = cc in
    let size = length-take-le k rest (omega (arith, same, enough)) in
    ap (λ (z : ℕ). Some z) (sym size)

other : {f : Fault} {byte : ℕ} {steps : List PathStep} (c : _) → f ≡ fault byte steps c → IsCut f → IsCut (fault byte steps c)
other c is cut = sym (ap (λ (z : Fault). z.cause) is) ∙ cut

varint_given : {p : Place} {f : Fault} → IsGiven p → VarintFault p f → IsCut f → ⊥
varint_given g (VarintFault.too_long long high is) cut = let e = other _ is cut in absurd (cc)
varint_given g (VarintFault.past_end short high known is) cut = let e = other _ is cut in absurd (cc)
varint_given {p} g (VarintFault.cut_short short high known is) cut = known (window_size p.known p.at g.left p.rest g.known g.enough)

fixed_given : {p : Place} {size : ℕ} {f : Fault} → IsGiven p → FixedFault size p f → IsCut f → ⊥
fixed_given g (FixedFault.past_end past is) cut = let e = other _ is cut in absurd (cc)
fixed_given {p} {size} g (FixedFault.cut_short within short is) cut = let few = within_known p.known g.left size p.at p.rest g.known within in let enough = g.enough in omega (arith, few, enough, short)

length_given : {p : Place} {f : Fault} → IsGiven p → LengthFault p f → IsCut f → ⊥
length_given g (LengthFault.token v) cut = varint_given g v cut
length_given g (LengthFault.too_large r large is) cut = let e = other _ is cut in absurd (cc)
length_given g (LengthFault.past_end r small past is) cut = let e = other _ is cut in absurd (cc)

payload_given : {p : Place} {f : Fault} → IsGiven p → CutFault p f → ⊥
payload_given g h =
    let there = given_leads h.length_is.length_is g in
    let few = within_known h.payload.known there.left h.size h.payload.at h.payload.rest there.known h.length_is.within in
    let enough = there.enough in
    let short = h.cut in
    omega (arith, few, enough, short)

tag_given : {o : Option ℕ} {p : Place} {f : Fault} → IsGiven p → TagFault o p f → IsCut f → ⊥
tag_given g (TagFault.token v) cut = varint_given g v cut
tag_given g (TagFault.too_large r a is) cut = let e = other _ is cut in absurd (cc)
tag_given g (TagFault.number_zero r a is) cut = let e = other _ is cut in absurd (cc)
tag_given g (TagFault.bad_type r a b c is) cut = let e = other _ is cut in absurd (cc)
tag_given g (TagFault.stray_end t none is) cut = let e = other _ is cut in absurd (cc)
tag_given g (TagFault.wrong_end t some differs is) cut = let e = other _ is cut in absurd (cc)

element_given : (e : Element) (p : Place) (f : Fault) → IsGiven p → ElementFault e p f → IsCut f → ⊥
element_given a_varint p f g h cut = varint_given g h cut
element_given four_bytes p f g h cut = fixed_given g h cut
element_given eight_bytes p f g h cut = fixed_given g h cut

elements_given : (e : Element) (p : Place) (f : Fault) → IsGiven p → BadElements e p f → IsCut f → ⊥
elements_given e p f g (front, q, es, m, goes, bad) cut = element_given e q f (given_moves front m g) bad cut

inner_cut : {f g : Fault} {s : PathStep} → f ≡ inside s g → IsCut f → IsCut g
inner_cut is cut = sym (ap (λ (z : Fault). z.cause) is) ∙ cut

mutual
  pub never_cut : {S : Schema} {o : Open S.Context} {depth_left : ℕ} {p : Place} {f : Fault} → IsGiven p → Bad S o depth_left p f → IsCut f → ⊥
  never_cut g (Bad.at_record {front = front} w m goes bad) cut = record_given (given_moves front m g) bad cut
  never_cut g (Bad.at_end is w m ends e) cut = let same = other _ e cut in absurd (cc)

  record_given : {S : Schema} {o : Open S.Context} {before : List Record} {depth_left : ℕ} {p : Place} {f : Fault} → IsGiven p → RecordFault S o before depth_left p f → IsCut f → ⊥
  record_given g (RecordFault.tag t) cut = tag_given g t cut
  record_given g (RecordFault.group_too_deep t z is) cut = let e = other _ is cut in absurd (cc)
  record_given g (RecordFault.message_too_deep t re z is) cut = let e = other _ is cut in absurd (cc)
  record_given g (RecordFault.varint t v is) cut = varint_given (given_leads t.tag g) v (inner_cut is cut)
  record_given g (RecordFault.fixed64 t v is) cut = fixed_given (given_leads t.tag g) v (inner_cut is cut)
  record_given g (RecordFault.fixed32 t v is) cut = fixed_given (given_leads t.tag g) v (inner_cut is cut)
  record_given g (RecordFault.in_a_group t bad is) cut = never_cut (given_leads t.tag g) bad (inner_cut is cut)
  record_given g (RecordFault.length_of t a v is) cut = length_given (given_leads t.tag g) v (inner_cut is cut)
  record_given g (RecordFault.cut_payload t re v is) cut = payload_given (given_leads t.tag g) v
  record_given g (RecordFault.bad_text t re l enough bad is) cut = let e = other _ is cut in absurd (cc)
  record_given g (RecordFault.in_a_list {n = n} {e = e} {r = r} {g = h} t re l bad is) cut =
      elements_given e (payload_at r n) h (given_payload n l.within (given_leads l.length_is (given_leads t.tag g))) bad (inner_cut is cut)
  record_given g (RecordFault.in_a_message {n = n} t re l bad is) cut = never_cut (given_payload n l.within (given_leads l.length_is (given_leads t.tag g))) bad (inner_cut is cut)
  record_given g (RecordFault.in_a_value {n = n} t re l bad is) cut = never_cut (given_payload n l.within (given_leads l.length_is (given_leads t.tag g))) bad (inner_cut is cut)
