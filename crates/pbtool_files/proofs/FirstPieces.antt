-- Bytes that are judged while they are read.
use Rattle.std.proofs.Common.{◌≡◌, ℕ, ◌<◌, ◌≤◌, ◌⊎◌, List, [], ◌++◌, length, take, drop, Bool, true, Option, None, Some, refl, sym, ap, ◌∙◌, arith, append-nil, inl, inr}
use Rattle.std.specs.Borrow.{Bor}
use Rattle.std.specs.Io.KnownBytes.{Consumes, IsAtEnd}
use Rattle.std.proofs.lemmas.List.{take_all, take_at, take-take, take-append-drop}
use Rattle.std.proofs.lemmas.Bool.{cases_lt}
use Rattle.pbtool_files.specs.Answer.{Answer, device_failed}
use Rattle.pbtool_files.specs.Known.{IsReadFrom}
use Rattle.pbtool_files.specs.Refusal.{Refuses}
use Rattle.pbtool_files.specs.declared.report.Refusal.{Refusal}
use Rattle.pbtool_files.specs.declared.report.Refusal.TheVariants as refusal
use Rattle.pbtool_files.proofs.RefusalLemmas.{refuses_map}

-- as many bytes as may be read were read, or all
whole_read :
    (bytes text : List ℕ) (new : Option (List ℕ)) (limit : ℕ) → Consumes (Some bytes) new text → length text ≤ limit → (length text < limit → IsAtEnd new)
    → text ≡ take limit bytes
whole_read bytes text None limit taken within ends = absurd taken
whole_read bytes text (Some rest) limit taken within ends = by (cases_lt (length text) limit)
  where
    by : (length text < limit) ⊎ (limit ≤ length text) → text ≡ take limit bytes
    by (inl few) =
        let same : bytes ≡ text = taken ∙ ap (λ (z : List ℕ). text ++ z) (ends few) ∙ append-nil text in
        sym (ap (take limit) same ∙ take_all limit text within)
    by (inr full) = sym (ap (take limit) taken ∙ take_at text rest limit (omega (arith, within, full)))

-- bytes that are the first of known ones are known to be
first_of :
    (bytes text : List ℕ) (new : Option (List ℕ)) (limit : ℕ) → Consumes (Some bytes) new text → length text ≤ limit
    → text ++ drop (length text) (take limit bytes) ≡ take limit bytes
first_of bytes text None limit taken within = absurd taken
first_of bytes text (Some rest) limit taken within =
    let first : take (length text) (take limit bytes) ≡ text =
    take-take (length text) limit bytes within ∙ ap (take (length text)) taken ∙ take_at text rest (length text) refl in
    ap (λ (z : List ℕ). z ++ drop (length text) (take limit bytes)) (sym first) ∙ take-append-drop (length text) (take limit bytes)

-- the bytes that were not read
others : ℕ → Option (List ℕ) → List ℕ → List ℕ
others limit None text = []
others limit (Some bytes) text = drop (length text) (take limit bytes)

module _ {I : Type 0} (left : I → Option (List ℕ)) (is_steady : I → Bool) (input : I) (limit : ℕ) where
  -- what was read of an input
  pub all_read :
      (text : List ℕ) (new : Option (List ℕ)) → Consumes (left input) new text → length text ≤ limit → (length text < limit → IsAtEnd new)
      → IsReadFrom left is_steady input limit (Some text)
  all_read text new taken within ends = λ bytes steady is. ap (λ (z : List ℕ). Some z) (whole_read bytes text new limit (rw is at taken) within ends)

  -- with them the first bytes are what is read
  first_read :
      (text : List ℕ) (new : Option (List ℕ)) → Consumes (left input) new text → length text ≤ limit
      → IsReadFrom left is_steady input limit (Some (text ++ others limit (left input) text))
  unfolding others
  first_read text new taken within = λ bytes steady is. rw is (ap (λ (z : List ℕ). Some z) (first_of bytes text new limit (rw is at taken) within))

  -- a fault of the first bytes is reported for all
  pub early_refuses :
      (P : Option (List ℕ) → Answer → Type 0) (text : List ℕ) (new : Option (List ℕ)) (e : Refusal) → Consumes (left input) new text → length text ≤ limit
      → ((more : List ℕ) → Refuses (P (Some (text ++ more))) e)
      → Refuses (λ a. (content : Option (List ℕ)) × IsReadFrom left is_steady input limit content × P content a) e
  early_refuses P text new e taken within refused =
      let more : List ℕ = others limit (left input) text in
      refuses_map (P (Some (text ++ more))) (λ a. (content : Option (List ℕ)) × IsReadFrom left is_steady input limit content × P content a) e
      (λ a h. (Some (text ++ more), first_read text new taken within, h)) (refused more)

  -- memory ran out, or the input failed
  pub stop_refuses :
      (P : Option (List ℕ) → Answer → Type 0) (path : Bor (List ℕ)) (e : Refusal) → P None (device_failed path.now)
      → (e ≡ refusal.Memory) ⊎ ((e ≡ refusal.Device path) × (is_steady input ≡ true → ⊥))
      → Refuses (λ a. (content : Option (List ℕ)) × IsReadFrom left is_steady input limit content × P content a) e
  stop_refuses P path e missing (inl is) = rw is tt
  stop_refuses P path e missing (inr (is, failed)) = rw is (None, λ bytes steady known. absurd (failed steady), missing)
