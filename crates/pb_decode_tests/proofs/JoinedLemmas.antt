-- Pieces that are received one by one are answered as their joining is.
use Rattle.std.proofs.Common.{◌≡◌, ℕ, ◌+◌, ◌<◌, List, [], ◌∷◌, ◌++◌, length, get_or, take, drop, refl, sym, ap, ◌∙◌, subst, append-nil, append_assoc}
use Rattle.std.proofs.lemmas.List.{take-append-drop, take_more}
use Rattle.std.specs.Prelude.{Result, Ok, Err, IfOk, IfErr}
use Rattle.std.specs.Borrow.{Bor}
use Rattle.pb_wire.specs.Fault.{Fault}
use Rattle.pb_wire.specs.Grammar.{HasFault}
use Rattle.pb_wire.specs.Limits.{Bounds}
use Rattle.pb_schema.specs.Types.{Types}
use Rattle.pb_schema.specs.Context.{a_message, schema_of}
use Rattle.pb_value.specs.Derives.{Text}
use Rattle.pb_value.specs.Dynamic.{Dynamic}
use Rattle.pb_decode.specs.declared.error.DecodeError.{DecodeError}
use Rattle.pb_decode.specs.Decoder.{Decoder}
use Rattle.pb_decode.specs.Received.{After}
use Rattle.pb_decode.specs.Reader.{IfFault}
use Rattle.pb_decode.specs.Push.{IsSettled}
use Rattle.pb_decode.proofs.ReaderLemmas.{if_fault_weaker}
use Rattle.pb_decode_tests.specs.Answer.{joined, Answers}

joined-append : (xs ys : List (Bor (List ℕ))) → joined (xs ++ ys) ≡ joined xs ++ joined ys
joined-append [] ys = refl
joined-append (x ∷ xs) ys = ap (λ (z : List ℕ). x.now ++ z) (joined-append xs ys) ∙ sym (append_assoc x.now (joined xs) (joined ys))

joined_more : (ps : List (Bor (List ℕ))) (i : ℕ) (d : Bor (List ℕ)) → i < length ps → joined (take (i + 1) ps) ≡ joined (take i ps) ++ (get_or ps i d).now
joined_more ps i d lt =
    ap joined (take_more ps i d lt) ∙ joined-append (take i ps) (get_or ps i d ∷ [])
    ∙ ap (λ (z : List ℕ). joined (take i ps) ++ z) (append-nil (get_or ps i d).now)

-- one piece more
pub received_more :
    (new : Decoder) (ps : List (Bor (List ℕ))) (i : ℕ) (d : Bor (List ℕ)) → i < length ps → After new (joined (take i ps) ++ (get_or ps i d).now)
    → After new (joined (take (i + 1) ps))
received_more new ps i d lt after = subst (λ (z : List ℕ). After new z) (sym (joined_more ps i d lt)) after

-- and those behind it
joined_rest :
    (ps : List (Bor (List ℕ))) (i : ℕ) (d : Bor (List ℕ)) → i < length ps
    → (joined (take i ps) ++ (get_or ps i d).now) ++ joined (drop (i + 1) ps) ≡ joined ps
joined_rest ps i d lt =
    ap (λ (z : List ℕ). z ++ joined (drop (i + 1) ps)) (sym (joined_more ps i d lt))
    ∙ sym (joined-append (take (i + 1) ps) (drop (i + 1) ps)) ∙ ap joined (take-append-drop (i + 1) ps)

-- a decoder has the pool, the type and the limits that it was given
pub record IsOf (d : Decoder) (pool : Types) (m : ℕ) (limits : Bounds) : Type 0 where
  pub of_pool : d.pool ≡ pool
  pub of_kind : d.kind ≡ m
  pub of_limits : d.limits ≡ limits

-- a fault that a piece settled is the fault of all pieces
pub refused_pieces :
    (decoder : Decoder) (pool : Types) (m : ℕ) (limits : Bounds) (e : DecodeError) (ps : List (Bor (List ℕ))) (i : ℕ) (d : Bor (List ℕ)) → i < length ps → IsOf decoder pool m limits
    → ((p : Types) (k : ℕ) (l : Bounds) (b more : List ℕ) (f : Fault) → IsSettled p k l b f → IsSettled p k l (b ++ more) f)
    → IfFault e (IsSettled decoder.pool decoder.kind decoder.limits (joined (take i ps) ++ (get_or ps i d).now)) → IfFault e (HasFault (schema_of pool) (a_message m) limits (joined ps))
refused_pieces decoder pool m limits e ps i d lt own law told =
    let b : List ℕ = joined (take i ps) ++ (get_or ps i d).now in
    if_fault_weaker e (IsSettled decoder.pool decoder.kind decoder.limits b) (HasFault (schema_of pool) (a_message m) limits (joined ps))
    (λ f h.
    subst (λ (z : List ℕ). HasFault (schema_of pool) (a_message m) limits z f) (joined_rest ps i d lt)
    (law pool m limits b (joined (drop (i + 1) ps)) f
    (subst (λ (z : Types). IsSettled z m limits b f) own.of_pool
    (subst (λ (z : ℕ). IsSettled decoder.pool z limits b f) own.of_kind (subst (λ (z : Bounds). IsSettled decoder.pool decoder.kind z b f) own.of_limits h)))).fault) told

-- what is answered of all bytes received
pub answered_pieces :
    (decoder : Decoder) (pool : Types) (m : ℕ) (limits : Bounds) (r : Result Dynamic DecodeError) (b whole : List ℕ) → IsOf decoder pool m limits → b ≡ whole
    → IfOk r (λ d. (d.pool ≡ decoder.pool) × (d.kind ≡ decoder.kind) × Text decoder.pool decoder.kind decoder.limits b d.body)
    → IfErr r (λ e. IfFault e (HasFault (schema_of decoder.pool) (a_message decoder.kind) decoder.limits b)) → Answers pool m limits whole r
answered_pieces decoder pool m limits (Ok d) b whole own all good bad = (
  good.0 ∙ own.of_pool,
  good.1 ∙ own.of_kind,
  subst (λ (z : List ℕ). Text pool m limits z d.body) all
      (subst (λ (z : Types). Text z m limits b d.body) own.of_pool
      (subst (λ (z : ℕ). Text decoder.pool z limits b d.body) own.of_kind (subst (λ (z : Bounds). Text decoder.pool decoder.kind z b d.body) own.of_limits good.2))),
)
answered_pieces decoder pool m limits (Err e) b whole own all good bad =
    if_fault_weaker e (HasFault (schema_of decoder.pool) (a_message decoder.kind) decoder.limits b) (HasFault (schema_of pool) (a_message m) limits whole)
    (λ f h.
    subst (λ (z : List ℕ). HasFault (schema_of pool) (a_message m) limits z f) all
    (subst (λ (z : Types). HasFault (schema_of z) (a_message m) limits b f) own.of_pool
    (subst (λ (z : ℕ). HasFault (schema_of decoder.pool) (a_message z) limits b f) own.of_kind
    (subst (λ (z : Bounds). HasFault (schema_of decoder.pool) (a_message decoder.kind) z b f) own.of_limits h)))) bad
