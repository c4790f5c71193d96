-- What canonical bytes say of the messages that they are of.
use Rattle.std.proofs.Common.{◌≡◌, ◌<◌, ◌^◌, ℕ, List, length, Bool, true, false, Option, Some, None, Result, Ok, Err, inl, inr, refl, sym, ap, subst, ◌∙◌}
use Rattle.std.specs.Prelude.{◌⊎◌, IfOk, IsErrAnd, MatchResult}
use Rattle.std.specs.Bool.{Decides}
use Rattle.pb_wire.specs.Fault.{Fault}
use Rattle.pb_wire.specs.Limits.{Bounds, full}
use Rattle.pb_schema.specs.Types.{Types}
use Rattle.pb_schema.specs.Rules.{IsPool}
use Rattle.pb_value.specs.Canon.{canon_bytes}
use Rattle.pb_value.specs.Data.{Message}
use Rattle.pb_value.specs.Derives.{Text}
use Rattle.pb_value.specs.Dynamic.{Dynamic}
use Rattle.pb_value.specs.WellFormed.{IsWellFormed}
use Rattle.pb_value.proofs.RoundTrip.{canonical_text, only_text}
use Rattle.pb_decode.specs.Onto.{TextOnto}
use Rattle.pb_encode.specs.Encoding.{bytes_of}
use Rattle.pb_c_message.specs.Plain.{bit}
use Rattle.pb_c.specs.Message.Pairs.{IsFaultOn, Marks}
use Rattle.pb_c_answers.proofs.Making.{the_message}

-- what is decoded from the canonical bytes of a message is that message
pub same_message :
    (d m : Dynamic) (b : List ℕ) → IsPool m.pool → IsWellFormed m.pool m.kind m.body → b ≡ bytes_of m → length (bytes_of m) < 2 ^ 31
    → d.pool ≡ m.pool → d.kind ≡ m.kind → Text m.pool m.kind full b d.body → d ≡ m
same_message d m b rules well same small of_pool of_kind text =
    the_message d m.pool m.kind m.body of_pool of_kind
    (only_text m.pool m.kind m.body d.body rules well small (subst (λ (l : List ℕ). Text m.pool m.kind full l d.body) same text))

-- messages of one type that have the same canonical bytes are equal
one_body :
    (pool : Types) (m : ℕ) (v w : Message) → IsPool pool → IsWellFormed pool m v → IsWellFormed pool m w → length (canon_bytes pool m v) < 2 ^ 31
    → canon_bytes pool m v ≡ canon_bytes pool m w → v ≡ w
one_body pool m v w rules well others small same =
    sym (only_text pool m v w rules well small
    (subst (λ (l : List ℕ). Text pool m full l w) (sym same) (canonical_text pool m w rules others (subst (λ (l : List ℕ). length l < 2 ^ 31) same small))))

module _ (m n : Dynamic) (rules : IsPool m.pool) (well : IsWellFormed m.pool m.kind m.body) (others : IsWellFormed n.pool n.kind n.body)
    (kinds : m.kind ≡ n.kind) (pools : m.pool ≡ n.pool) where
  equal_by_bytes : length (bytes_of m) < 2 ^ 31 → bytes_of m ≡ bytes_of n → m ≡ n
  equal_by_bytes small same =
      let here : IsWellFormed m.pool m.kind n.body = rw (kinds, pools) others in
      let turned : canon_bytes m.pool m.kind n.body ≡ bytes_of n = rw (kinds, pools) refl in
      let bytes : canon_bytes m.pool m.kind m.body ≡ canon_bytes m.pool m.kind n.body = same ∙ sym turned in
      sym (the_message n m.pool m.kind m.body (sym pools) (sym kinds) (sym (one_body m.pool m.kind m.body n.body rules well here small bytes)))

  -- so the bytes decide it
  pub decided_by_bytes :
      (r : Result Bool ℕ) → IfOk r (λ e. Decides e (bytes_of m ≡ bytes_of n)) → IfOk r (λ e. e ≡ true → length (bytes_of m) < 2 ^ 31)
      → IfOk r (λ e. Decides e (m ≡ n))
  decided_by_bytes (Ok e) decides small = (λ yes. equal_by_bytes (small yes) (decides.0 yes), λ same. decides.1 (ap bytes_of same))
  decided_by_bytes (Err a) decides small = tt

-- what decides is marked
pub marked : (e : Bool) (n : ℕ) (P : Type 0) → n ≡ bit e → Decides e P → Marks n P
marked true n P is decides = inl (is, decides.0 refl)
marked false n P is decides = inr (is, λ so. let no = decides.1 so in absurd cc)

abbrev or_else : {A : Type 0} → A → Option A → A
or_else a None = a
or_else a (Some b) = b

-- of what two handles hold, where they hold messages
pub marked_held : (n : ℕ) (a b : Dynamic) (o p : Option Dynamic) → Some a ≡ o → Some b ≡ p → Marks n (a ≡ b) → Marks n (o ≡ p)
marked_held n a b o p holds other (inl (is, same)) = inl (is, sym holds ∙ ap (λ d. Some d) same ∙ other)
marked_held n a b o p holds other (inr (is, differ)) = inr (is, λ same. differ (ap (or_else a) (holds ∙ same ∙ sym other)))

pub some_same : (a b : Dynamic) → Some a ≡ Some b → a ≡ b
some_same a b same = ap (or_else a) same

-- an answer of a copy is one of the message
weaker : {A E : Type 0} (r : Result A E) (P : A → Type 0) (Q R : E → Type 0) → ((e : E) → Q e → R e) → MatchResult r P Q → MatchResult r P R
weaker (Ok a) P Q R so is = is
weaker (Err e) P Q R so is = so e is

err_weaker : {A E : Type 0} (r : Result A E) (Q R : E → Type 0) → ((e : E) → Q e → R e) → IsErrAnd r Q → IsErrAnd r R
err_weaker (Ok a) Q R so is = is
err_weaker (Err e) Q R so is = so e is

module _ (d m : Dynamic) (limits : Bounds) (b : List ℕ) (r : Result Dynamic ℕ) (same : d ≡ m) where
  pub accepted_onto :
      ((w : Message) → TextOnto d limits b w → MatchResult r (λ n. n ≡ record d { body = w }) (λ a. a ≡ 14))
      → (w : Message) → TextOnto m limits b w → MatchResult r (λ n. n ≡ record m { body = w }) (λ a. (a ≡ 31) ⊎ (a ≡ 14))
  accepted_onto accepted =
      subst (λ x. (w : Message) → TextOnto x limits b w → MatchResult r (λ n. n ≡ record x { body = w }) (λ a. (a ≡ 31) ⊎ (a ≡ 14))) same
      (λ w text. weaker r (λ n. n ≡ record d { body = w }) (λ a. a ≡ 14) (λ a. (a ≡ 31) ⊎ (a ≡ 14)) (λ a is. inr is) (accepted w text))

  pub refused_onto :
      (Told : Fault → ℕ → Type 0) → ((f : Fault) → IsFaultOn limits b d f → IsErrAnd r (λ a. Told f a ⊎ (a ≡ 14)))
      → (f : Fault) → IsFaultOn limits b m f → IsErrAnd r (λ a. Told f a ⊎ (a ≡ 31) ⊎ (a ≡ 14))
  refused_onto Told refused =
      subst (λ x. (f : Fault) → IsFaultOn limits b x f → IsErrAnd r (λ a. Told f a ⊎ (a ≡ 31) ⊎ (a ≡ 14))) same
      (λ f bad. err_weaker r (λ a. Told f a ⊎ (a ≡ 14)) (λ a. Told f a ⊎ (a ≡ 31) ⊎ (a ≡ 14))
      (λ a is. elim is [
        | inl told ↦ inl told
        | inr memory ↦ inr (inr memory)
      ]) (refused f bad))
