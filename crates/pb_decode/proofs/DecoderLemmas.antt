-- What a push decoder that goes on has taken.
use Rattle.std.proofs.Common.{◌≡◌, ℕ, ◌+◌, ◌*◌, ◌≤◌, suc, List, map, reverse, length, vec_len, max, Option, Some, None, option_map, refl, sym, ap, subst, arith}
use Rattle.std.proofs.lemmas.List.{length-map, length-reverse}
use Rattle.std.specs.Prelude.{Result, Ok, Err, IfOk, IfSome, IsSomeAnd}
use Rattle.std.proofs.lemmas.Simd.{map-map}
use Rattle.pb_wire.specs.Limits.{Bounds}
use Rattle.pb_wire.specs.Schema.{Schema}
use Rattle.pb_schema.specs.Types.{Types}
use Rattle.pb_schema.specs.Rules.{IsPool}
use Rattle.pb_schema.specs.Context.{a_message, schema_of}
use Rattle.pb_value.specs.Dynamic.{Dynamic}
use Rattle.pb_decode.specs.declared.error.DecodeError.{DecodeError}
use Rattle.pb_decode.specs.declared.push.Reading.{Reading}
use Rattle.pb_decode_parts.specs.Open.Parents.{Parent}
use Rattle.pb_decode.specs.Reader.{State, state_view}
use Rattle.pb_decode.specs.Push.{Took, TookSome}
use Rattle.pb_decode.specs.Reader.Waiting.{Waits, lists_in}
use Rattle.pb_decode.specs.Pending.{EndsInside, IsPending, HasOpen, IsDeclared}
use Rattle.pb_decode_parts.specs.Open.PartView.{parent_view}
use Rattle.pb_decode.specs.Decoder as decoder
use Rattle.pb_decode.specs.Parts.{IsOfPool}
use Rattle.pb_decode.specs.ReadingView.{open_parent, reading_view, IsSound}
use Rattle.pb_decode.proofs.OneEnd.{one_ending}
use Rattle.pb_decode.proofs.PendingLemmas.{ends_inside, few_held, few_open, declared_in}

-- the state that contracts see is that of the reader
pub same_state : (r : Reading) → decoder.state_of (reading_view r) ≡ state_view r.reader
same_state r =
    ap (λ (z : List Parent). let s : State = record { at = r.reader.at; now = (state_view r.reader).now; scope = (state_view r.reader).scope; parents = reverse z; next = r.reader.step } in s)
    (map-map decoder.parent_of open_parent r.reader.parents.items)

pub took_by :
    (pool : Types) (m : ℕ) (limits : Bounds) (b : List ℕ) (o : Option Reading) (r : Reading) → Some r ≡ o → IsSomeAnd (option_map reading_view o) (λ x. Took pool m limits b (decoder.state_of x) x.held)
    → Took pool m limits b (state_view r.reader) r.held.items
took_by pool m limits b o r is h =
    subst (λ (z : State). Took pool m limits b z r.held.items) (same_state r)
    (subst (λ (z : Option Reading). IsSomeAnd (option_map reading_view z) (λ x. Took pool m limits b (decoder.state_of x) x.held)) (sym is) h)

pub after_by : (pool : Types) (m : ℕ) (limits : Bounds) (b : List ℕ) (r : Reading) → Took pool m limits b (state_view r.reader) r.held.items → Took pool m limits b (decoder.state_of (reading_view r)) r.held.items
after_by pool m limits b r h = subst (λ (z : State). Took pool m limits b z r.held.items) (sym (same_state r)) h

pub some_by : (pool : Types) (m : ℕ) (limits : Bounds) (o : Option Reading) (r : Reading) → Some r ≡ o → IfSome o (λ x. TookSome pool m limits (state_view x.reader) x.held.items) → TookSome pool m limits (state_view r.reader) r.held.items
some_by pool m limits o r is h = subst (λ (z : Option Reading). IfSome z (λ x. TookSome pool m limits (state_view x.reader) x.held.items)) (sym is) h

pub both_ok :
    (r : Result Dynamic DecodeError) (pool : Types) (kind : ℕ) (P : Dynamic → Type 0) → IfOk r (λ m. (m.pool ≡ pool) × (m.kind ≡ kind)) → IfOk r P
    → IfOk r (λ m. (m.pool ≡ pool) × (m.kind ≡ kind) × P m)
both_ok (Ok m) pool kind P type value = (type.0, type.1, value)
both_ok (Err e) pool kind P type value = tt

pub waits_by : (o : Option Reading) (r : Reading) → Some r ≡ o → IfSome o (λ x. Waits (state_view x.reader) x.held.items) → Waits (state_view r.reader) r.held.items
waits_by o r is h = subst (λ (z : Option Reading). IfSome z (λ x. Waits (state_view x.reader) x.held.items)) (sym is) h

-- THE PARTS OF A DECODER
pub parts_of_pool : (pool : Types) (m : ℕ) (limits : Bounds) (o : Option Reading) → IsSound pool m limits o → IsOfPool pool (record { message_type = m; limits = limits; reading = option_map reading_view o })
parts_of_pool pool m limits None sound = record { within = sound.within; took = tt; waits = tt }
parts_of_pool pool m limits (Some r) sound = record {
  within = sound.within;
  took = subst (λ (z : State). TookSome pool m limits z r.held.items) (sym (same_state r)) sound.took;
  waits = subst (λ (z : State). Waits z r.held.items) (sym (same_state r)) sound.waits;
}

pub sound_parts : (pool : Types) (m : ℕ) (limits : Bounds) (o : Option Reading) → IsPool pool → IsOfPool pool (record { message_type = m; limits = limits; reading = option_map reading_view o }) → IsSound pool m limits o
sound_parts pool m limits None rules of_pool = record { rules = rules; within = of_pool.within; took = tt; waits = tt }
sound_parts pool m limits (Some r) rules of_pool = record {
  rules = rules;
  within = of_pool.within;
  took = subst (λ (z : State). TookSome pool m limits z r.held.items) (same_state r) of_pool.took;
  waits = subst (λ (z : State). Waits z r.held.items) (same_state r) of_pool.waits;
}

-- HOW MUCH IS HELD AND OPEN
-- of any bytes at most one length is declared
pub one_declared :
    {S : Schema} {x : S.Context} {depth : ℕ} {b : List ℕ} {n k : ℕ} → IsDeclared S x depth b n → IsDeclared S x depth b k → n ≡ k
one_declared h g = (one_ending h.2 g.2).2

parents_size : (r : Reading) → length (state_view r.reader).parents ≡ vec_len r.reader.parents
parents_size r =
    let turned = length-reverse (map parent_view r.reader.parents.items) in
    let seen = length-map r.reader.parents.items parent_view in
    let size = r.reader.parents.ok in
    omega (arith, turned, seen, size)

module _ {pool : Types} {m : ℕ} {limits : Bounds} (o : Option Reading) (r : Reading) (sound : IsSound pool m limits o) (is : Some r ≡ o) where
  ends_of : (b : List ℕ) (n k : ℕ) → n ≡ length r.held.items → k ≡ vec_len r.reader.parents + lists_in r.reader.step + 1 → Took pool m limits b (state_view r.reader) r.held.items
      → EndsInside (schema_of pool) (a_message m) limits.depth b n k (declared_in r.reader.step)
  ends_of b n k held_is open_is took =
      let size = parents_size r in
      let same : suc (length (state_view r.reader).parents) + lists_in r.reader.step ≡ k = omega (arith, size, open_is) in
      subst (λ (z : ℕ). EndsInside (schema_of pool) (a_message m) limits.depth b z k (declared_in r.reader.step)) (sym held_is)
      (subst (λ (z : ℕ). EndsInside (schema_of pool) (a_message m) limits.depth b (length r.held.items) z (declared_in r.reader.step)) same
      (ends_inside b (state_view r.reader) r.held.items sound.rules took (waits_by o r is sound.waits)))

  pub pending_is : (b : List ℕ) (n : ℕ) → n ≡ length r.held.items → IsSomeAnd (option_map reading_view o) (λ x. Took pool m limits b (decoder.state_of x) x.held)
      → IsPending (schema_of pool) (a_message m) limits.depth b n
  pending_is b n held_is after =
      (vec_len r.reader.parents + lists_in r.reader.step + 1, declared_in r.reader.step, ends_of b n (vec_len r.reader.parents + lists_in r.reader.step + 1) held_is refl (took_by pool m limits b o r is after))

  pub pending_one : (b : List ℕ) (n : ℕ) → n ≡ length r.held.items → (k : ℕ) → IsSomeAnd (option_map reading_view o) (λ x. Took pool m limits b (decoder.state_of x) x.held)
      → IsPending (schema_of pool) (a_message m) limits.depth b k → k ≡ n
  pending_one b n held_is k after pending = (one_ending pending.2 (ends_of b n (vec_len r.reader.parents + lists_in r.reader.step + 1) held_is refl (took_by pool m limits b o r is after))).0

  pub pending_few : (b : List ℕ) (n : ℕ) → n ≡ length r.held.items → IsSomeAnd (option_map reading_view o) (λ x. Took pool m limits b (decoder.state_of x) x.held)
      → (d : ℕ) × IsDeclared (schema_of pool) (a_message m) limits.depth b d × (n ≤ max 10 d)
  pending_few b n held_is after =
      let took = took_by pool m limits b o r is after in
      let few = few_held b (state_view r.reader) r.held.items took (waits_by o r is sound.waits) in (
        declared_in r.reader.step,
        (n, vec_len r.reader.parents + lists_in r.reader.step + 1, ends_of b n (vec_len r.reader.parents + lists_in r.reader.step + 1) held_is refl took),
        omega (arith, few, held_is),
      )

  pub open_is : (b : List ℕ) (k : ℕ) → k ≡ vec_len r.reader.parents + lists_in r.reader.step + 1 → IsSomeAnd (option_map reading_view o) (λ x. Took pool m limits b (decoder.state_of x) x.held)
      → HasOpen (schema_of pool) (a_message m) limits.depth b k
  open_is b k is_count after = (length r.held.items, declared_in r.reader.step, ends_of b (length r.held.items) k refl is_count (took_by pool m limits b o r is after))

  pub open_one : (b : List ℕ) (k : ℕ) → k ≡ vec_len r.reader.parents + lists_in r.reader.step + 1 → (j : ℕ) → IsSomeAnd (option_map reading_view o) (λ x. Took pool m limits b (decoder.state_of x) x.held)
      → HasOpen (schema_of pool) (a_message m) limits.depth b j → j ≡ k
  open_one b k is_count j after there = (one_ending there.2 (ends_of b (length r.held.items) k refl is_count (took_by pool m limits b o r is after))).1

  pub open_few : (k : ℕ) → k ≡ vec_len r.reader.parents + lists_in r.reader.step + 1 → k ≤ 2 * limits.depth + 2
  open_few k is_count =
      let some = some_by pool m limits o r is sound.took in
      let few = few_open some.text (state_view r.reader) r.held.items some.took in
      let size = parents_size r in
      omega (arith, few, size, is_count)
