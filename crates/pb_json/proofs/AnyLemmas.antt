-- What an Any holds, and whether a pool declares it.
use Rattle.std.proofs.Common.{◌≡◌, ℕ, zero, suc, ◌+◌, List, [], ◌∷◌, Option, None, Some, Bor, Result, Ok, Err, IfOk, IfErr, IfSome, refl, sym, ap, ◌∙◌, subst, inl, inr, ◌⊎◌}
use Rattle.std.specs.Prelude.{Bool, true, false, is_some, option_map, option_and_then, All, codes, cond, if◌then◌else◌}
use Rattle.std.specs.Str.{bytes_eq}
use Rattle.std.specs.List.{AllByRecursion, list_all, position_from}
use Rattle.std.proofs.lemmas.Bool.{and_from, lt-ltb}
use Rattle.std.proofs.lemmas.Iterator.Adapters.{position_from-zero}
use Rattle.std.proofs.lemmas.List.Elements.{recursion_from_All}
use Rattle.std.proofs.lemmas.Slice.Eq.{bytes_eq-Decides}
use Rattle.std.specs.declared.alloc.AllocError.{AllocError}
use Rattle.pb_wire.specs.Exact.{Exactly}
use Rattle.pb_wire.specs.Fault.{Fault}
use Rattle.pb_wire.specs.Grammar.{HasFault}
use Rattle.pb_wire.specs.Limits.{full}
use Rattle.pb_wire.specs.Ranges.{IsByte}
use Rattle.pb_schema.specs.Types.{Types}
use Rattle.pb_schema.specs.Context.{a_message, schema_of}
use Rattle.pb_schema.specs.Names.{message_names, name_at}
use Rattle.pb_schema.specs.Tables.{place_of}
use Rattle.pb_value.specs.Data.{Message}
use Rattle.pb_value.specs.Derives.{Text}
use Rattle.pb_value.specs.Dynamic.{Dynamic}
use Rattle.pb_decode.specs.Push.{IsFaultOf}
use Rattle.pb_decode.specs.Reader.{IfFault}
use Rattle.pb_decode.specs.declared.error.DecodeError.{DecodeError}
use Rattle.pb_decode.specs.declared.error.DecodeError.TheVariants as error
use Rattle.pb_decode.proofs.DecodeLemmas.{exactly_value, same_value}
use Rattle.pb_json.specs.declared.well_known.WellKnown.TheVariants as form
use Rattle.std.specs.Path.{rsplit_once}
use Rattle.pb_json.specs.Opening.{Opens}
use Rattle.pb_json.specs.Anys.{type_meant, typed}
use Rattle.pb_json.specs.Encoded.{bytes_are, encoded_if, is_byte, message_encoded, value_or_none}
use Rattle.pb_json.specs.WellKnown.{declares_any, is_wrapper_name, well_known, well_known_named}

-- BYTES

module _ (pool : Types) (m : ℕ) (b : List ℕ) where
  abbrev Good : Type 0
  Good = (v : Message) × Text pool m full b v

  abbrev Bad : Fault → Type 0
  Bad = HasFault (schema_of pool) (a_message m) full b

  value_is : (either : Good ⊎ ((f : Fault) × Bad f)) → Exactly Good Bad → (v : Message) → Text pool m full b v → value_or_none either ≡ Some v
  value_is (inl t) law v text = ap (λ (w : Message). Some w) (same_value t.0 v t.1 text)
  value_is (inr wrong) law v text = absurd (law.not_both wrong.0 wrong.1 (v, text))

  none_is : (either : Good ⊎ ((f : Fault) × Bad f)) → Exactly Good Bad → (f : Fault) → Bad f → value_or_none either ≡ None
  none_is (inl t) law f wrong = absurd (law.not_both f wrong t)
  none_is (inr other) law f wrong = refl

all_bytes : (b : List ℕ) → AllByRecursion IsByte b → list_all is_byte b ≡ true
all_bytes [] h = refl
all_bytes (x ∷ b) h = and_from _ _ (lt-ltb x 256 h.0) (all_bytes b h.1)

module _ (pool : Types) (m : ℕ) (b : List ℕ) (bytes : All IsByte b) where
  encoded_at : (all : Bool) (e : list_all is_byte b ≡ all) (v : Message) → Text pool m full b v → encoded_if pool m b all e ≡ Some v
  encoded_at true e v text = value_is pool m b (exactly_value pool m full b (bytes_are b e)).either (exactly_value pool m full b (bytes_are b e)) v text
  encoded_at false e v text = let all = all_bytes b (recursion_from_All IsByte b bytes) in cc

  unencoded_at : (all : Bool) (e : list_all is_byte b ≡ all) (f : Fault) → HasFault (schema_of pool) (a_message m) full b f → encoded_if pool m b all e ≡ None
  unencoded_at true e f wrong = none_is pool m b (exactly_value pool m full b (bytes_are b e)).either (exactly_value pool m full b (bytes_are b e)) f wrong
  unencoded_at false e f wrong = refl

  -- the value that bytes encode
  pub encoded-is : (v : Message) → Text pool m full b v → message_encoded pool m b ≡ Some v
  unfolding message_encoded
  encoded-is v text = encoded_at (list_all is_byte b) refl v text

  -- bytes with a fault encode none
  pub encoded-none : (f : Fault) → HasFault (schema_of pool) (a_message m) full b f → message_encoded pool m b ≡ None
  unfolding message_encoded
  encoded-none f wrong = unencoded_at (list_all is_byte b) refl f wrong

  -- the type and the message, where the bytes are decoded
  pub opened_is : (k : ℕ) (v : Message) → k ≡ m → Text pool m full b v → Some (k, v) ≡ typed pool b m
  opened_is k v e text = ap (λ (n : ℕ). Some (n, v)) e ∙ ap (λ (o : Option Message). option_map (λ w. (m, w)) o) (sym (encoded-is v text))

  pub opened_none : (f : Fault) → HasFault (schema_of pool) (a_message m) full b f → None ≡ typed pool b m
  opened_none f wrong = ap (λ (o : Option Message). option_map (λ w. (m, w)) o) (sym (encoded-none f wrong))

  -- what is opened, by what decoding answers
  pub opened_of : (d : Result Dynamic DecodeError) (r : Result (Option Dynamic) AllocError) → IfOk d (λ v. (v.pool ≡ pool) × (v.kind ≡ m))
      → IfOk d (λ v. Text pool m full b v.body) → IfErr d (λ e. IfFault e (IsFaultOf pool m full b)) → Opens d r
      → IfOk r (λ o. option_map (λ v. (v.kind, v.body)) o ≡ typed pool b m)
  opened_of (Ok v) r of text wrong e = subst (λ (x : Result (Option Dynamic) AllocError). IfOk x (λ o. option_map (λ w. (w.kind, w.body)) o ≡ typed pool b m)) (sym e) (opened_is v.kind v.body of.1 text)
  opened_of (Err (error.Fault byte path cause)) r of text wrong e =
      subst (λ (x : Result (Option Dynamic) AllocError). IfOk x (λ o. option_map (λ w. (w.kind, w.body)) o ≡ typed pool b m)) (sym e) (opened_none _ wrong)
  opened_of (Err error.Memory) r of text wrong (x, e) = rw e tt
  opened_of (Err error.Device) r of text wrong (x, e) = rw e tt
  opened_of (Err error.Finished) r of text wrong (x, e) = rw e tt

  pub opened_pool : (d : Result Dynamic DecodeError) (r : Result (Option Dynamic) AllocError) → IfOk d (λ v. (v.pool ≡ pool) × (v.kind ≡ m)) → Opens d r
      → IfOk r (λ o. IfSome o (λ v. v.pool ≡ pool))
  opened_pool (Ok v) r of e = rw e (of.0)
  opened_pool (Err (error.Fault byte path cause)) r of e = rw e tt
  opened_pool (Err error.Memory) r of (x, e) = rw e tt
  opened_pool (Err error.Device) r of (x, e) = rw e tt
  opened_pool (Err error.Finished) r of (x, e) = rw e tt

-- THE NAME OF A TYPE

module _ (pool : Types) (url : List ℕ) (r : Option (Bor (List ℕ) × Bor (List ℕ))) (split : option_map (λ x. (x.0.now, x.1.now)) r ≡ rsplit_once 47 url) where
  abbrev meant_by : Option (List ℕ × List ℕ) → Option ℕ
  meant_by o = option_and_then (λ parts. place_of parts.1 (message_names pool)) o

  pub type_named : (host name : Bor (List ℕ)) → r ≡ Some (host, name) → place_of name.now (message_names pool) ≡ type_meant pool url
  type_named host name is =
      ap (λ (o : Option (Bor (List ℕ) × Bor (List ℕ))). meant_by (option_map (λ x. (x.0.now, x.1.now)) o)) (sym is) ∙ ap meant_by split

  pub type_unnamed : r ≡ None → None ≡ type_meant pool url
  type_unnamed is =
      ap (λ (o : Option (Bor (List ℕ) × Bor (List ℕ))). meant_by (option_map (λ x. (x.0.now, x.1.now)) o)) (sym is) ∙ ap meant_by split

-- A POOL THAT DECLARES IT

abbrev any_name : List ℕ
any_name = codes "google.protobuf.Any"

last_of_nine : (w s l v t d f a : Bool)
    → (if w then form.Wrapper else if s then form.Struct else if l then form.ListValue else if v then form.Value else if t then form.Timestamp
    else if d then form.Duration else if f then form.FieldMask else if a then form.Any else form.Other) ≡ form.Any → a ≡ true
last_of_nine true s l v t d f a e = cc
last_of_nine false true l v t d f a e = cc
last_of_nine false false true v t d f a e = cc
last_of_nine false false false true t d f a e = cc
last_of_nine false false false false true d f a e = cc
last_of_nine false false false false false true f a e = cc
last_of_nine false false false false false false true a e = cc
last_of_nine false false false false false false false true e = refl
last_of_nine false false false false false false false false e = cc

-- it is the type of no other name
named_any : (name : List ℕ) → well_known_named name ≡ form.Any → bytes_eq any_name name ≡ true
named_any name e =
    let same = last_of_nine (is_wrapper_name name) (bytes_eq name (codes "google.protobuf.Struct")) (bytes_eq name (codes "google.protobuf.ListValue"))
    (bytes_eq name (codes "google.protobuf.Value")) (bytes_eq name (codes "google.protobuf.Timestamp")) (bytes_eq name (codes "google.protobuf.Duration"))
    (bytes_eq name (codes "google.protobuf.FieldMask")) (bytes_eq name any_name) e in
    (bytes_eq-Decides any_name name).1 (sym ((bytes_eq-Decides name any_name).0 same))

here_or_later : (here : Bool) (n : ℕ) (o : Option ℕ) → (here ≡ true) ⊎ (is_some o ≡ true) → is_some (cond here (Some n) o) ≡ true
here_or_later true n o h = refl
here_or_later false n o (inl h) = cc
here_or_later false n o (inr h) = h

found_from : (n : ℕ) (names : List (List ℕ)) (i : ℕ) → well_known_named (name_at names i) ≡ form.Any → is_some (position_from (bytes_eq any_name) n names) ≡ true
found_from n [] i e = cc
found_from n (x ∷ names) zero e = here_or_later (bytes_eq any_name x) n (position_from (bytes_eq any_name) (n + 1) names) (inl (named_any x e))
found_from n (x ∷ names) (suc i) e = here_or_later (bytes_eq any_name x) n (position_from (bytes_eq any_name) (n + 1) names) (inr (found_from (n + 1) names i e))

-- a pool that has a type of this form declares it
pub any_declared : (pool : Types) (m : ℕ) → well_known pool m ≡ form.Any → declares_any pool ≡ true
any_declared pool m e =
    ap (λ (o : Option ℕ). is_some o) (position_from-zero (bytes_eq any_name) (message_names pool)) ∙ found_from 0 (message_names pool) m e
