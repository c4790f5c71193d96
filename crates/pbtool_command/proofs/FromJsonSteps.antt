-- What `from-json` comes to, from what its steps leave.
use Rattle.std.proofs.Common.{◌≡◌, ◌⊎◌, ◌+◌, ◌<◌, ◌≤◌, ℕ, List, Bool, true, Option, None, Some, length, take, inl, inr, refl, subst, sym}
use Rattle.std.specs.Prelude.{option_map}
use Rattle.pb_wire.specs.Limits.{full}
use Rattle.pb_schema.specs.Types.{Types}
use Rattle.pb_value.specs.Dynamic.{Dynamic}
use Rattle.pb_encode.specs.Encoding.{bytes_of}
use Rattle.pb_json.specs.Given.{NamesGiven}
use Rattle.pb_json_names.specs.Names.{AreNamesOf}
use Rattle.pb_json_read.specs.Answers.{IsReadBy, IsRefusedBy}
use Rattle.pb_json_read.specs.Faults.{name_of}
use Rattle.pb_json_read.specs.declared.error.JsonReadError.{JsonReadError}
use Rattle.pb_json_read.specs.declared.rules.JsonRules.{JsonRules}
use Rattle.pbtool_files.specs.Answer.{Answer, device_failed, refused, saves}
use Rattle.pbtool_files.specs.FileMap.{FileMap, KeepsMap}
use Rattle.pbtool_files.specs.Known.{IsReadOf}
use Rattle.pbtool_files.specs.Report.{json_text_line}
use Rattle.pbtool_files.specs.SetFile.{HasType}
use Rattle.pbtool_command.specs.FromJsonAnswer.{FromJsonAnswer, faulty, read, too_long, too_long_line}
use Rattle.pbtool_command.specs.MessageAnswer.{CanonAnswer}
use Rattle.pbtool_command.specs.Steps.{JsonReadAt, JsonReadOf}
use Rattle.pbtool_command.specs.TypeAnswer.{missing, opened}
use Rattle.pbtool_command.specs.declared.command.Source.{Source}
use Rattle.pbtool_files.proofs.KnownLemmas.{of_later}
use Rattle.pbtool_command.proofs.Judged.{front_long, front_whole, none_whole}

-- the same of what more is known of the bytes
pub json_map :
    (I J : List ℕ → Type 0) (r : JsonRules) (names : NamesGiven) (out : List ℕ) (pool : Types) (m : ℕ) (a : Answer) → ((b : List ℕ) → I b → J b)
    → FromJsonAnswer I r names out pool m a → FromJsonAnswer J r names out pool m a
json_map I J r names out pool m a more (too_long {b} is long e) = too_long (more b is) long e
json_map I J r names out pool m a more (faulty {b} x is short why e) = faulty x (more b is) short why e
json_map I J r names out pool m a more (read {b} v is short reads e) = read v (more b is) short reads e

pub json_any :
    (I : List ℕ → Type 0) (r : JsonRules) (names : NamesGiven) (out : List ℕ) (pool : Types) (m : ℕ) (a : Answer) → FromJsonAnswer I r names out pool m a
    → FromJsonAnswer (λ b. Unit {0}) r names out pool m a
json_any I r names out pool m a h = json_map I (λ b. Unit {0}) r names out pool m a (λ b is. tt) h

-- the bytes within the limit are all of a file
all_of : (o : Option (List ℕ)) (b : List ℕ) → Some b ≡ option_map (take (full.bytes + 1)) o → length b ≤ full.bytes → Some b ≡ o
all_of None b is short = absurd (cc)
all_of (Some c) b is short =
    let front : b ≡ take (full.bytes + 1) c = cc in
    let whole : take (full.bytes + 1) c ≡ c = front_whole full.bytes c (subst (λ (x : List ℕ). length x ≤ full.bytes) front short) in
    let same : b ≡ c = cc in
    cc

-- where they are more, so is the file
longer_of :
    (o : Option (List ℕ)) (b : List ℕ) → Some b ≡ option_map (take (full.bytes + 1)) o → full.bytes < length b
    → (c : List ℕ) × (Some c ≡ o) × (full.bytes < length c)
longer_of None b is long = absurd (cc)
longer_of (Some c) b is long =
    let front : b ≡ take (full.bytes + 1) c = cc in
    (c, refl, front_long full.bytes c (subst (λ (x : List ℕ). full.bytes < length x) front long))

-- the answer over the first bytes, one more than the limit, is the answer over all of them
pub json_whole :
    {I : List ℕ → Type 0} (r : JsonRules) (names : NamesGiven) (out : List ℕ) (pool : Types) (m : ℕ) (o : Option (List ℕ)) (a : Answer)
    → ((b : List ℕ) → I b → Some b ≡ option_map (take (full.bytes + 1)) o) → FromJsonAnswer I r names out pool m a
    → FromJsonAnswer (λ b. Some b ≡ o) r names out pool m a
json_whole r names out pool m o a known (too_long {b} is long e) = let c = longer_of o b (known b is) long in too_long c.1 c.2 e
json_whole r names out pool m o a known (faulty {b} x is short why e) = faulty x (all_of o b (known b is) short) short why e
json_whole r names out pool m o a known (read {b} v is short reads e) = read v (all_of o b (known b is) short) short reads e

-- from the message to the file that holds its text
module _
    {F : Type 0} (contents : F → Option FileMap) (is_steady : F → Bool) (old : F) (r : JsonRules) (names : NamesGiven) (out : List ℕ) (pool : Types) (m : ℕ) (path : List ℕ) where
  -- the file is not there
  pub no_text : (a : Answer) → IsReadOf contents is_steady old (full.bytes + 1) path None × (a ≡ device_failed path) → JsonReadAt contents is_steady old r names out pool m path a
  no_text a (nothing, e) = inl ((λ map honest. none_whole (full.bytes + 1) (map path) (sym (nothing map honest))), e)

  module _ (b : List ℕ) (is : IsReadOf contents is_steady old (full.bytes + 1) path (Some b)) where
    -- its text is refused
    pub text_refused :
        (a : Answer)
        → ((full.bytes < length b) × (a ≡ refused too_long_line))
        ⊎ ((e : JsonReadError) × (length b ≤ full.bytes) × IsRefusedBy pool r names m b e × (a ≡ refused (json_text_line e.byte (name_of e.cause))))
        → JsonReadAt contents is_steady old r names out pool m path a
    text_refused a (inl h) = inr (too_long is h.0 h.1)
    text_refused a (inr h) = inr (faulty h.0 is h.1 h.2 h.3)

    -- its message is written
    pub text_read :
        (d : Dynamic) (a : Answer) → d.pool ≡ pool → d.kind ≡ m → length b ≤ full.bytes → IsReadBy pool r names m b d.body
        → CanonAnswer (bytes_of d) (saves out (bytes_of d)) a → JsonReadAt contents is_steady old r names out pool m path a
    text_read d a of_pool of_kind short reads made =
        inr
        (read d.body is short reads
        (subst (λ (k : ℕ). CanonAnswer (bytes_of (record { pool = pool; kind = k; body = d.body })) (saves out (bytes_of (record { pool = pool; kind = k; body = d.body }))) a) of_kind
        (subst (λ (p : Types). CanonAnswer (bytes_of (record { pool = p; kind = d.kind; body = d.body })) (saves out (bytes_of (record { pool = p; kind = d.kind; body = d.body }))) a) of_pool made)))

-- from the file to the set that has its type
module _
    {F : Type 0} (contents : F → Option FileMap) (is_steady : F → Bool) (old mid : F) (rules : JsonRules) (out : List ℕ) (s : Source) (set : List ℕ) (pool : Types) (m : ℕ)
    (names : NamesGiven) (are : AreNamesOf pool set names)
    (is_read : IsReadOf contents is_steady old (full.bytes + 1) s.set.now (Some set)) (has : HasType s.reading s.type_name.now set pool m)
    (kept : KeepsMap (contents old) (contents mid)) (steady : is_steady old ≡ true → is_steady mid ≡ true) where
  -- what was read of the file later is what was there before
  read_later : (limit : ℕ) (path b : List ℕ) → IsReadOf contents is_steady mid limit path (Some b) → IsReadOf contents is_steady old limit path (Some b)
  read_later limit path b known =
      of_later {contents = contents} {is_steady = is_steady} {old = old} {mid = mid} path (λ content. Some b ≡ option_map (take limit) content) kept steady known

  pub json_of_set : (a : Answer) → JsonReadAt contents is_steady mid rules names out pool m s.file.now a → JsonReadOf contents is_steady old rules out s a
  json_of_set a (inl h) = missing is_read has (of_later s.file.now (λ content. content ≡ None) kept steady h.0) h.1
  json_of_set a (inr h) =
      opened is_read has (
        names,
        (set, is_read, has, are),
        json_map (λ b. IsReadOf contents is_steady mid (full.bytes + 1) s.file.now (Some b))
            (λ b. IsReadOf contents is_steady old (full.bytes + 1) s.file.now (Some b)) rules names out pool m a
            (λ b known. read_later (full.bytes + 1) s.file.now b known) h,
      )
