-- A reader that goes on over the bytes of an input, piece by piece.
use Rattle.std.proofs.Common.{◌≡◌, ℕ, ◌+◌, ◌≤◌, List, [], ◌++◌, take, length, refl, sym, ap, ◌∙◌, subst, arith, append-nil, append_assoc, length-append, Option, Some, None}
use Rattle.std.proofs.lemmas.List.{take_at}
use Rattle.std.specs.Prelude.{Result, Ok, Err, IfErr, IfSome}
use Rattle.std.specs.Io.KnownBytes.{Consumes, IsAtEnd}
use Rattle.std.proofs.KnownBytes.{Consumes-nil, Consumes-trans, Consumes-whole}
use Rattle.pb_wire.specs.Record.{Record}
use Rattle.pb_wire.specs.Limits.{Bounds}
use Rattle.pb_wire.specs.declared.fault.Cause.TheVariants.{InputTooLarge}
use Rattle.pb_wire.specs.Fault.{Fault, fault}
use Rattle.pb_wire.specs.Grammar.{HasFault}
use Rattle.pb_wire.proofs.Longer.{text_bad}
use Rattle.pb_schema.specs.Context.{a_message, schema_of}
use Rattle.pb_schema.specs.Types.{Types}
use Rattle.pb_value.specs.Data.{Message}
use Rattle.pb_value.specs.Derives.{Text}
use Rattle.pb_decode.specs.declared.error.DecodeError.{DecodeError}
use Rattle.pb_decode.specs.declared.error.DecodeError.TheVariants as error
use Rattle.pb_decode.specs.declared.push.Reading.{Reading}
use Rattle.pb_decode.specs.Reader.{state_view, IfFault}
use Rattle.pb_decode.specs.Reader.Start.{Start, starting, further, TookFrom, IsWhole, BadFrom, ReportedFrom}
use Rattle.pb_decode.specs.FromDevice.{IfRefused, TakesAtMost}
use Rattle.pb_decode.specs.Loops.{ReadsOn, ReportedOf}
use Rattle.pb_decode.proofs.OntoText.{text_from, whole_fault, beyond_reported}

pub further_nil : (o : Start) → further o [] ≡ o
further_nil o = ap (λ (z : List ℕ). record o { place = record o.place { rest = z } }) (append-nil o.place.rest)

pub further_more : (o : Start) (a b : List ℕ) → further (further o a) b ≡ further o (a ++ b)
further_more o a b = ap (λ (z : List ℕ). record o { place = record o.place { rest = z } }) (append_assoc o.place.rest a b)

pub reads_none : (pool : Types) (r : Reading) (left : Option (List ℕ)) → ReadsOn pool r r left left 0
reads_none pool r left = record {
  bytes = [];
  size = refl;
  given = Consumes-nil left;
  onward = λ o took. subst (λ (z : Start). TookFrom pool z (state_view r.reader) r.held.items) (sym (further_nil o)) took;
}

pub reads_more : {pool : Types} {r s t : Reading} {x y z : Option (List ℕ)} {n m k : ℕ} → n + m ≡ k → ReadsOn pool r s x y n → ReadsOn pool s t y z m → ReadsOn pool r t x z k
reads_more {pool} {r} {s} {t} {x} {y} {z} sum h g = record {
  bytes = h.bytes ++ g.bytes;
  size = let a = h.size in let b = g.size in let joined = length-append h.bytes g.bytes in omega (arith, sum, a, b, joined);
  given = Consumes-trans x y z h.bytes g.bytes h.given g.given;
  onward = λ o took. subst (λ (p : Start). TookFrom pool p (state_view t.reader) t.held.items) (further_more o h.bytes g.bytes) (g.onward (further o h.bytes) (h.onward o took));
}

-- the bytes were given before, and are taken now
pub reads_front :
    {pool : Types} {r s : Reading} (x y : Option (List ℕ)) (bytes : List ℕ) {n : ℕ} → length bytes ≡ n → Consumes x y bytes
    → ((o : Start) → TookFrom pool o (state_view r.reader) r.held.items → TookFrom pool (further o bytes) (state_view s.reader) s.held.items) → ReadsOn pool r s x y n
reads_front x y bytes size given onward = record { bytes = bytes; size = size; given = given; onward = onward }

-- the input gave nothing more
pub reads_nothing : {pool : Types} {r s : Reading} {x y : Option (List ℕ)} {n : ℕ} (z : Option (List ℕ)) → ReadsOn pool r s x y n → Consumes y z [] → ReadsOn pool r s x z n
reads_nothing {x = x} {y = y} z h none = record {
  bytes = h.bytes;
  size = h.size;
  given = subst (Consumes x z) (append-nil h.bytes) (Consumes-trans x y z h.bytes [] h.given none);
  onward = h.onward;
}

-- how far the reader has come
pub reads_at : {pool : Types} {r s : Reading} {x y : Option (List ℕ)} {n : ℕ} (o : Start) → ReadsOn pool r s x y n → TookFrom pool o (state_view r.reader) r.held.items → s.reader.at + length s.held.items ≡ r.reader.at + length r.held.items + n
reads_at o h took =
    let before = took.at in
    let after = (h.onward o took).at in
    let joined = length-append o.place.rest h.bytes in
    let size = h.size in
    omega (arith, before, after, joined, size)

pub reads_on : {pool : Types} {r s : Reading} {x y : Option (List ℕ)} {n : ℕ} (o : Start) → ReadsOn pool r s x y n → TookFrom pool o (state_view r.reader) r.held.items → (p : Start) × TookFrom pool p (state_view s.reader) s.held.items
reads_on o h took = (further o h.bytes, h.onward o took)

pub reported_after :
    {pool : Types} (o : Start) (f : Fault) (x y z : Option (List ℕ)) (front : List ℕ) {depth_left most : ℕ} → length front + depth_left ≤ most → Consumes x y front → ReportedOf pool (further o front) y z depth_left f → ReportedOf pool o x z most f
reported_after {pool} o f x y z front fits given g = record {
  bytes = front ++ g.bytes;
  few = let b = g.few in let joined = length-append front g.bytes in omega (arith, fits, b, joined);
  given = Consumes-trans x y z front g.bytes given g.given;
  reported = subst (λ (p : Start). ReportedFrom pool p f) (further_more o front g.bytes) g.reported;
}

pub reported_more :
    {pool : Types} {r s : Reading} {x y z : Option (List ℕ)} {n depth_left most : ℕ} (o : Start) (f : Fault) → n + depth_left ≤ most → (h : ReadsOn pool r s x y n) → ReportedOf pool (further o h.bytes) y z depth_left f → ReportedOf pool o x z most f
reported_more {x = x} {y = y} {z = z} o f fits h g = reported_after o f x y z h.bytes (let a = h.size in omega (arith, fits, a)) h.given g

pub takes_after : (x y z : Option (List ℕ)) (front : List ℕ) {depth_left most : ℕ} → length front + depth_left ≤ most → Consumes x y front → TakesAtMost depth_left y z → TakesAtMost most x z
takes_after x y z front fits given (bytes, few, more) = (
  front ++ bytes,
  let joined = length-append front bytes in omega (arith, fits, few, joined),
  Consumes-trans x y z front bytes given more,
)

pub takes_more : {pool : Types} {r s : Reading} {x y : Option (List ℕ)} (z : Option (List ℕ)) {n depth_left most : ℕ} → n + depth_left ≤ most → ReadsOn pool r s x y n → TakesAtMost depth_left y z → TakesAtMost most x z
takes_more {x = x} {y = y} z fits h more = takes_after x y z h.bytes (let a = h.size in omega (arith, fits, a)) h.given more

pub takes_read : {pool : Types} {r s : Reading} {x y : Option (List ℕ)} {n most : ℕ} → n ≤ most → ReadsOn pool r s x y n → TakesAtMost most x y
takes_read fits h = (h.bytes, let a = h.size in omega (arith, fits, a), h.given)

-- what is reported of an error, said weaker
pub if_refused_weaker : (e : DecodeError) (P Q : Fault → Type 0) → ((f : Fault) → P f → Q f) → IfRefused e P → IfRefused e Q
if_refused_weaker (error.Fault byte path c) P Q h bad = h (fault byte path.items c) bad
if_refused_weaker error.Memory P Q h bad = tt
if_refused_weaker error.Device P Q h bad = tt
if_refused_weaker error.Finished P Q h bad = bad

pub if_fault_refused : (e : DecodeError) (P Q : Fault → Type 0) → ((f : Fault) → P f → Q f) → IfFault e P → IfRefused e Q
if_fault_refused (error.Fault byte path c) P Q h bad = h (fault byte path.items c) bad
if_fault_refused error.Memory P Q h bad = tt
if_fault_refused error.Device P Q h bad = absurd bad
if_fault_refused error.Finished P Q h bad = bad

pub err_refused : {A : Type 0} (r : Result A DecodeError) (P Q : Fault → Type 0) → ((f : Fault) → P f → Q f) → IfErr r (λ e. IfFault e P) → IfErr r (λ e. IfRefused e Q)
err_refused (Ok a) P Q h bad = tt
err_refused (Err e) P Q h bad = if_fault_refused e P Q h bad

-- A TEXT, from position 0 on, with no known end
module _ {pool : Types} {k : ℕ} {limits : Bounds} (base : List Record) where
  pub reported_left : (x y : Option (List ℕ)) (most : ℕ) (f : Fault) → most ≡ limits.bytes → ReportedOf pool (starting k limits.depth base None) x y most f → IfSome x (λ left. HasFault (schema_of pool) (a_message k) limits left f)
  reported_left None y most f same h = tt
  reported_left (Some left) None most f same h = absurd h.given
  reported_left (Some left) (Some rest) most f same h =
      let few = h.few in subst (λ (z : List ℕ). HasFault (schema_of pool) (a_message k) limits z f) (sym h.given) (text_bad h.bytes rest f (omega (arith, few, same)) h.reported.settled h.reported.bad)

  -- more bytes than the limit allows
  pub more_left :
      {r s : Reading} (x y z : Option (List ℕ)) (most : ℕ) (bytes : List ℕ) → most ≡ limits.bytes → TookFrom pool (starting k limits.depth base None) (state_view r.reader) r.held.items → ReadsOn pool r s x y most → Consumes y z bytes
      → length bytes ≡ 1 → IfSome x (λ left. HasFault (schema_of pool) (a_message k) limits left (fault most [] InputTooLarge))
  more_left None y z most bytes same took h given one = tt
  more_left (Some left) None z most bytes same took h given one = absurd h.given
  more_left (Some left) (Some rest) None most bytes same took h given one = absurd given
  more_left {r} {s} (Some left) (Some rest) (Some last) most bytes same took h given one =
      let size = h.size in
      let whole = ap length h.given ∙ length-append h.bytes rest in
      let part = ap length given ∙ length-append bytes last in
      let front : take most left ≡ h.bytes = ap (take most) h.given ∙ take_at h.bytes rest most size in
      beyond_reported most (state_view s.reader) s.held.items same (omega (arith, size, whole, part, one))
      (subst (λ (b : List ℕ). TookFrom pool (further (starting k limits.depth base None) b) (state_view s.reader) s.held.items) (sym front) (h.onward (starting k limits.depth base None) took))

-- all that is left, up to the end of the input
pub text_left :
    {pool : Types} {k : ℕ} {limits : Bounds} (x y : Option (List ℕ)) (bytes : List ℕ) (v : Message) → length bytes ≤ limits.bytes → Consumes x y bytes → IsAtEnd y → IsWhole pool (further (starting k limits.depth [] None) bytes) v
    → IfSome x (λ left. Text pool k limits left v)
text_left {pool} {k} {limits} x y bytes v size given ended h =
    Consumes-whole x y bytes (λ left. Text pool k limits left v) given ended (text_from v size h)

pub fault_left :
    (pool : Types) {k : ℕ} {limits : Bounds} (base : List Record) (x y : Option (List ℕ)) (bytes : List ℕ) (f : Fault) → length bytes ≤ limits.bytes → Consumes x y bytes → IsAtEnd y
    → BadFrom pool (further (starting k limits.depth base None) bytes) f → IfSome x (λ left. HasFault (schema_of pool) (a_message k) limits left f)
fault_left pool {k} {limits} base x y bytes f size given ended bad = Consumes-whole x y bytes (λ left. HasFault (schema_of pool) (a_message k) limits left f) given ended (whole_fault pool base f size bad)
