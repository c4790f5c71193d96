-- What is answered to bytes, by what is answered to their value.
use Rattle.std.proofs.Common.{◌≡◌, ◌<◌, ◌≤◌, ◌^◌, ℕ, List, length, Some, Ok, Err, Result, IfOk, Vec, sym}
use Rattle.std.specs.declared.alloc.Global.{Global}
use Rattle.pb_wire.specs.Fault.{Fault}
use Rattle.pb_wire.specs.Grammar.{HasFault}
use Rattle.pb_wire.specs.Limits.{full}
use Rattle.pb_schema.specs.Context.{a_message, schema_of}
use Rattle.pb_schema.specs.Names.{message_names}
use Rattle.pb_schema.specs.Tables.{place_of}
use Rattle.pb_schema.specs.Types.{Types}
use Rattle.pb_value.specs.Canon.{canon_bytes}
use Rattle.pb_value.specs.Data.{Message}
use Rattle.pb_value.specs.Derives.{Text}
use Rattle.pb_value.specs.Dynamic.{Dynamic}
use Rattle.pb_encode.specs.Encoding.{bytes_of}
use Rattle.conformance.specs.Reply.{Asks, IsAnswer, IsReply, IsReplyTo, IsTestOf, IsWritten, message_of, parse_error, parses, read, refused, runtime_error, shortened, tested, too_large, unread, whole}
use Rattle.conformance.specs.declared.reply.Reply.{Reply}
use Rattle.conformance.specs.declared.stop.Stop.{Stop}

if_ok_map : {A E : Type 0} (P Q : A → Type 0) (r : Result A E) → ((a : A) → P a → Q a) → IfOk r P → IfOk r Q
if_ok_map P Q (Ok a) more h = more a h
if_ok_map P Q (Err e) more h = h

pub value_tested :
    (pool : Types) (m : ℕ) (given : List ℕ) (d : Dynamic) (r : Result Reply Stop) → d.pool ≡ pool → d.kind ≡ m → Text pool m full given d.body
    → IfOk r (λ x. IsWritten (bytes_of d) (message_of x)) → IfOk r (λ x. IsTestOf pool m given (message_of x))
value_tested pool m given d r same_pool same_type text =
    if_ok_map (λ x. IsWritten (bytes_of d) (message_of x)) (λ x. IsTestOf pool m given (message_of x)) r
    (λ x written. parses text (rw (same_pool, same_type) at written))

pub fault_tested :
    (pool : Types) (m : ℕ) (given : List ℕ) (f : Fault) (r : Result Reply Stop) → HasFault (schema_of pool) (a_message m) full given f
    → IfOk r (λ x. message_of x ≡ parse_error f) → IfOk r (λ x. IsTestOf pool m given (message_of x))
fault_tested pool m given f r has =
    if_ok_map (λ x. message_of x ≡ parse_error f) (λ x. IsTestOf pool m given (message_of x)) r (λ x is. refused has is)

pub reply_tested :
    (pool same : Types) (request : Message) (name given : List ℕ) (m : ℕ) (r : Result Reply Stop) → same ≡ pool
    → Some m ≡ place_of name (message_names same) → Asks request name given → IfOk r (λ x. IsTestOf same m given (message_of x))
    → IfOk r (λ x. IsReplyTo pool request (message_of x))
reply_tested pool same request name given m r is found asks =
    if_ok_map (λ x. IsTestOf same m given (message_of x)) (λ x. IsReplyTo pool request (message_of x)) r
    (λ x test. tested asks (rw is at (sym found)) (rw is at test))

pub request_read :
    (pool : Types) (m : ℕ) (given : List ℕ) (d : Dynamic) (r : Result Reply Stop) → d.pool ≡ pool → Text pool m full given d.body
    → IfOk r (λ x. IsReplyTo d.pool d.body (message_of x)) → IfOk r (λ x. IsReply pool m given (message_of x))
request_read pool m given d r same text =
    if_ok_map (λ x. IsReplyTo d.pool d.body (message_of x)) (λ x. IsReply pool m given (message_of x)) r (λ x to. read text (rw same at to))

pub request_unread :
    (pool : Types) (m : ℕ) (given : List ℕ) (f : Fault) (r : Result Reply Stop) → HasFault (schema_of pool) (a_message m) full given f
    → IfOk r (λ x. message_of x ≡ runtime_error f) → IfOk r (λ x. IsReply pool m given (message_of x))
request_unread pool m given f r has =
    if_ok_map (λ x. message_of x ≡ runtime_error f) (λ x. IsReply pool m given (message_of x)) r (λ x is. unread has is)

pub answered_whole :
    (pool : Types) (request response : ℕ) (given : List ℕ) (reply : Message) (r : Result (Vec ℕ Global) Stop) → IsReply pool request given reply
    → IfOk r (λ v. v.items ≡ canon_bytes pool response reply) → IfOk r (λ v. length v.items < 2 ^ 31)
    → IfOk r (λ v. IsAnswer pool request response given v.items)
answered_whole pool request response given reply (Ok v) is made small = whole is small made
answered_whole pool request response given reply (Err e) is made small = made

pub answered_shorter :
    (pool : Types) (request response : ℕ) (given : List ℕ) (reply shorter : Message) (r : Result (Vec ℕ Global) Stop)
    → IsReply pool request given reply → 2 ^ 31 ≤ length (canon_bytes pool response reply) → shorter ≡ too_large
    → IfOk r (λ v. v.items ≡ canon_bytes pool response shorter) → IfOk r (λ v. IsAnswer pool request response given v.items)
answered_shorter pool request response given reply shorter r is large short =
    if_ok_map (λ v. v.items ≡ canon_bytes pool response shorter) (λ v. IsAnswer pool request response given v.items) r
    (λ v made. shortened is large (rw short at made))
