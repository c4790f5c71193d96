-- What is reported of declarations that make no pool.
use Rattle.std.proofs.Common.{◌≡◌, ◌≢◌, ℕ, List, refl}
use Rattle.std.specs.Prelude.{IfSome, string_bytes}
use Rattle.pb_wire.specs.Limits.{full}
use Rattle.pb_wire.specs.Fault.{fault}
use Rattle.pb_declarations.specs.Decls.{DeclaredFile}
use Rattle.pb_descr_message.specs.Lenient.{IsUnreadLeniently}
use Rattle.pb_descr_message.specs.Sets.{IsUnread}
use Rattle.pb_descr_message.specs.declared.error.DescrError.{DescrError}
use Rattle.pb_descr_message.specs.declared.error.DescrError.TheVariants as descr
use Rattle.pb_link_rules.specs.Faults.{LinkFault, IsUnlinked}
use Rattle.pb_link_rules.specs.declared.cause.LinkCause.{LinkCause}
use Rattle.pb_link_rules.specs.declared.error.LinkError.{LinkError}
use Rattle.pb_link_rules.specs.declared.error.LinkError.TheVariants as link
use Rattle.pb_source.specs.declared.reading.Reading.{Reading}
use Rattle.pb_source_tokens.specs.declared.fault.SourceCause.{SourceCause}
use Rattle.pb_c.specs.declared.pool.compile.Unparsed.{Unparsed}
use Rattle.pb_c.specs.declared.pool.compile.Unparsed.TheVariants.{Source, Memory}
use Rattle.pb_c.specs.PoolFault.{PoolFault, link_fault, set_fault}
use Rattle.pb_c.specs.SetPool.{LenientSetFails, SetFails}
use Rattle.pb_c.specs.SourcePool.{Bytes, IsUnparsed, SourceFails, SourcesFail}

-- of files that do not link the fault is reported, where memory is there
pub unlinked : (files : List DeclaredFile) (e : LinkError) (Told : PoolFault → Type 0) (answer : ℕ)
    → IsUnlinked files e → IfSome (link_fault e) Told → (e ≡ link.Memory → answer ≡ 14) → answer ≢ 14
    → (file name : List ℕ) × (c : LinkCause) × LinkFault files file name c × Told (PoolFault.in_link file name c)
unlinked files (link.Fault file name c) Told answer is told memory other = (string_bytes file, string_bytes name, c, is, told)
unlinked files link.Memory Told answer is told memory other = absurd (other (memory refl))

-- why bytes are no set that is read strictly, or leniently
pub strict : (set : List ℕ) (e : DescrError) → IsUnread full set e → IfSome (set_fault e) (SetFails set)
strict set (descr.Fault byte path c) is = is
strict set (descr.Decl i c) is = is
strict set descr.Memory is = tt

pub lenient : (set : List ℕ) (e : DescrError) → IsUnreadLeniently full set e → IfSome (set_fault e) (LenientSetFails set)
lenient set (descr.Fault byte path c) is = is
lenient set (descr.Decl i c) is = is
lenient set descr.Memory is = tt

-- of bytes that are no set the fault is reported, where memory is there
pub unread : (e : DescrError) (Fails Told : PoolFault → Type 0) (answer : ℕ)
    → IfSome (set_fault e) Fails → IfSome (set_fault e) Told → (e ≡ descr.Memory → answer ≡ 14) → answer ≢ 14 → (w : PoolFault) × Fails w × Told w
unread (descr.Fault byte path c) Fails Told answer is told memory other = (PoolFault.in_bytes (fault byte path.items c), is, told)
unread (descr.Decl i c) Fails Told answer is told memory other = (PoolFault.in_file i c, is, told)
unread descr.Memory Fails Told answer is told memory other = absurd (other (memory refl))

-- two facts of what is reported of a set, as one
pub told_together : (e : DescrError) (First Second Both : PoolFault → Type 0) → ((w : PoolFault) → First w → Second w → Both w)
    → IfSome (set_fault e) First → IfSome (set_fault e) Second → IfSome (set_fault e) Both
told_together (descr.Fault byte path c) First Second Both to first second = to (PoolFault.in_bytes (fault byte path.items c)) first second
told_together (descr.Decl i c) First Second Both to first second = to (PoolFault.in_file i c) first second
told_together descr.Memory First Second Both to first second = tt

-- of sources that are not parsed the fault is reported, where memory is there
pub unparsed : (grammar : Reading) (names texts : List Bytes) (e : Unparsed) (First : ℕ → ℕ → SourceCause → Type 0) (Told : PoolFault → Type 0) (answer : ℕ)
    → IsUnparsed (SourceFails grammar names texts) e → IsUnparsed First e → ((i byte : ℕ) (c : SourceCause) → First i byte c → Told (PoolFault.in_source i byte c))
    → (e ≡ Memory → answer ≡ 14) → answer ≢ 14 → (w : PoolFault) × SourcesFail grammar names texts w × Told w
unparsed grammar names texts (Source i byte c) First Told answer is told to memory other = (PoolFault.in_source i byte c, is, to i byte c told)
unparsed grammar names texts Memory First Told answer is told to memory other = absurd (other (memory refl))
