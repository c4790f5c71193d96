-- What follows from what a refusal is.
use Rattle.std.proofs.Common.{ℕ, List}
use Rattle.pbtool_files.specs.Answer.{Answer, refused, device_failed}
use Rattle.pbtool_files.specs.Refusal.{ByRefusal, Refuses}
use Rattle.pbtool_files.specs.declared.report.Refusal.{Refusal}
use Rattle.pbtool_files.specs.declared.report.Refusal.TheVariants.{Fault, Set, SetFile, Link, UnknownType, TooLarge, Frame, Frames, Source, Json, Device, File, Memory}
use Rattle.pbtool_files.specs.declared.report.Refusal.TheVariants.{Breaks, FrameJson, JsonText}

pub by_refusal_map :
    (I J : List ℕ → Type 0) (F G : List ℕ → Type 0) (M N : Type 0) (e : Refusal) → ((line : List ℕ) → I line → J line) → ((path : List ℕ) → F path → G path)
    → (M → N) → ByRefusal I F M e → ByRefusal J G N e
by_refusal_map I J F G M N (Fault byte path cause) i f m h = i _ h
by_refusal_map I J F G M N (Set byte path cause) i f m h = i _ h
by_refusal_map I J F G M N (SetFile file cause) i f m h = i _ h
by_refusal_map I J F G M N (Link file full_name cause) i f m h = i _ h
by_refusal_map I J F G M N (UnknownType name) i f m h = i _ h
by_refusal_map I J F G M N TooLarge i f m h = i _ h
by_refusal_map I J F G M N (Frame index byte path cause) i f m h = i _ h
by_refusal_map I J F G M N (FrameJson index path cause) i f m h = i _ h
by_refusal_map I J F G M N (Frames lines refused count) i f m h = i _ h
by_refusal_map I J F G M N (Source file byte cause) i f m h = i _ h
by_refusal_map I J F G M N (Json path cause) i f m h = i _ h
by_refusal_map I J F G M N (JsonText byte cause) i f m h = i _ h
by_refusal_map I J F G M N Breaks i f m h = i _ h
by_refusal_map I J F G M N (Device path) i f m h = f _ h
by_refusal_map I J F G M N (File path) i f m h = f _ h
by_refusal_map I J F G M N Memory i f m h = m h

-- the same of each
pub by_refusal_any :
    (X : Type 0) (I F : List ℕ → Type 0) (M : Type 0) (e : Refusal) → ((line : List ℕ) → I line → X) → ((path : List ℕ) → F path → X) → (M → X)
    → ByRefusal I F M e → X
by_refusal_any X I F M (Fault byte path cause) i f m h = i _ h
by_refusal_any X I F M (Set byte path cause) i f m h = i _ h
by_refusal_any X I F M (SetFile file cause) i f m h = i _ h
by_refusal_any X I F M (Link file full_name cause) i f m h = i _ h
by_refusal_any X I F M (UnknownType name) i f m h = i _ h
by_refusal_any X I F M TooLarge i f m h = i _ h
by_refusal_any X I F M (Frame index byte path cause) i f m h = i _ h
by_refusal_any X I F M (FrameJson index path cause) i f m h = i _ h
by_refusal_any X I F M (Frames lines refused count) i f m h = i _ h
by_refusal_any X I F M (Source file byte cause) i f m h = i _ h
by_refusal_any X I F M (Json path cause) i f m h = i _ h
by_refusal_any X I F M (JsonText byte cause) i f m h = i _ h
by_refusal_any X I F M Breaks i f m h = i _ h
by_refusal_any X I F M (Device path) i f m h = f _ h
by_refusal_any X I F M (File path) i f m h = f _ h
by_refusal_any X I F M Memory i f m h = m h

pub refuses_map : (P Q : Answer → Type 0) (e : Refusal) → ((a : Answer) → P a → Q a) → Refuses P e → Refuses Q e
refuses_map P Q e more h =
    by_refusal_map (λ line. P (refused line)) (λ line. Q (refused line)) (λ path. P (device_failed path)) (λ path. Q (device_failed path))
    (Unit {0}) (Unit {0}) e (λ line. more (refused line)) (λ path. more (device_failed path)) (λ u. u) h
