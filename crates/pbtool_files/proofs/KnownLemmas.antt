-- What is known of files after something was opened.
use Rattle.std.proofs.Common.{◌≡◌, ℕ, List, Bool, true, Option, None, Some, take, refl, ap, ◌∙◌, subst}
use Rattle.std.specs.Prelude.{IfSome}
use Rattle.pbtool_files.specs.FileMap.{FileMap, KeepsMap, IsOpened}
use Rattle.pbtool_files.specs.Known.{IsReadFrom, IsReadOf, OfFiles, OfInput}

pub keeps_same : (o : Option FileMap) → KeepsMap o o
keeps_same None = tt
keeps_same (Some map) = λ path. refl

pub keeps_then : (a b c : Option FileMap) → KeepsMap a b → KeepsMap b c → KeepsMap a c
keeps_then None b c first second = tt
keeps_then (Some a) None c first second = absurd first
keeps_then (Some a) (Some b) None first second = absurd second
keeps_then (Some a) (Some b) (Some c) first second = λ path. second path ∙ first path

-- files that were opened are honest as before
pub of_later :
    {F : Type 0} {contents : F → Option FileMap} {is_steady : F → Bool} {old mid : F} (path : List ℕ) (P : Option (List ℕ) → Type 0) → KeepsMap (contents old) (contents mid) → (is_steady old ≡ true → is_steady mid ≡ true)
    → OfFiles contents is_steady mid path P → OfFiles contents is_steady old path P
of_later {F} {contents} {is_steady} {old} {mid} path P kept steady of = λ map honest. by map (contents mid) (subst (λ (o : Option FileMap). KeepsMap o (contents mid)) honest.told kept) refl (steady honest.steady)
  where
    by : (map : FileMap) (o : Option FileMap) → KeepsMap (Some map) o → contents mid ≡ o → is_steady mid ≡ true → P (map path)
    by map None kept is still = absurd kept
    by map (Some after) kept is still = subst P (kept path) (of after (record { steady = still; told = is }))

-- nothing was opened, so nothing is there
pub none_opened : {I : Type 0} (left : I → Option (List ℕ)) (o : Option (List ℕ)) → IsOpened left o None → o ≡ None
none_opened left None opened = refl
none_opened left (Some bytes) opened = absurd opened

-- what holds of an opened input holds of what stands at its path
pub opened_of :
    {F I : Type 0} (contents : F → Option FileMap) (is_steady : F → Bool) (files : F) (path : List ℕ) (left : I → Option (List ℕ)) (stays : I → Bool)
    (input : I) (P : Option (List ℕ) → Type 0)
    → OfFiles contents is_steady files path (λ content. IsOpened left content (Some input) × (stays input ≡ true)) → OfInput left stays input P
    → OfFiles contents is_steady files path P
opened_of {F} {I} contents is_steady files path left stays input P opened of = λ map honest. let h = opened map honest in by (map path) h.0 h.1
  where
    by : (o : Option (List ℕ)) → IsOpened left o (Some input) → stays input ≡ true → P o
    by None opened steady = absurd opened
    by (Some bytes) opened steady = of bytes steady opened

-- nothing is read where nothing is there
pub nothing_read :
    {F : Type 0} (contents : F → Option FileMap) (is_steady : F → Bool) (files : F) (path : List ℕ) (limit : ℕ)
    → OfFiles contents is_steady files path (λ content. content ≡ None) → IsReadOf contents is_steady files limit path None
nothing_read contents is_steady files path limit missing = λ map honest. let none = missing map honest in rw none

-- the first bytes of an input were read
pub first_read :
    {I : Type 0} (left : I → Option (List ℕ)) (is_steady : I → Bool) (input : I) (limit : ℕ) (text : List ℕ)
    → IfSome (left input) (λ bytes. text ≡ take limit bytes) → IsReadFrom left is_steady input limit (Some text)
first_read left is_steady input limit text first = λ bytes steady is.
    let same = rw is at first in
    ap (λ (z : List ℕ). Some z) same
