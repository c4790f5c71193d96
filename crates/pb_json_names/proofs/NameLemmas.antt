-- The name that a field is given.
use Rattle.std.proofs.Common.{◌≡◌, ℕ, List, length, Bool, true, false, Option, Some, None, refl, sym}
use Rattle.std.specs.Prelude.{◌==◌, ◌&&◌, not, if◌then◌else◌, IsUtf8}
use Rattle.std.specs.Str.{bytes_eq, is_utf8}
use Rattle.std.proofs.lemmas.Str.{IsUtf8-from_is_utf8, is_utf8-from_IsUtf8}
use Rattle.pb_json.specs.JsonNames.{lower_camel}
use Rattle.pb_json_names.specs.Name.{other_name}

all_are : (x t y : Bool) (o : Option (List ℕ)) → x ≡ false → t ≡ true → y ≡ false → (if (not x && t) && not y then o else None) ≡ o
all_are false true false o p q r = refl
all_are true t y o p q r = absurd (cc)
all_are false false y o p q r = absurd (cc)
all_are false true true o p q r = absurd (cc)

one_is_empty : (x t y : Bool) (o : Option (List ℕ)) → x ≡ true → (if (not x && t) && not y then o else None) ≡ None
one_is_empty true t y o p = refl
one_is_empty false t y o p = absurd (cc)

one_is_camel : (x t y : Bool) (o : Option (List ℕ)) → y ≡ true → (if (not x && t) && not y then o else None) ≡ None
one_is_camel true t y o p = refl
one_is_camel false false y o p = refl
one_is_camel false true true o p = refl
one_is_camel false true false o p = absurd (cc)

one_is_wrong : (x t y : Bool) (o : Option (List ℕ)) → t ≡ false → (if (not x && t) && not y then o else None) ≡ None
one_is_wrong true t y o p = refl
one_is_wrong false false y o p = refl
one_is_wrong false true y o p = absurd (cc)

pub name_kept : (declared s : List ℕ) → (length s == 0) ≡ false → IsUtf8 s → bytes_eq (lower_camel declared) s ≡ false → Some s ≡ other_name declared s
name_kept declared s filled good apart =
    sym (all_are (length s == 0) (is_utf8 s) (bytes_eq (lower_camel declared) s) (Some s) filled (is_utf8-from_IsUtf8 s good) apart)

pub empty_name : (declared s : List ℕ) → (length s == 0) ≡ true → None ≡ other_name declared s
empty_name declared s empty = sym (one_is_empty (length s == 0) (is_utf8 s) (bytes_eq (lower_camel declared) s) (Some s) empty)

pub camel_name : (declared s : List ℕ) → bytes_eq (lower_camel declared) s ≡ true → None ≡ other_name declared s
camel_name declared s same = sym (one_is_camel (length s == 0) (is_utf8 s) (bytes_eq (lower_camel declared) s) (Some s) same)

is_wrong : (s : List ℕ) (t : Bool) → is_utf8 s ≡ t → (IsUtf8 s → ⊥) → t ≡ false
is_wrong s true e bad = absurd (bad (IsUtf8-from_is_utf8 s e))
is_wrong s false e bad = refl

pub wrong_name : (declared s : List ℕ) → (IsUtf8 s → ⊥) → None ≡ other_name declared s
wrong_name declared s bad =
    sym (one_is_wrong (length s == 0) (is_utf8 s) (bytes_eq (lower_camel declared) s) (Some s) (is_wrong s (is_utf8 s) refl bad))
