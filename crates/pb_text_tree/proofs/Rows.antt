-- Small texts, their trees and their faults, worked out by the rules: one for each production of the grammar, and for each fault.
use Rattle.std.proofs.Common.{◌≡◌, ℕ, List, [], ◌∷◌, codes, refl, false, true, Ok, Err}
use Rattle.pb_text_tokens.specs.Tokens.{PlacedToken, placed}
use Rattle.pb_text_tokens.specs.declared.token.TokenKind.TheVariants.{Word, Decimal, Octal, Quoted, Mark}
use Rattle.pb_text_tree.specs.Fault.{fault}
use Rattle.pb_text_tree.specs.Grammar.{NameAt, Reads, ScalarAt, Text, after_separator}
use Rattle.pb_text_tree.specs.Steps.{Repeats}
use Rattle.pb_text_tree.specs.Tree.{quoted, plain, word, number, extension, any, scalar, message, scalars, messages, no_fields, field, no_messages, each}
use Rattle.pb_text_tree.specs.declared.fault.SyntaxCause.TheVariants.{UnexpectedToken, UnexpectedEnd, TooDeep}

abbrev text : List PlacedToken → ℕ → Text
text ts n = record { tokens = ts; size = n }

mark : List ℕ → ℕ → PlacedToken
mark c at = placed Mark at c

-- ---- names

-- a
word_name : NameAt (text (placed Word 0 (codes "a") ∷ []) 1) 0 (Ok (word (codes "a"), 1))
word_name = refl

-- 12
number_name : NameAt (text (placed Decimal 0 (codes "12") ∷ []) 2) 0 (Ok (number (codes "12"), 1))
number_name = refl

-- 012
octal_name : NameAt (text (placed Octal 0 (codes "012") ∷ []) 3) 0 (Err (fault 0 UnexpectedToken))
octal_name = refl

-- [a.b]
extension_name :
    NameAt (text (mark (codes "[") 0 ∷ placed Word 1 (codes "a") ∷ mark (codes ".") 2 ∷ placed Word 3 (codes "b") ∷ mark (codes "]") 4 ∷ []) 5) 0
    (Ok (extension (codes "a.b"), 5))
unfolding mark
extension_name = (_, (_, refl, Repeats.goes _ _ refl refl (Repeats.ends refl refl)), refl)

-- [a/b]
any_name :
    NameAt (text (mark (codes "[") 0 ∷ placed Word 1 (codes "a") ∷ mark (codes "/") 2 ∷ placed Word 3 (codes "b") ∷ mark (codes "]") 4 ∷ []) 5) 0
    (Ok (any (codes "a") (codes "b"), 5))
unfolding mark
any_name = (_, (_, refl, Repeats.ends refl refl), (_, (_, refl, Repeats.ends refl refl), refl))

-- [a
open_name : NameAt (text (mark (codes "[") 0 ∷ placed Word 1 (codes "a") ∷ []) 2) 0 (Err (fault 2 UnexpectedEnd))
unfolding mark
open_name = (_, (_, refl, Repeats.ends refl refl), refl)

-- ---- single values

-- 'a' "b"
two_strings : ScalarAt (text (placed Quoted 0 (codes "'a'") ∷ placed Quoted 4 (codes "\"b\"") ∷ []) 7) 0 (Ok (quoted (codes "ab"), 2))
two_strings = (_, Repeats.goes _ _ refl refl (Repeats.ends refl refl), refl)

-- - 5
negative : ScalarAt (text (mark (codes "-") 0 ∷ placed Decimal 2 (codes "5") ∷ []) 3) 0 (Ok (plain true Decimal (codes "5"), 2))
unfolding mark
negative = refl

-- -inf
negative_word : ScalarAt (text (mark (codes "-") 0 ∷ placed Word 1 (codes "inf") ∷ []) 4) 0 (Ok (plain true Word (codes "inf"), 2))
unfolding mark
negative_word = refl

-- -'a'
negative_string : ScalarAt (text (mark (codes "-") 0 ∷ placed Quoted 1 (codes "'a'") ∷ []) 4) 0 (Err (fault 1 UnexpectedToken))
unfolding mark
negative_string = refl

-- - - 5
two_signs : ScalarAt (text (mark (codes "-") 0 ∷ mark (codes "-") 2 ∷ placed Decimal 4 (codes "5") ∷ []) 5) 0 (Err (fault 2 UnexpectedToken))
unfolding mark
two_signs = refl

-- ---- separators

comma : after_separator (text (mark (codes ",") 0 ∷ []) 1) 0 ≡ 1
unfolding mark
comma = refl

semicolon : after_separator (text (mark (codes ";") 0 ∷ []) 1) 0 ≡ 1
unfolding mark
semicolon = refl

colon_no_separator : after_separator (text (mark (codes ":") 0 ∷ []) 1) 0 ≡ 0
unfolding mark
colon_no_separator = refl

-- ---- whole texts

nothing : Reads 0 (text [] 0) (Ok (no_fields, 0))
nothing = Repeats.ends refl refl

-- a:1
a_field :
    Reads 0 (text (placed Word 0 (codes "a") ∷ mark (codes ":") 1 ∷ placed Decimal 2 (codes "1") ∷ []) 3)
    (Ok (field 0 (word (codes "a")) (scalar 2 (plain false Decimal (codes "1"))) no_fields, 3))
unfolding mark
a_field = Repeats.goes _ _ refl (_, (_, refl, (_, (_, (_, refl, refl), refl), refl)), refl) (Repeats.ends refl refl)

-- a{}
a_message :
    Reads 1 (text (placed Word 0 (codes "a") ∷ mark (codes "{") 1 ∷ mark (codes "}") 2 ∷ []) 3) (Ok (field 0 (word (codes "a")) (message 1 no_fields) no_fields, 3))
unfolding mark
a_message = Repeats.goes _ _ refl (_, (_, refl, (_, (_, (_, Repeats.ends refl refl, refl), refl), refl)), refl) (Repeats.ends refl refl)

-- a:<>
angles :
    Reads 1 (text (placed Word 0 (codes "a") ∷ mark (codes ":") 1 ∷ mark (codes "<") 2 ∷ mark (codes ">") 3 ∷ []) 4)
    (Ok (field 0 (word (codes "a")) (message 2 no_fields) no_fields, 4))
unfolding mark
angles = Repeats.goes _ _ refl (_, (_, refl, (_, (_, (_, Repeats.ends refl refl, refl), refl), refl)), refl) (Repeats.ends refl refl)

-- a:[]
empty_scalars :
    Reads 0 (text (placed Word 0 (codes "a") ∷ mark (codes ":") 1 ∷ mark (codes "[") 2 ∷ mark (codes "]") 3 ∷ []) 4)
    (Ok (field 0 (word (codes "a")) (scalars []) no_fields, 4))
unfolding mark
empty_scalars = Repeats.goes _ _ refl (_, (_, refl, (_, refl, refl)), refl) (Repeats.ends refl refl)

-- a[]
empty_messages :
    Reads 0 (text (placed Word 0 (codes "a") ∷ mark (codes "[") 1 ∷ mark (codes "]") 2 ∷ []) 3) (Ok (field 0 (word (codes "a")) (messages no_messages) no_fields, 3))
unfolding mark
empty_messages = Repeats.goes _ _ refl (_, (_, refl, (_, refl, refl)), refl) (Repeats.ends refl refl)

-- a:[1,2]
two_scalars :
    Reads 0
    (text (placed Word 0 (codes "a") ∷ mark (codes ":") 1 ∷ mark (codes "[") 2 ∷ placed Decimal 3 (codes "1") ∷ mark (codes ",") 4 ∷ placed Decimal 5 (codes "2") ∷ mark (codes "]") 6 ∷ []) 7)
    (Ok (field 0 (word (codes "a")) (scalars ((3, plain false Decimal (codes "1")) ∷ (5, plain false Decimal (codes "2")) ∷ [])) no_fields, 7))
unfolding mark
two_scalars =
    Repeats.goes _ _ refl
    (_, (_, refl, (_, (_, (_, (_, refl, refl), (_, Repeats.goes _ _ refl (_, (_, refl, refl), refl) (Repeats.ends refl refl), refl)), refl), refl)), refl)
    (Repeats.ends refl refl)

-- a[{},<>]
two_messages :
    Reads 1
    (text (placed Word 0 (codes "a") ∷ mark (codes "[") 1 ∷ mark (codes "{") 2 ∷ mark (codes "}") 3 ∷ mark (codes ",") 4 ∷ mark (codes "<") 5 ∷ mark (codes ">") 6 ∷ mark (codes "]") 7 ∷ []) 8)
    (Ok (field 0 (word (codes "a")) (messages (each 2 no_fields (each 5 no_fields no_messages))) no_fields, 8))
unfolding mark
two_messages =
    Repeats.goes _ _ refl
    (_, (_, refl, (_, (_, (_, (_, Repeats.ends refl refl, refl), (_, Repeats.goes _ _ refl (_, (_, Repeats.ends refl refl, refl), refl) (Repeats.ends refl refl), refl)), refl), refl)), refl)
    (Repeats.ends refl refl)

-- ---- faults

-- a 1
no_colon : Reads 0 (text (placed Word 0 (codes "a") ∷ placed Decimal 2 (codes "1") ∷ []) 3) (Err (fault 2 UnexpectedToken))
no_colon = Repeats.fails _ refl (_, (_, refl, (_, refl, refl)), refl) refl

-- a
no_value : Reads 0 (text (placed Word 0 (codes "a") ∷ []) 1) (Err (fault 1 UnexpectedEnd))
no_value = Repeats.fails _ refl (_, (_, refl, (_, refl, refl)), refl) refl

-- a[1]
list_without_colon :
    Reads 0 (text (placed Word 0 (codes "a") ∷ mark (codes "[") 1 ∷ placed Decimal 2 (codes "1") ∷ mark (codes "]") 3 ∷ []) 4) (Err (fault 2 UnexpectedToken))
unfolding mark
list_without_colon = Repeats.fails _ refl (_, (_, refl, (_, refl, refl)), refl) refl

-- a{>
other_brace : Reads 1 (text (placed Word 0 (codes "a") ∷ mark (codes "{") 1 ∷ mark (codes ">") 2 ∷ []) 3) (Err (fault 2 UnexpectedToken))
unfolding mark
other_brace =
    Repeats.fails _ refl (_, (_, refl, (_, (_, (_, Repeats.fails _ refl (_, (_, refl, refl), refl) refl, refl), refl), refl)), refl) refl

-- a{ where no message may nest
too_deep : Reads 0 (text (placed Word 0 (codes "a") ∷ mark (codes "{") 1 ∷ []) 2) (Err (fault 1 TooDeep))
unfolding mark
too_deep = Repeats.fails _ refl (_, (_, refl, (_, (_, refl, refl), refl)), refl) refl

-- ;
only_separator : Reads 0 (text (mark (codes ";") 0 ∷ []) 1) (Err (fault 0 UnexpectedToken))
unfolding mark
only_separator = Repeats.fails _ refl (_, (_, refl, refl), refl) refl
