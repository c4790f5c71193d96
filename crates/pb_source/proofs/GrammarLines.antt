-- Lines that only some of the grammars have.
use Rattle.std.proofs.Common.{◌≡◌, List, [], ◌∷◌, Bool, true, false, None}
use Rattle.pb_declarations.specs.Decls.{DeclaredField}
use Rattle.pb_source_tokens.specs.declared.grammar.Grammar.{Grammar}
use Rattle.pb_source_tokens.specs.Symbols.{Symbol}
use Rattle.pb_source_tokens.specs.Language.{Language, Rules}
use Rattle.pb_source_tokens.specs.Phrases.{BeginsNot}
use Rattle.pb_source.specs.declared.kind.Label.TheVariants.{Unlabelled}
use Rattle.pb_source.specs.Meaning.{Member}
use Rattle.pb_source.specs.Grammar.{field, lined}

pub lined_kept : (b : Bool) (L : Language) (c : List Symbol) → lined b L c → L c
lined_kept true L c d = d
lined_kept false L c d = absurd d

pub lined_on : (b : Bool) (L M : Language) (c : List Symbol) → (L c → M c) → lined b L c → lined b M c
lined_on true L M c f d = f d
lined_on false L M c f d = d

-- a field without a label, in a block of `extend`
abbrev pub extended_single : Grammar → Rules → Member → Language
extended_single grammar rules x ts =
    (f : DeclaredField) × (x ≡ (f, None)) × BeginsNot ("repeated" ∷ "optional" ∷ "required" ∷ []) ts × field grammar rules Unlabelled f ts
