-- What clap's matches name.
use Rattle.std.proofs.Common.{◌≡◌, ◌<◌, ℕ, Bool, true, false, List, [], ◌∷◌, ◌⊎◌, Option, Some, None, option_map, inl, inr, zero, suc, length, codes, arith, refl, sym, ap, ◌∙◌, slice_index_or, subst}
use Rattle.std.specs.Prelude.{◌≢◌, Any, find, is_some, map, if◌then◌else◌}
use Rattle.clap.specs.Walk.{stop_after, rows_of}
use Rattle.clap.specs.Walk.{answers_to}
use Rattle.clap.specs.Words.{Row, Text, Shape, subcommand_name_of, subcommand_rows_of}
use Rattle.clap.specs.Matches.{found_of, has_subcommand}
use Rattle.clap.specs.declared.parser.matches.ArgMatches.{ArgMatches}
use Rattle.clap.specs.declared.parser.matches.ArgMatches.TheViews.{out-ArgMatches, out-SubCommand}
use Rattle.clap.specs.declared.parser.matches.SubCommand.{SubCommand}
use Rattle.clap.specs.Simple.{argument_words, built, entered, label_of, names_of, rows_at, subcommand_of, subcommand_rows}
use Rattle.std.specs.Box.{box_value}
use Rattle.std.specs.declared.boxed.Box.{Box}
use Rattle.std.specs.declared.alloc.Global.{Global}
use Rattle.pbtool_command.specs.declared.command.Command.{Command}
use Rattle.pbtool_cli.specs.Words.{IsMatched, IsNamed, tool, tool_names}

pairs_matched : (s : Option (Text × List Row)) (name : Text) (rows : List Row) (command : Command)
    → option_map (λ p. p.0) s ≡ Some name → option_map (λ p. p.1) s ≡ Some rows → IsNamed name rows command → IsMatched s command
pairs_matched None name rows command n r named = absurd (cc)
pairs_matched (Some p) name rows command n r named =
    let same_name : name ≡ p.0 = cc in
    let same_rows : rows ≡ p.1 = cc in
    subst (λ (w : Text). IsNamed w p.1 command) same_name (subst (λ (w : List Row). IsNamed name w command) same_rows named)

-- the command has the name and the values of the subcommand that was met
pub matched_named : (m : ArgMatches) (name : Text) (rows : List Row) (command : Command) → subcommand_name_of m ≡ Some name
    → option_map (λ p. p.1) (subcommand_rows_of m) ≡ Some rows → IsNamed name rows command → IsMatched (subcommand_rows_of m) command
matched_named m name rows command n r named = pairs_matched (subcommand_rows_of m) name rows command (names (out-ArgMatches m).subcommand n) r named
  where
    names : (o : Option (Box SubCommand Global)) → option_map (λ b. (out-SubCommand (box_value b)).name.now) o ≡ Some name → option_map (λ p. p.0) (subcommand_rows o) ≡ Some name
    names None e = e
    names (Some b) e = e

-- WHICH SUBCOMMAND WAS MET

abbrev IsNameIn : Text → List Text → Type 0
IsNameIn name [] = ⊥
IsNameIn name (n ∷ ns) = (name ≡ n) ⊎ IsNameIn name ns

-- what is found among commands has the name of one
found_named :
    (test : Shape → Bool) (ss : List Shape) (s : Shape) → find test ss ≡ Some s → IsNameIn s.name (map (λ (x : Shape). x.name) ss)
found_named test [] s e = absurd (cc)
found_named test (x ∷ xs) s e = by_test (test x) (λ found. found_named test xs s found) e
  where
    by_test :
        (b : Bool) → (find test xs ≡ Some s → IsNameIn s.name (map (λ (y : Shape). y.name) xs)) → (if b then Some x else find test xs) ≡ Some s
        → IsNameIn s.name (map (λ (y : Shape). y.name) (x ∷ xs))
    by_test true more found = let same : s ≡ x = cc in inl (ap (λ (y : Shape). y.name) same)
    by_test false more found = inr (more found)

-- a walk that entered a subcommand of the tool entered one of its names
entered_named : (stop : Option (Text × List Text)) (p : Text × List Row) → entered (built tool) stop ≡ Some p → IsNameIn p.0 tool_names
entered_named None p e = absurd (cc)
entered_named (Some q) p e = by_found (find (λ (s : Shape). answers_to q.0 (label_of s)) (built tool).subs) refl e
  where
    by_found :
        (o : Option Shape) → find (λ (s : Shape). answers_to q.0 (label_of s)) (built tool).subs ≡ o → option_map (λ (s : Shape). rows_at s q.1) o ≡ Some p
        → IsNameIn p.0 tool_names
    by_found None found rows = absurd (cc)
    by_found (Some s) found rows =
        let same : p ≡ rows_at s q.1 = cc in
        subst (λ (n : Text). IsNameIn n tool_names) (sym (ap (λ (r : Text × List Row). r.0) same)) (found_named (λ (x : Shape). answers_to q.0 (label_of x)) (built tool).subs s found)

some_names : (name : Text) (names : List Text) → IsNameIn name names → Any (λ n. Some name ≡ Some n) names
some_names name [] more = absurd more
some_names name (n ∷ ns) (inl same) = (0, n, omega arith, refl, ap Some same)
some_names name (n ∷ ns) (inr more) = let r = some_names name ns more in (suc r.0, r.1, omega arith, r.3, r.4)

-- the subcommand that was met has a name of the tool's
pub subcommand_named :
    (m : ArgMatches) (words : List Text) → has_subcommand m ≡ true → subcommand_rows_of m ≡ subcommand_of tool words
    → Any (λ name. subcommand_name_of m ≡ Some name) tool_names
subcommand_named m words = by_rows (out-ArgMatches m).subcommand
  where
    by_rows :
        (o : Option (Box SubCommand Global)) → is_some o ≡ true → subcommand_rows o ≡ subcommand_of tool words
        → Any (λ name. option_map (λ b. (out-SubCommand (box_value b)).name.now) o ≡ Some name) tool_names
    by_rows None there rows = absurd (cc)
    by_rows (Some b) there rows =
        some_names (out-SubCommand (box_value b)).name.now tool_names
        (entered_named (stop_after (built tool).top.rules (names_of (built tool)) (argument_words tool words))
        ((out-SubCommand (box_value b)).name.now, rows_of (found_of (out-SubCommand (box_value b)).matches)) (sym rows))

-- WHERE NO SUBCOMMAND'S NAME WAS MET

abbrev IsOneOf : Option Text → List Text → Type 0
IsOneOf s [] = ⊥
IsOneOf s (n ∷ ns) = (s ≡ Some n) ⊎ IsOneOf s ns

at_index :
    (s : Option Text) (names : List Text) (k : ℕ) (x : Text) → k < length names → slice_index_or names k x ≡ x → s ≡ Some x → IsOneOf s names
at_index s [] k x below at is = absurd (omega (arith, below))
at_index s (n ∷ ns) zero x below at is = inl (is ∙ ap (λ (t : Text). Some t) (sym at))
at_index s (n ∷ ns) (suc k) x below at is = inr (at_index s ns k x (omega (arith, below)) at is)

never : false ≡ true → ⊥
never e = cc

-- a name of the tool's was met, and none of them in turn
pub no_name_left :
    (s : Option Text) → (s ≡ Some (codes "raw") → false ≡ true) → (s ≡ Some (codes "check") → false ≡ true) → (s ≡ Some (codes "show") → false ≡ true)
    → (s ≡ Some (codes "canon") → false ≡ true) → (s ≡ Some (codes "json") → false ≡ true) → (s ≡ Some (codes "text") → false ≡ true)
    → (s ≡ Some (codes "frames") → false ≡ true) → (s ≡ Some (codes "types") → false ≡ true) → (s ≡ Some (codes "compile") → false ≡ true)
    → (s ≡ Some (codes "from-json") → false ≡ true) → (s ≡ Some (codes "compat") → false ≡ true) → s ≢ Some (codes "help") → s ≢ Some (codes "version")
    → Any (λ n. s ≡ Some n) tool_names → ⊥
no_name_left s raw check show canon json text frames types compile from_json compat help version has =
    by (at_index s tool_names has.0 has.1 has.2 has.3 has.4)
  where
    by : IsOneOf s tool_names → ⊥
    by (inl is) = never (raw is)
    by (inr (inl is)) = never (check is)
    by (inr (inr (inl is))) = never (show is)
    by (inr (inr (inr (inl is)))) = never (canon is)
    by (inr (inr (inr (inr (inl is))))) = never (json is)
    by (inr (inr (inr (inr (inr (inl is)))))) = never (text is)
    by (inr (inr (inr (inr (inr (inr (inl is))))))) = never (frames is)
    by (inr (inr (inr (inr (inr (inr (inr (inl is)))))))) = never (types is)
    by (inr (inr (inr (inr (inr (inr (inr (inr (inl is))))))))) = never (compile is)
    by (inr (inr (inr (inr (inr (inr (inr (inr (inr (inl is)))))))))) = never (compat is)
    by (inr (inr (inr (inr (inr (inr (inr (inr (inr (inr (inl is))))))))))) = never (from_json is)
    by (inr (inr (inr (inr (inr (inr (inr (inr (inr (inr (inr (inl is)))))))))))) = help is
    by (inr (inr (inr (inr (inr (inr (inr (inr (inr (inr (inr (inr (inl is))))))))))))) = version is
    by (inr (inr (inr (inr (inr (inr (inr (inr (inr (inr (inr (inr (inr nothing))))))))))))) = nothing
