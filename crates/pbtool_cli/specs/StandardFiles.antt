-- What is left of a file or of the standard input, and how often it failed.
use Rattle.std.specs.Prelude.{ℕ, List, Option}
use Rattle.pbtool_cli.specs.declared.standard_files.StandardInput.{StandardInput}
use Rattle.pbtool_cli.specs.declared.standard_files.StandardInput.TheVariants.{File, Standard}

module _ {A B : Type 0} where
  abbrev pub left_of : (A → Option (List ℕ)) → (B → Option (List ℕ)) → StandardInput A B → Option (List ℕ)
  left_of of_file of_input (File a) = of_file a
  left_of of_file of_input (Standard b) = of_input b

  abbrev pub failures_of : (A → ℕ) → (B → ℕ) → StandardInput A B → ℕ
  failures_of of_file of_input (File a) = of_file a
  failures_of of_file of_input (Standard b) = of_input b
