-- The parts of a line.
use Rattle.std.proofs.Common.{◌≡◌, ℕ, List, ◌++◌, append_assoc}
use Rattle.pb_text.specs.declared.form.Layout.{Layout}
use Rattle.pb_text.specs.Lines.{gap, indent, item}

pub two-parts : (layout : Layout) (level : ℕ) (a b : List ℕ) → item layout level (a ++ b) ≡ ((indent layout level ++ a) ++ b) ++ gap layout
two-parts layout level a b = simp append_assoc

pub three-parts : (layout : Layout) (level : ℕ) (a b d : List ℕ) → item layout level (a ++ b ++ d) ≡ (((indent layout level ++ a) ++ b) ++ d) ++ gap layout
three-parts layout level a b d = simp append_assoc
