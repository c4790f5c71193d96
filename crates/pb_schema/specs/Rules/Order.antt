-- DECLARATION ORDER: by file; a message, then those in it, then the next one; the enums in a message after those in the messages in it, and
-- the enums outside messages last.
use Rattle.std.specs.Prelude.{◌≡◌, ℕ, ◌+◌, ◌<◌, ◌≤◌, ◌⊎◌, List, [], ◌∷◌, Option, Some, None}
use Rattle.pb_schema.specs.Types.{MessageView, EnumView}
use Rattle.pb_schema.specs.Nesting.{parent_of, IsWithin}

-- each element has the relation to the next
abbrev pub InOrder : {X : Type 0} → (X → X → Type 0) → List X → Type 0
InOrder R [] = Unit {0}
InOrder R (x ∷ []) = Unit {0}
InOrder R (x ∷ y ∷ zs) = R x y × InOrder R (y ∷ zs)

abbrev pub FilesRise : List MessageView → Type 0
FilesRise ms = InOrder (λ s t. s.file ≤ t.file) ms

-- the message before a nested one is its parent, or is in its parent
abbrev pub FollowsParent : List MessageView → ℕ → Type 0
FollowsParent ms i = (p : ℕ) → parent_of ms i ≡ Some p → (j : ℕ) × (j + 1 ≡ i) × IsWithin ms p j

abbrev pub MessagesStandInOrder : List MessageView → Type 0
MessagesStandInOrder ms = FilesRise ms × ((i : ℕ) → FollowsParent ms i)

-- The enums in message a come before those in message b, or they are the same: b holds a, or is a later one that is not in a. Those outside
-- messages come last.
abbrev pub EndsNoLater : List MessageView → Option ℕ → Option ℕ → Type 0
EndsNoLater ms a None = Unit {0}
EndsNoLater ms None (Some b) = ⊥
EndsNoLater ms (Some a) (Some b) = IsWithin ms b a ⊎ ((a < b) × ¬ IsWithin ms a b)

abbrev pub StandsBefore : List MessageView → EnumView → EnumView → Type 0
StandsBefore ms d e = (d.file < e.file) ⊎ ((d.file ≡ e.file) × EndsNoLater ms d.parent e.parent)

abbrev pub EnumsStandInOrder : List MessageView → List EnumView → Type 0
EnumsStandInOrder ms es = InOrder (StandsBefore ms) es
