-- ONE POSSIBLE ANSWER: two answers that meet a contract of the reader are the same, and so are the readers that they leave.
use Rattle.std.specs.Prelude.{◌≡◌, ℕ, List, Result}
use Rattle.rules.specs.Rule.{Rule}
use Rattle.lex.specs.declared.NotRead.{NotRead}
use Rattle.held.specs.declared.Reader.{Reader}
use Rattle.held.specs.declared.WalkError.{WalkError}
use Rattle.held.specs.Step.{Steps}
use Rattle.held.specs.Walk.{walk}

abbrev pub OneStep : Type 0 → Type 0
OneStep A = (rule : Rule A) (r : Reader) (a b : Result A NotRead) (r₁ r₂ : Reader) → Steps rule r a r₁ → Steps rule r b r₂ → (a ≡ b) × (r₁ ≡ r₂)

-- a reader is its script and its place
abbrev pub OneReader : Type 0
OneReader = (r r' : Reader) → r.script ≡ r'.script → r.at ≡ r'.at → r ≡ r'

-- a walk leaves one answer, and one content of the words
abbrev pub OneWalk : Type 0
OneWalk =
    (s ws : List ℕ) (r r' : Result ℕ WalkError) (v v' : List ℕ) → walk s ws ≡ record { says = r; leaves = v } → walk s ws ≡ record { says = r'; leaves = v' }
    → (r ≡ r') × (v ≡ v')
