-- Where no byte stands that an operator of some row begins with, no row has an operator: each sign fails at its first byte.
use mathlib.Core.Path.{◌≡◌, refl, sym, ap, subst, ◌∙◌}
use Prim.Native.Nat.{ℕ, ◌≤◌, ◌<◌}
use mathlib.Core.List.{List, [], ◌∷◌}
use mathlib.Core.Bool.{Bool, true, false, ◌||◌, false≢true}
use mathlib.Core.Logic.{inr}
use borrow.Author.Tests.{ne_eqb}
use lib.ListN.{length, drop, get_or, drop_of_length-le}
use lib.Seq.{drop-cons}
use Rattle.rules.specs.Text.{ascii, among, begins}
use Rattle.rules.specs.Rule.{Rule, ◌>>=◌, tag}
use Rattle.rules.specs.Expressions.{signed, signed_unless, comparison, operator}
use Rattle.rules.specs.declared.Row.{Row}
use Rattle.rules.specs.declared.Row.TheVariants.{LogicalOr, LogicalAnd, Comparison, Comparisons, BitwiseOr, BitwiseXor, BitwiseAnd, Shift, Additive, Multiplicative}
use Rattle.rules.proofs.Text.{among_both}
use Rattle.lex.specs.Contract.{Lexes, lost}
use Rattle.lex.specs.declared.Cursor.{Cursor}
use Rattle.lex.proofs.Lexes.{second, stop, tag_lost}
use Rattle.foresight.specs.Rest.{Silent}

abbrev openers : List ℕ
openers = ascii "*/%+-<>=!&^|"

-- the loop over few bytes at a time
pub openers_parts : (b : ℕ) → among openers b ≡ (among (ascii "*/%+-") b || (among (ascii "<>=!") b || among (ascii "&^|") b))
openers_parts b = among_both (ascii "*/%+-") (ascii "<>=!&^|") b ∙ ap (λ t. among (ascii "*/%+-") b || t) (among_both (ascii "<>=!") (ascii "&^|") b)

pub openers_last : (b : ℕ) → among (ascii "*/%+-") b ≡ false → among (ascii "<>=!") b ≡ false → among openers b ≡ among (ascii "&^|") b
openers_last b m n = openers_parts b ∙ rw (m, n)

-- l begins with none of these bytes
record Closed (l : List ℕ) : Type 0 where
  to : (a : ℕ) (w : List ℕ) → among openers a ≡ true → begins (a ∷ w) l ≡ false

closed_end : Closed []
unfolding begins
closed_end = record { to = λ a w x. refl }

closed_byte : (b : ℕ) (l : List ℕ) → among openers b ≡ false → Closed (b ∷ l)
unfolding begins
closed_byte b l n = record { to = λ a w x. rw (ne_eqb b a (λ e. false≢true (sym n ∙ ap (among openers) e ∙ x))) }

module _ {s : List ℕ} {c : Cursor} (x : Closed (drop c.at s)) where
  no_sign : (a : ℕ) (w : List ℕ) (n : Unit {0} → Rule ℕ) → among openers a ≡ true → Lexes (tag (a ∷ w) >>= n) s c lost
  no_sign a w n m = stop n (tag_lost (a ∷ w) (x.to a w m))

  compares : Lexes comparison s c lost
  unfolding comparison signed among
  compares =
      second (second (no_sign _ _ _ refl) (no_sign _ _ _ refl))
      (second (second (no_sign _ _ _ refl) (no_sign _ _ _ refl)) (second (no_sign _ _ _ refl) (no_sign _ _ _ refl)))

  no_operator : (row : Row) → Lexes (operator row) s c lost
  unfolding signed signed_unless among
  no_operator LogicalOr = no_sign _ _ _ refl
  no_operator LogicalAnd = no_sign _ _ _ refl
  no_operator Comparison = compares
  no_operator Comparisons = compares
  no_operator BitwiseOr = no_sign _ _ _ refl
  no_operator BitwiseXor = no_sign _ _ _ refl
  no_operator BitwiseAnd = no_sign _ _ _ refl
  no_operator Shift = second (no_sign _ _ _ refl) (no_sign _ _ _ refl)
  no_operator Additive = second (no_sign _ _ _ refl) (no_sign _ _ _ refl)
  no_operator Multiplicative = second (no_sign _ _ _ refl) (second (no_sign _ _ _ refl) (no_sign _ _ _ refl))

module _ (fresh : Bool) (s : List ℕ) (y : ℕ) where
  none : Closed (drop y s) → (rows : List Row) → Silent fresh s y rows
  none x [] = tt
  none x (row ∷ rows) = (inr (λ h. (no_operator {s = s} {c = record { at = y; count = 0 }} x row).said h), none x rows)

  pub at_end : (rows : List Row) → length s ≤ y → Silent fresh s y rows
  at_end rows h = none (subst Closed (sym (drop_of_length-le s h)) closed_end) rows

  pub unopened : (rows : List Row) → y < length s → among openers (get_or s y 0) ≡ false → Silent fresh s y rows
  unopened rows h n = none (subst Closed (sym (drop-cons s y 0 h)) (closed_byte _ _ n)) rows
