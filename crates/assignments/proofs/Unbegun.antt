-- Where no byte stands that a compound sign begins with, none of them is read: each fails at its first byte.
use mathlib.Core.Path.{◌≡◌, refl, sym, ap, subst, ◌∙◌}
use Prim.Native.Nat.{ℕ, ◌≤◌, ◌<◌}
use mathlib.Core.List.{List, [], ◌∷◌}
use mathlib.Core.Bool.{true, false, false≢true, ◌||◌}
use borrow.Author.Tests.{ne_eqb}
use lib.ListN.{length, drop, get_or, drop_of_length-le}
use lib.Seq.{drop-cons}
use Rattle.rules.specs.Text.{ascii, among, begins}
use Rattle.rules.specs.Rule.{Rule, Held, fail, ◌>>=◌, tag}
use Rattle.rules.specs.Expressions.{signed}
use Rattle.rules.specs.Assignments.{compound}
use Rattle.rules.proofs.Text.{among_both}
use Rattle.lex.specs.Contract.{Lexes, lost}
use Rattle.lex.specs.declared.Cursor.{Cursor}
use Rattle.lex.proofs.Lexes.{second, stop, tag_lost}

abbrev openers : List ℕ
openers = ascii "+-*/<>&|^"

-- l begins with none of these bytes
record Closed (l : List ℕ) : Type 0 where
  to : (a : ℕ) (w : List ℕ) → among openers a ≡ true → begins (a ∷ w) l ≡ false

closed_end : Closed []
unfolding begins
closed_end = record { to = λ a w x. refl }

closed_byte : (b : ℕ) (l : List ℕ) → among openers b ≡ false → Closed (b ∷ l)
unfolding begins
closed_byte b l n = record { to = λ a w x. rw (ne_eqb b a (λ e. false≢true (sym n ∙ ap (among openers) e ∙ x))) }

module _ {s : List ℕ} {c : Cursor} where
  no_sign : Closed (drop c.at s) → (a : ℕ) (w : List ℕ) (n : Unit {0} → Rule ℕ) → among openers a ≡ true → Lexes (tag (a ∷ w) >>= n) s c lost
  no_sign x a w n m = stop n (tag_lost (a ∷ w) (x.to a w m))

  no_compound : Closed (drop c.at s) → Lexes compound s c lost
  unfolding compound signed among
  no_compound x =
      second (second (no_sign x _ _ _ refl) (no_sign x _ _ _ refl))
      (second (second (no_sign x _ _ _ refl) (no_sign x _ _ _ refl))
      (second (second (no_sign x _ _ _ refl) (no_sign x _ _ _ refl))
      (second (second (no_sign x _ _ _ refl) (no_sign x _ _ _ refl)) (no_sign x _ _ _ refl))))

  none_at_end : length s ≤ c.at → Lexes compound s c lost
  none_at_end h = no_compound (subst Closed (sym (drop_of_length-le s h)) closed_end)

  none_unbegun : c.at < length s → among openers (get_or s c.at 0) ≡ false → Lexes compound s c lost
  none_unbegun h n = no_compound (subst Closed (sym (drop-cons s c.at 0 h)) (closed_byte _ _ n))

module _ (s : List ℕ) (p : ℕ) (h : Held) where
  pub at_end : length s ≤ p → compound.out s p h ≡ fail
  at_end l = (none_at_end {s = s} {c = record { at = p; count = 0 }} l).said h

  pub unbegun : p < length s → (among (ascii "+-*/") (get_or s p 0) || among (ascii "<>&|^") (get_or s p 0)) ≡ false → compound.out s p h ≡ fail
  unbegun l n = (none_unbegun {s = s} {c = record { at = p; count = 0 }} l (among_both (ascii "+-*/") (ascii "<>&|^") (get_or s p 0) ∙ n)).said h
