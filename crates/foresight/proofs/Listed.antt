-- THE LIST OF PATTERNS: how many patterns were read before does not matter for its end, and behind one of them a turn less is enough.
use Rattle.std.proofs.Common.{◌≡◌, refl, sym, ap, ◌∙◌, ℕ, zero, suc, ◌+◌, ◌≤◌, List, Bool, true, false, cond, length, drop, arith}
use Rattle.std.specs.Prelude.{Option, None, Some}
use Rattle.rules.specs.Rule.{Held, got, Rule, after, give, fails, size, tag, word, opt, is_some, repeating, repeat_till, when◌then◌else◌, ◌>>◌, attempt, bind, choose}
use Rattle.rules.specs.Text.{ascii, begins}
use Rattle.rules.specs.Contents.{pattern}
use Rattle.rules.proofs.Ahead.{on}
use Rattle.rules.proofs.Blind.{Blind, nothing, ◌seen_by◌, repeat_blind, tag_blind, size_blind}
use Rattle.rules.proofs.Independent.{◌then_blind◌}
use Rattle.rules.proofs.Alone.{pattern_blind}
use Rattle.rules.proofs.Turns.{pattern_steps, patterns_enough}
use Rattle.foresight.specs.Tells.{End, at, end_of}
use Rattle.foresight.proofs.Ends.{end_alike, blind_ends}

abbrev close : Rule (Unit {0})
close = word ")"

abbrev pub listed : Rule ℕ
listed = repeat_till pattern close

listed_blind : Blind listed
unfolding repeat_till
listed_blind = size_blind seen_by (λ n. repeat_blind pattern_blind (tag_blind _) (suc n) 0)

module _ (s : List ℕ) where
  abbrev from : (n k p : ℕ) → Held → End
  from n k p h = end_of ((repeating pattern close n k).out s p h)

  another : (n k j : ℕ) → ((p : ℕ) (h : Held) → from n (suc k) p h ≡ from n (suc j) p h) → (found : Option (Unit {0})) (q : ℕ) (g : Held)
      → end_of ((when is_some found then give k else (pattern >> repeating pattern close n (suc k))).out s q g) ≡ end_of ((when is_some found then give j else (pattern >> repeating pattern close n (suc j))).out s q g)
  unfolding bind choose give
  another n k j f None q g = end_alike (pattern.out s q g) _ _ (λ _ r h _. f r h)
  another n k j f (Some u) q g = refl

  any_count : (n k j p : ℕ) (h : Held) → from n k p h ≡ from n j p h
  unfolding repeating fails bind
  any_count zero k j p h = refl
  any_count (suc n) k j p h = end_alike ((opt close).out s p h) _ _ (λ found q g _. another n k j (any_count n (suc k) (suc j)) found q g)

  one_less : (q : ℕ) → 1 ≤ q → q ≤ length s → (n : ℕ) → length s ≡ n → (h : Held) → from n 1 q h ≡ from (suc n) 0 q h
  one_less q l i zero e h = absurd (omega arith)
  one_less q l i (suc n) e h =
      let fewer = ((patterns_enough s 0 0 n (suc n) q (omega arith) (omega arith) 0).same q nothing (omega arith) i (omega arith) (omega arith)).0 in
      any_count (suc n) 1 0 q h ∙ blind_ends (repeat_blind pattern_blind (tag_blind _) (suc n) 0) s q h nothing ∙ ap end_of (sym fewer)
      ∙ blind_ends (repeat_blind pattern_blind (tag_blind _) (suc (suc n)) 0) s q nothing h

  module _ (p : ℕ) where
    past_pattern : p ≤ length s → (q : ℕ) (g : Held) → pattern.out s p nothing ≡ got tt q g → (1 ≤ q) × (q ≤ length s)
    past_pattern i q g e =
        let m = pattern_steps.moves.ahead s p nothing (omega arith) e in
        let f = (on s p nothing (omega arith) e pattern_steps.fine).1 in
        (omega arith, omega arith)

    first_turn : begins (ascii ")") (drop p s) ≡ false → p ≤ length s → end_of (listed.out s p nothing) ≡ end_of ((pattern >> listed).out s p nothing)
    unfolding repeat_till repeating size opt attempt choose bind give tag
    first_turn e i = rw e (end_alike (pattern.out s p nothing) _ _ (λ _ q g f. let l = past_pattern i q g f in one_less q l.0 l.1 (length s) refl g))

    ends : (b : Bool) → begins (ascii ")") (drop p s) ≡ b → p ≤ length s → (h : Held) → end_of (listed.out s p h) ≡ cond b (at (p + 1)) (end_of (after (pattern.out s p h) (λ _ q g. listed.out s q g)))
    unfolding repeat_till repeating size opt attempt choose bind give tag
    ends true e i h = rw e refl
    ends false e i h = blind_ends listed_blind s p h nothing ∙ first_turn e i ∙ blind_ends (pattern_blind then_blind listed_blind) s p nothing h

    pub turned : p ≤ length s → (h : Held) → end_of (listed.out s p h) ≡ cond (begins (ascii ")") (drop p s)) (at (p + 1)) (end_of (after (pattern.out s p h) (λ _ q g. listed.out s q g)))
    turned i h = ends (begins (ascii ")") (drop p s)) refl i h
