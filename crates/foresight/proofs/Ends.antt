-- WHERE AN ANSWER COMES TO: a blind rule comes to the same place whatever is held, and so does what goes on from there.
use Rattle.std.proofs.Common.{◌≡◌, refl, sym, ap, ◌∙◌, ℕ, List}
use Rattle.rules.specs.Rule.{Held, Out, got, fail, deep, Rule, after}
use Rattle.rules.proofs.Blind.{Blind, nothing, over}
use Rattle.foresight.specs.Tells.{End, at, lost, sunk, end_of}

-- what goes on after what went on after something
pub after_twice : {A B C : Type 0} (o : Out A) (k : A → ℕ → Held → Out B) (j : B → ℕ → Held → Out C) → after (after o k) j ≡ after o (λ a q g. after (k a q g) j)
after_twice (got a q g) k j = refl
after_twice fail k j = refl
after_twice deep k j = refl

-- nothing goes on
pub after_done : (o : Out (Unit {0})) → o ≡ after o (λ _ q g. got tt q g)
after_done (got tt q g) = refl
after_done fail = refl
after_done deep = refl

-- the same answer, read on in two ways; and any answer that comes to the same place, where what goes on depends on the place alone
pub end_alike : {A B : Type 0} (o : Out A) (k j : A → ℕ → Held → Out B) → ((a : A) (q : ℕ) (g : Held) → o ≡ got a q g → end_of (k a q g) ≡ end_of (j a q g)) → end_of (after o k) ≡ end_of (after o j)
end_alike (got a q g) k j f = f a q g refl
end_alike fail k j f = refl
end_alike deep k j f = refl

abbrev pub onward : End → (ℕ → End) → End
onward (at q) f = f q
onward lost f = lost
onward sunk f = sunk

pub end_after : {A B : Type 0} (o : Out A) (k : A → ℕ → Held → Out B) (f : ℕ → End) → ((a : A) (q : ℕ) (g : Held) → end_of (k a q g) ≡ f q) → end_of (after o k) ≡ onward (end_of o) f
end_after (got a q g) k f e = e a q g
end_after fail k f e = refl
end_after deep k f e = refl

pub blind_ends : {A : Type 0} {m : Rule A} → Blind m → (s : List ℕ) (p : ℕ) (h g : Held) → end_of (m.out s p h) ≡ end_of (m.out s p g)
blind_ends {A} {m} x s p h g = ap end_of (x.same s p h) ∙ (both h (m.out s p nothing) ∙ sym (both g (m.out s p nothing))) ∙ sym (ap end_of (x.same s p g))
  where
    both : (h : Held) (o : Out A) → end_of (over h o) ≡ end_of o
    both h (got a q k) = refl
    both h fail = refl
    both h deep = refl
