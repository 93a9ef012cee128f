-- What the rules ask of a list of bytes is what std's own words ask of it.
use Rattle.std.proofs.Common.{◌≡◌, refl, ℕ, List, [], ◌∷◌, Bool, ◌||◌, arith}
use Rattle.std.specs.List.{prefix_len}
use Rattle.std.proofs.lemmas.Grind.{common_steps}
use Rattle.rules.specs.Text.{ascii, among, run}
use Rattle.rules.proofs.Text.{among_both}

pub run_is : (test : ℕ → Bool) (l : List ℕ) → prefix_len test l ≡ run test l
unfolding run
run_is test [] = refl
run_is test (b ∷ l) = let k = run_is test l in grind (arith, common_steps)

-- a byte that ends a token is one of four or one of five
pub token_ends : (b : ℕ) → among (ascii " (){};,\n\t") b ≡ (among (ascii " (){") b || among (ascii "};,\n\t") b)
token_ends b = among_both (ascii " (){") (ascii "};,\n\t") b
