-- The numbers of the words, which are computed from the table: a law for each word, together for those that are told apart in one place. `grind` and
-- `using` take such a group by its name; `rw` and `simp` take a law of it, as commands.0 for the first and commands.1.0 for the second.
use Rattle.std.proofs.Common.{◌≡◌, rules, ℕ, suc, List, [], ◌∷◌, map}
use Prim.Native.String.{String}
use Rattle.rules.specs.Text.{ascii, same}
use Rattle.rules.specs.Keywords as words
use Rattle.rules.specs.Keywords.{keywords, numbered, keyword_of, first_of}

-- words whose numbers count on from n
abbrev pub From : ℕ → List String → Type 0
From n [] = Unit {0}
From n (w ∷ ws) = (keyword_of (ascii w) ≡ n) × From (suc n) ws

pub commands : From 1 words.commands
unfolding keyword_of numbered keywords same
commands = search rules

pub segment_types : From 14 (map first_of words.segment_types)
unfolding keyword_of numbered keywords same
segment_types = search rules

pub functions : From 27 words.functions × (From 11 ("ASSERT" ∷ []) × From 46 ("." ∷ []))
unfolding keyword_of numbered keywords same
functions = search rules

pub attributes : From 40 words.attributes
unfolding keyword_of numbered keywords same
attributes = search rules

pub sections : From 9 ("PROVIDE" ∷ "PROVIDE_HIDDEN" ∷ "ASSERT" ∷ []) × From 46 ("." ∷ [])
unfolding keyword_of numbered keywords same
sections = search rules

pub marks : From 46 words.marks
unfolding keyword_of numbered keywords same
marks = search rules
