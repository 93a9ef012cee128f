-- One word after another (they are too long for the check to spell by itself).
use Rattle.rules.specs.Contents.{sort}
use Rattle.lex.proofs.Lexes.{first, second}
use Rattle.operators.proofs.sort_word.Goals as goal

pub returns-in-Ok : goal.returns-in-Ok
unfolding sort
returns-in-Ok c = first _ c.in-Ok.ensures

pub returns-in-Ok-sign : goal.returns-in-Ok-sign
unfolding sort
returns-in-Ok-sign c = second c.in_default.ensures (first _ c.in-Ok-sign.ensures)

pub returns : goal.returns
unfolding sort
returns c = second c.in_default.ensures (second c.in_default-sign.ensures c.sign-3.ensures)
