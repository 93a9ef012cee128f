use Rattle.std.proofs.Common.{sym, ◌∙◌}
use Rattle.foresight.proofs.Unopened.{openers_last}
use Rattle.foresight.proofs.expressions.opener.Goals as goal

pub returns-else-among-2 : goal.returns-else-among-2
returns-else-among-2 c = c.among-else-among-2.ensures ∙ sym (openers_last c.args.b (sym c.among.ensures ∙ c.if-among.false) (sym c.among-2.ensures ∙ c.if-among-2.false))
