-- The steps are many, so that the tactic is called for its own.
use Rattle.rules.specs.Assignments.{expand}
use Rattle.rules.specs.Contents.{assignment}
use Rattle.rules.specs.Keywords.{keyword}
use Rattle.rules.specs.Rule.{bind, bytes, give}
use Rattle.std.proofs.Common.{arith}
use Rattle.foresight.proofs.items.assigned.Goals as goal

pub returns : goal.returns
unfolding assignment expand keyword bind bytes give
returns c = grind arith
