use Rattle.foresight.proofs.Filling.{looked}
use Rattle.foresight.proofs.table.Table.look.Goals as goal

pub returns : goal.returns
returns c = rw (c.told.ensures, c.at.ensures) (looked c.args.self.now.known c.args.column c.args.x c.if-self-x.false c.if-self-back.false)
