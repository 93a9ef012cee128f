-- An item with its number is an item of the rules.
use Rattle.rules.proofs.Independent.{expression_blind}
use Rattle.contents.proofs.Alone.{item_reads}
use Rattle.sections.proofs.item.Goals as goal

pub returns-clause-reads : goal.returns-clause-reads
returns-clause-reads c = item_reads (expression_blind c.args.source.grammar.mode c.args.source.grammar.left) c.args.source.script.now c.args.alone c.requires.lone.alone _ c.contents_item.ensures
