-- PAST WHAT IS TOLD of a place, by column.
use Rattle.std.proofs.Common.{ℕ, List, true, false, arith}
use Rattle.rules.specs.Rule.{Rule}
use Rattle.rules.specs.Rule.{repeat_till, word}
use Rattle.rules.specs.Bytes.{skip, token, pattern_name}
use Rattle.rules.specs.Expressions.{ladder, levels, unary, expression}
use Rattle.rules.specs.Contents.{pattern}
use Rattle.rules.specs.declared.Mode.{Mode}
use Rattle.foresight.specs.Rest.{rest}
use Rattle.foresight.specs.declared.Told.{Told}
use Rattle.foresight.specs.declared.Told.TheVariants.{Nothing, Fails, Ends}
use Rattle.foresight.specs.declared.table.Column.{Column}
use Rattle.foresight.specs.declared.table.Column.TheVariants.{Skip, Patterns, Name, Word, Expression, Operand, Fresh, Spent}
use Rattle.foresight.specs.Tells.{Fact, Tells, raise, AtLeast, Passes}
use Rattle.foresight.specs.Table.{TellsColumn}

at_least : (need : ℕ) (a : Told) → AtLeast need (raise need a)
at_least need Nothing = tt
at_least need (Fails n) = omega arith
at_least need (Ends n y) = omega arith

module _ (s : List ℕ) (need x : ℕ) where
  levelled : (m : ℕ → Rule (Unit {0})) (a : Told) → Tells m s x a → Tells m s x (raise need a)
  levelled m Nothing t = tt
  levelled m (Fails n) t = λ left h l. t left h (omega arith)
  levelled m (Ends n y) t = λ left h l. t left h (omega arith)

  flat : {A : Type 0} (m : Rule A) (a : Told) → Fact m s x a → Fact m s x (raise need a)
  flat m Nothing t = tt
  flat m (Fails n) t = t
  flat m (Ends n y) t = t

  raised : (mode : Mode) (column : Column) (a : Told) → TellsColumn mode column s x a → TellsColumn mode column s x (raise need a)
  raised mode Skip a t = flat skip a t
  raised mode Patterns a t = flat (repeat_till pattern (word ")")) a t
  raised mode Name a t = flat pattern_name a t
  raised mode Word a t = flat token a t
  raised mode Expression a t = levelled (expression mode) a t
  raised mode Operand a t = levelled (λ left. unary (levels mode left)) a t
  raised mode Fresh a t = levelled (λ left. rest true (ladder mode) (unary (levels mode left))) a t
  raised mode Spent a t = levelled (λ left. rest false (ladder mode) (unary (levels mode left))) a t

  pub passes_column : (mode : Mode) (column : Column) (a : Told) → TellsColumn mode column s x a → Passes (TellsColumn mode column s) (Ends need x) (raise need a)
  passes_column mode column a t = (at_least need a, raised mode column a t)
