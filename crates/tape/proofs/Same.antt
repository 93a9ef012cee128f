-- What `Runs` and `Reads` say in the words of the tape, as they were stated before `held` and `Keeps` had names: the same, both ways. And how the two
-- follow from one another.
use Rattle.std.proofs.Common.{◌≡◌, refl, sym, subst, ◌∙◌, ℕ, ◌-◌, ◌*◌, List, take, arith}
use Rattle.rules.specs.Rule.{Rule, Out, got, fail, deep, holds}
use Rattle.lex.specs.Contract.{Went, went, lost, sunk}
use Rattle.lex.specs.declared.Cursor.{Cursor}
use Rattle.rules.proofs.Pays.{Fine, PaidOut}
use Rattle.tape.specs.Contract.{CameTo, Room, Runs, Run, Reads, held, shown}
use Rattle.tape.proofs.Records.{keeps, kept_words}

abbrev pub shown_words : {A : Type 0} → List ℕ → Went A → Out A
shown_words t (went a e) = got a e.at (holds e.count t)
shown_words t lost = fail
shown_words t sunk = deep

pub record RunsWords {A : Type 0} (n : ℕ) (rule : Rule A) (s t : List ℕ) (c : Cursor) (r : Went A) (t' : List ℕ) : Type 0 where
  pub said : rule.out s c.at (holds c.count t) ≡ shown_words t' r
  pub kept : take (5 * n) t' ≡ take (5 * n) t

pub record ReadsWords {A : Type 0} (rule : Rule A) (s t : List ℕ) (c : Cursor) (r : Went A) (t' : List ℕ) : Type 0 where
  pub said : rule.out s c.at (holds c.count t) ≡ shown_words t' r
  pub kept : take (5 * c.count) t' ≡ take (5 * c.count) t
  pub came : CameTo s c r

shown_same : {A : Type 0} (t : List ℕ) (r : Went A) → shown t r ≡ shown_words t r
unfolding held
shown_same t (went a e) = refl
shown_same t lost = refl
shown_same t sunk = refl

module _ {A : Type 0} {rule : Rule A} {s t : List ℕ} {c : Cursor} {r : Went A} {t' : List ℕ} where
  pub runs_words : {n : ℕ} → Runs n rule s t c r t' → RunsWords n rule s t c r t'
  unfolding held
  runs_words {n} x = record { said = x.said ∙ shown_same t' r; kept = kept_words n t t' x.kept }

  pub words_run : {n : ℕ} → RunsWords n rule s t c r t' → Runs n rule s t c r t'
  unfolding held
  words_run {n} x = record { said = x.said ∙ sym (shown_same t' r); kept = keeps n t t' x.kept }

  pub reads_words : Reads rule s t c r t' → ReadsWords rule s t c r t'
  unfolding held
  reads_words x = record { said = x.said ∙ shown_same t' r; kept = kept_words c.count t t' x.kept; came = x.came }

  pub words_read : ReadsWords rule s t c r t' → Reads rule s t c r t'
  unfolding held
  words_read x = record { said = x.said ∙ sym (shown_same t' r); kept = keeps c.count t t' x.kept; came = x.came }

  -- a reading that pays runs
  pub runs : Reads rule s t c r t' → Run rule s t c r t'
  runs x = record { said = x.said; kept = x.kept }

-- a rule that pays came within the script, with a byte for each record
pub met : {A : Type 0} {rule : Rule A} {s t : List ℕ} {c : Cursor} {r : Went A} {t' : List ℕ} → Fine rule → Room s t c → Run rule s t c r t' → Reads rule s t c r t'
unfolding held
met {A} {rule} {s} {t} {c} {r} {t'} fine room x = record { said = x.said; kept = x.kept; came = go r x.said }
  where
    go : (r : Went A) → rule.out s c.at (held c.count t) ≡ shown t' r → CameTo s c r
    go (went a e) q =
        let p = subst (PaidOut _ s c.count c.at (c.at - c.count)) q ((fine c.count (c.at - c.count)).fair s c.at (holds c.count t) (omega arith) (omega arith)).paid in
        record { on = p.on; inside = omega arith; grown = p.floor; paid = omega arith }
    go lost q = tt
    go sunk q = tt
