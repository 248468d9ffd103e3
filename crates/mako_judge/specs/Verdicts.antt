-- What each verdict means.
use Rattle.std.specs.Prelude.{ℕ, ◌<◌, length, MatchOption}
use Rattle.std.specs.declared.option.Option.{Option}
use Rattle.mako_model.specs.Fronts.{Seen}
use Rattle.mako_model.specs.Legal.{Facts}
use Rattle.mako_model.specs.Answering.{Answers, AnswersToEnd}
use Rattle.mako_judge.specs.declared.verdict.Clause.{Clause}
use Rattle.mako_judge.specs.declared.verdict.Clause.TheVariants.{Legal, Finished, Unfinished, Freed, Waits, Names}
use Rattle.mako_judge.specs.declared.verdict.Clause.TheVariants.{Reuses, Starved, Programs}
use Rattle.mako_judge.specs.declared.verdict.Fault.{Fault}
use Rattle.mako_judge.specs.declared.verdict.Verdict.{Verdict}
use Rattle.mako_judge.specs.declared.verdict.Verdict.TheVariants.{ToTheEnd, SoFar, No}
use Rattle.mako_judge.specs.Clauses.{Holds, HoldsBelow, IsFirstBreach}

-- how many clauses are asked before this one
abbrev pub rank : Clause → ℕ
rank Legal = 0
rank Finished = 1
rank Unfinished = 2
rank Freed = 3
rank Waits = 4
rank Names = 5
rank Reuses = 6
rank Starved = 7
rank Programs = 8

-- the clauses before this one are met
abbrev pub HoldsBefore : Facts → Seen → Clause → Type 0
HoldsBefore w front clause = (earlier : Clause) → rank earlier < rank clause → Holds w front earlier

-- the front does not meet the clause, and the place is that of the first point that does not, or none where each does
pub record IsFault (w : Facts) (front : Seen) (clause : Clause) (at : Option ℕ) : Type 0 where
  pub broken : ¬ Holds w front clause
  pub place : MatchOption at (HoldsBelow w front clause (length front.history)) (IsFirstBreach w front clause)

-- the front does not meet the clause, and those before it
pub record IsFirstFault (w : Facts) (front : Seen) (fault : Fault) : Type 0 where
  pub is : IsFault w front fault.clause fault.place
  pub before : HoldsBefore w front fault.clause

-- the verdict is a fault
abbrev pub IsNo : Verdict → Type 0
IsNo ToTheEnd = ⊥
IsNo SoFar = ⊥
IsNo (No fault) = Unit {0}

-- what the verdict says is so
abbrev pub IsTrueOf : Facts → Seen → Verdict → Type 0
IsTrueOf w front ToTheEnd = AnswersToEnd w front
IsTrueOf w front SoFar = Answers w front × ¬ AnswersToEnd w front
IsTrueOf w front (No fault) = IsFirstFault w front fault
