use Rattle.std.proofs.Common.{lit≤, Result, Ok, Err, List, ℕ}
use Rattle.std.specs.Prelude.{IfOk}
use Rattle.mako_reader.specs.declared.refusal.Refusal.{Refusal}
use Rattle.mako_text.specs.Keys.{keys}
use Rattle.mako_reader.specs.Finds.{Finds, ReadsEach}
use Rattle.mako_reader.specs.Parts.{AreValues, IsSetting}
use Rattle.mako_reader.specs.Words.{lines_of}
use Rattle.mako_reader.proofs.Header.{are_values}
use Rattle.mako_reader.proofs.settings.settings.Goals as goal

if_ok : {X : Type 0} (items : X → List ℕ) (after : X → List (List ℕ)) (lines : List (List ℕ)) (r : Result X Refusal)
    → Finds (ReadsEach IsSetting keys lines) (λ x. (items x, after x)) r → IfOk r (λ x. AreValues (items x))
if_ok items after lines (Ok x) h = are_values lines (items x, after x) h
if_ok items after lines (Err e) h = tt

pub numbers-requires : goal.numbers-requires
numbers-requires c = lit≤ tt

pub returns-clause-values : goal.returns-clause-values
returns-clause-values c =
    if_ok (λ x. x.0.items) (λ x. lines_of x.1.now) (lines_of c.args.text.now) c.numbers.result c.numbers.ensures

pub returns-clause-read : goal.returns-clause-read
returns-clause-read c = c.numbers.ensures
