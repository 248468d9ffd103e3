use Rattle.std.proofs.Common.{refl, ◌≡◌, ◌∷◌, List, ℕ, Bool, not, true, false, sym, ap, ◌∙◌, Result, Ok, Err}
use Rattle.std.specs.Str.{bytes_eq}
use Rattle.std.proofs.lemmas.Slice.Eq.{bytes_eq-Decides}
use Rattle.mako_text.specs.Programs.{ProgramView}
use Rattle.mako_text.specs.Texts.{mutator_word}
use Rattle.mako_reader.specs.declared.refusal.Refusal.{Refusal}
use Rattle.mako_reader.specs.Finds.{Finds}
use Rattle.mako_reader.specs.Parts.{IsBody, IsSection}
use Rattle.mako_reader.specs.Words.{IsFirstLine, lines_of}
use Rattle.mako_reader.proofs.Sections.{its_body, no_line, other_line}
use Rattle.mako_reader.proofs.Values.{refuse, stops}
use Rattle.mako_reader.proofs.section.section.Goals as goal

not_so : (b : Bool) → not b ≡ true → b ≡ false
not_so true e = absurd cc
not_so false e = refl

not_not : (b : Bool) → not b ≡ false → b ≡ true
not_not true e = refl
not_not false e = absurd cc

pub returns-in_err-line-clause-read : goal.returns-in_err-line-clause-read
returns-in_err-line-clause-read c =
    (stops _ c.from_residual.result _ c.from_residual.ensures.1 (IsFirstLine (lines_of c.args.text.now))
    (IsSection c.args.roots c.args.count (lines_of c.args.text.now))
    (no_line c.args.roots c.args.count (lines_of c.args.text.now)) c.in_err-line.ensures.read)

pub returns-then-ne-clause-read : goal.returns-then-ne-clause-read
returns-then-ne-clause-read c =
    let line = c.in_ok-line.line.now in
    let other : bytes_eq line mutator_word ≡ false = ap (bytes_eq line) (sym c.as_slice.ensures)
    ∙ not_so (bytes_eq line c.as_slice.result.now) (sym c.ne.ensures ∙ c.if-ne.true) in
    other_line c.args.roots c.args.count (lines_of c.args.text.now) line
    (lines_of c.in_ok-line.rest.now) c.in_ok-line.ensures.read other

found : {X : Type 0} (roots count : ℕ) (lines : List (List ℕ)) (line : List ℕ) (left : List (List ℕ)) (view : X
    → ProgramView × List (List ℕ)) (r : Result X Refusal) → IsFirstLine lines (line, left)
    → bytes_eq line mutator_word ≡ true → Finds (IsBody roots count left) view r
    → Finds (IsSection roots count lines) view r
found roots count lines line left view (Ok x) e opens body =
    (left, e.0 ∙ ap (λ (l : List ℕ). l ∷ left) ((bytes_eq-Decides line mutator_word).0 opens), body)
found roots count lines line left view (Err refusal) e opens none =
    refuse (IsBody roots count left) (IsSection roots count lines) refusal (its_body roots count lines line left e) none

pub returns-clause-read : goal.returns-clause-read
returns-clause-read c =
    let line = c.in_ok-line.line.now in
    let opens : bytes_eq line mutator_word ≡ true = ap (bytes_eq line) (sym c.as_slice.ensures)
    ∙ not_not (bytes_eq line c.as_slice.result.now) (sym c.ne.ensures ∙ c.if-ne.false) in
    found c.args.roots c.args.count (lines_of c.args.text.now) line (lines_of c.in_ok-line.rest.now)
    (λ x. (x.0, lines_of x.1.now)) c.program.result c.in_ok-line.ensures.read opens c.program.ensures.read
