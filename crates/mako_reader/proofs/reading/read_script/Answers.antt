use Rattle.std.proofs.Common.{◌≡◌, ℕ, List, Result, Ok, Err, get_or, ap, sym, subst, ◌∙◌}
use Rattle.std.specs.Prelude.{IfErr, IfOk, OnErr}
use Rattle.mako_text.specs.Scripts.{IsProper, ScriptView}
use Rattle.mako_text.specs.Programs.{ProgramView}
use Rattle.mako_text.specs.Keys.{keys}
use Rattle.mako_text.specs.Texts.{IsScript, script_text}
use Rattle.mako_reader.specs.declared.refusal.Refusal.{Refusal}
use Rattle.mako_reader.specs.declared.refusal.Refusal.TheVariants.{Bad, Memory}
use Rattle.mako_reader.specs.Finds.{Finds, ReadsEach, Refused}
use Rattle.mako_reader.specs.Parts.{AreProper, AreSections, IsSetting, script_of}
use Rattle.mako_reader.specs.Words.{lines_of}
use Rattle.mako_reader.proofs.Scripts.{its_programs, its_settings, no_script, spells}
use Rattle.mako_reader.proofs.Values.{stops}
use Rattle.mako_reader.proofs.reading.read_script.Goals as goal

pub returns-in_err-values : goal.returns-in_err-values
returns-in_err-values c =
    stops _ c.from_residual.result _ c.from_residual.ensures.1 (ReadsEach IsSetting keys (lines_of c.args.bytes.now))
    (IsScript c.args.bytes.now) (its_settings c.args.bytes.now) c.in_err-values.ensures.read

pub returns-in_err-programs : goal.returns-in_err-programs
returns-in_err-programs c =
    let left = lines_of c.in_ok-values.text.now in
    let v = c.in_ok-values.values.items in
    stops _ c.from_residual-in_err-programs.result _ c.from_residual-in_err-programs.ensures.1
    (AreSections (get_or v 7 0) left) (IsScript c.args.bytes.now)
    (λ s is. (let programs = its_programs c.args.bytes.now v left c.in_ok-values.ensures.read s is in
    (programs.0, programs.1)))
    (subst (λ (w : List ℕ). Refused (AreSections (get_or w 7 0) left) c.in_err-programs.field-0.0) c.deref.ensures.0
    c.in_err-programs.ensures)

pub assembled-requires-clause-programs : goal.assembled-requires-clause-programs
assembled-requires-clause-programs c =
    let same : c.deref.result.now ≡ c.deref-2.result.now = c.deref.ensures.0 ∙ sym c.deref-2.ensures.0 in
    let are = c.in_ok-programs.ensures in
    subst (λ (v : List ℕ). AreProper (get_or v 7 0) c.in_ok-programs.programs.items) same (record {
      few = are.few;
      commands = are.total;
      programs = are.proper;
    })

found : (text vs : List ℕ) (left : List (List ℕ)) (ps : List ProgramView) (r : Result ScriptView Refusal)
    → ReadsEach IsSetting keys (lines_of text) (vs, left) → AreSections (get_or vs 7 0) left ps
    → IfOk r (λ s. (s ≡ script_of vs ps) × IsProper s) → OnErr r (¬ IsProper (script_of vs ps)) → IfErr r (λ e. e ≡ Bad)
    → Finds (IsScript text) (λ s. s) r
found text vs left ps (Ok s) header sections fine none kind =
    record { proper = fine.1; spelled = spells text vs left ps header sections ∙ ap script_text (sym fine.0) }
found text vs left ps (Err Bad) header sections fine none kind = no_script text vs left ps header sections none
found text vs left ps (Err Memory) header sections fine none kind = tt

pub returns : goal.returns
returns c =
    let v = c.in_ok-values.values.items in
    let left = lines_of c.in_ok-values.text.now in
    let sections = subst
    (λ (w : List ℕ). AreSections (get_or w 7 0) left c.in_ok-programs.programs.items) c.deref.ensures.0
    c.in_ok-programs.ensures in
    let e = c.assembled.ensures in
    found c.args.bytes.now v left c.in_ok-programs.programs.items c.assembled.result c.in_ok-values.ensures.read
    sections
    (subst (λ (w : List ℕ). IfOk c.assembled.result (λ s. (s ≡ script_of w c.in_ok-programs.programs.items)
    × IsProper s)) c.deref-2.ensures.0 e.ok)
    (subst (λ (w : List ℕ). OnErr c.assembled.result (¬ IsProper (script_of w c.in_ok-programs.programs.items)))
    c.deref-2.ensures.0 e.err)
    e.kind
