use Rattle.std.proofs.Common.{◌∷◌, [], ◌<◌, ◌≤◌, List, ℕ, true≢false, refl, ap, sym, subst, ◌∙◌, arith}
use Rattle.std.specs.Prelude.{slice_index}
use Rattle.std.proofs.lemmas.Result.{err_from_is_err_and}
use Rattle.mako_shape.specs.Limits.{AllInRange, all_entries, max_entries}
use Rattle.mako_reader.specs.Parts.{AreSections, numbers_in}
use Rattle.mako_reader.specs.Words.{lines_of}
use Rattle.mako_script.specs.declared.fault.Kind.{Kind}
use Rattle.mako_script.specs.Faults.{IsFirstFault}
use Rattle.mako_script.proofs.Begins.{begins_at, in_range, some_roots, words_first}
use Rattle.mako_script.proofs.BetweenSections.{no_section}
use Rattle.mako_script.proofs.Checked.{entries_first}
use Rattle.mako_script.proofs.Counted.{has_script}
use Rattle.mako_script.proofs.check.check.Goals as goal

pub too_many_entries-requires-clause-ranges : goal.too_many_entries-requires-clause-ranges
too_many_entries-requires-clause-ranges c =
    subst (λ (v : List ℕ). AllInRange (numbers_in v 1)) (sym c.deref.ensures.0)
    (in_range (lines_of c.args.text.now) c.in_ok-values.values.items 1 c.in_ok-values.ensures.read
    c.in_ok-values.ensures.count (omega arith) (omega arith))

pub returns-then-too_many_entries-clause-first : goal.returns-then-too_many_entries-clause-first
returns-then-too_many_entries-clause-first c =
    let many = c.too_many_entries.ensures.0 c.if-too_many_entries.true in
    entries_first c.args.text.now c.in_ok-values.values.items c.in_ok-values.ensures.count c.in_ok-values.ensures.read
    (subst (λ (v : List ℕ). max_entries < all_entries (numbers_in v 0)) c.deref.ensures.0 many)

pub sections-requires : goal.sections-requires
sections-requires c =
    subst (λ (v : List ℕ). (1 ≤ slice_index v 7) × (slice_index v 7 ≤ 32)) (sym c.deref-2.ensures.0)
    (some_roots (lines_of c.args.text.now) c.in_ok-values.values.items c.in_ok-values.ensures.read
    c.in_ok-values.ensures.count)

pub returns-in_err-mutators-clause-first : goal.returns-in_err-mutators-clause-first
returns-in_err-mutators-clause-first c =
    let p = err_from_is_err_and c.from_residual-in_err-mutators.result c.from_residual-in_err-mutators.ensures.1 in
    let text = c.args.text.now in
    let v = c.in_ok-values.values.items in
    let few = λ (many : max_entries < all_entries (numbers_in v 0)). true≢false
    (sym (c.too_many_entries.ensures.1
    (subst (λ (w : List ℕ). max_entries < all_entries (numbers_in w 0)) (sym c.deref.ensures.0) many))
    ∙ c.if-too_many_entries.false) in
    let start = begins_at text v c.in_ok-values.ensures.read c.in_ok-values.ensures.count few
    (slice_index c.deref-2.result.now 7) c.settings.new.lines.line (lines_of c.settings.new.lines.rest.now)
    (ap (λ (w : List ℕ). slice_index w 7) c.deref-2.ensures.0) c.in_ok-values.ensures.line c.in_ok-values.ensures.left
    in
    rw (p.1, p.2) (c.in_err-mutators.ensures.fault text start)

pub returns-then-mutators-eq0-clause-first : goal.returns-then-mutators-eq0-clause-first
returns-then-mutators-eq0-clause-first c =
    let text = c.args.text.now in
    let v = c.in_ok-values.values.items in
    let few = λ (many : max_entries < all_entries (numbers_in v 0)). true≢false
    (sym (c.too_many_entries.ensures.1
    (subst (λ (w : List ℕ). max_entries < all_entries (numbers_in w 0)) (sym c.deref.ensures.0) many))
    ∙ c.if-too_many_entries.false) in
    let start = begins_at text v c.in_ok-values.ensures.read c.in_ok-values.ensures.count few
    (slice_index c.deref-2.result.now 7) c.settings.new.lines.line (lines_of c.settings.new.lines.rest.now)
    (ap (λ (w : List ℕ). slice_index w 7) c.deref-2.ensures.0) c.in_ok-values.ensures.line c.in_ok-values.ensures.left
    in
    let end = c.in_ok-mutators.ensures.ended text start in
    subst (λ (kind : Kind). IsFirstFault text kind c.fault.result.line) (sym c.fault.ensures.0)
    (no_section text (slice_index c.deref-2.result.now 7) c.in_ok-mutators.mutators end.commands end.line ([] ∷
    []) end.between refl (omega (arith, c.if-mutators-eq0.true))
    c.fault.result.line (c.fault.ensures.1 ∙ end.behind))

pub returns-then-is_err-clause-first : goal.returns-then-is_err-clause-first
returns-then-is_err-clause-first c =
    let text = c.args.text.now in
    let v = c.in_ok-values.values.items in
    let few = λ (many : max_entries < all_entries (numbers_in v 0)). true≢false
    (sym (c.too_many_entries.ensures.1
    (subst (λ (w : List ℕ). max_entries < all_entries (numbers_in w 0)) (sym c.deref.ensures.0) many))
    ∙ c.if-too_many_entries.false) in
    let start = begins_at text v c.in_ok-values.ensures.read c.in_ok-values.ensures.count few
    (slice_index c.deref-2.result.now 7) c.settings.new.lines.line (lines_of c.settings.new.lines.rest.now)
    (ap (λ (w : List ℕ). slice_index w 7) c.deref-2.ensures.0) c.in_ok-values.ensures.line c.in_ok-values.ensures.left
    in
    let end = c.in_ok-mutators.ensures.ended text start in
    let numbers = c.numbers_of.ensures
    ∙ ap (λ (w : List ℕ). numbers_in w c.in_ok-mutators.mutators) c.deref-3.ensures.0 in
    words_first text v c.in_ok-values.ensures.read c.in_ok-values.ensures.count few
    (slice_index c.deref-2.result.now 7) c.in_ok-mutators.mutators c.sections.new.lines.line
    c.in_ok-mutators.mutators
    c.numbers_of.result c.new.result end refl
    (λ zero. omega (arith, zero, c.if-mutators-eq0.false)) c.in_ok-mutators.ensures.count numbers
    (sym c.if-is_err.ensures.value) c.new.ensures.fault

pub returns-clause-script : goal.returns-clause-script
returns-clause-script c =
    let text = c.args.text.now in
    let left = lines_of c.settings.new.lines.rest.now in
    let read = c.in_ok-mutators.ensures.read in
    let sections = subst (λ (v : List ℕ). AreSections (slice_index v 7) left read.0) c.deref-2.ensures.0 read.1 in
    let numbers = c.numbers_of.ensures ∙ (λ i. numbers_in (c.deref-3.ensures.0 i) (read.2 i)) in
    has_script text c.in_ok-values.values.items read.0 c.numbers_of.result left c.new.result c.in_ok-values.ensures.read
    c.in_ok-values.ensures.count
    c.in_ok-values.ensures.left sections numbers (sym c.if-is_err.ensures.value) c.new.ensures.shape
