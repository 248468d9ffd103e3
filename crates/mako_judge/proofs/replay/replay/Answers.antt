use Rattle.std.proofs.Common.{◌≡◌, ℕ, ◌++◌, ◌∷◌, [], length, get_or, take, cond, true, sym, ap, subst, ◌∙◌, arith}
use Rattle.std.proofs.lemmas.Option.{slice_get-get_or}
use Rattle.mako_model.specs.Heaps.{opening}
use Rattle.mako_judge.proofs.Kept.{false_true}
use Rattle.std.proofs.lemmas.List.{length-map, take_more}
use Rattle.mako_model.specs.Lawful.{IsLawful, heap_after}
use Rattle.mako_model.specs.Legal.{Facts, opening_of, state_of}
use Rattle.mako_judge.specs.declared.verdict.Clause.TheVariants.{Legal}
use Rattle.mako_judge.specs.Deaths.{lists_in, AreDeaths}
use Rattle.mako_judge.specs.Setups.{script_of, front_of}
use Rattle.mako_judge.proofs.Calling.{blank}
use Rattle.mako_judge.proofs.Replaying.{no_deaths, heap_more, holds_more, at_read}
use Rattle.mako_judge.proofs.replay.replay.Goals as goal

pub loop-place-preserved : goal.loop-place-preserved
loop-place-preserved c =
    let w = script_of c.args.setup.now in
    let points = c.args.points.now in
    let i = c.loop-place.place in
    let p = get_or points i blank in
    let went : c.in_ok-apply.field-0 ≡ true = c.if-not-branch.false in
    let lawful : IsLawful c.loop-place.heap p = c.in_ok-apply.ensures.lawful.0 went in
    let change = c.in_ok-apply.ensures.change in
    let changed : c.apply.new.self ≡ heap_after c.loop-place.heap p = change
    ∙ ap (λ b. cond b (heap_after c.loop-place.heap p) c.loop-place.heap) went in
    let noted : (v : Facts) → c.loop-place.heap ≡ state_of v (take i points)
    → AreDeaths v (take i points) (lists_in c.loop-place.deaths) → IsLawful c.loop-place.heap p
    → AreDeaths v (take i points ++ p ∷ []) (lists_in c.note.new.deaths) = c.in_ok-note.ensures in
    record {
      heap = heap_more w points i c.loop-place.heap c.apply.new.self c.loop-place-test.true c.loop-place.invariant.heap
          changed;
      deaths = subst (λ ps. AreDeaths w ps (lists_in c.note.new.deaths))
          (sym (take_more points i blank c.loop-place-test.true))
          (noted w c.loop-place.invariant.heap c.loop-place.invariant.deaths lawful);
      lawful = holds_more w (front_of points []) Legal i
          (at_read (IsLawful (state_of w (take i points))) points i
          (subst (λ h. IsLawful h p) c.loop-place.invariant.heap lawful)) c.loop-place.invariant.lawful;
    }

pub loop-place-init : goal.loop-place-init
loop-place-init c =
    let s = c.args.setup.now in
    let rows = s.programs.items in
    let count : c.len.result ≡ length rows = omega arith in
    let opened : c.in_ok-heap.heap ≡ opening_of (script_of s) =
    c.in_ok-heap.ensures
    ∙ ap (λ (n : ℕ). opening n s.roots s.board s.cycles) (count ∙ sym (length-map rows (λ calls. calls.items))) in
    record {
      heap = opened;
      deaths = no_deaths (script_of s) (lists_in c.new-deaths.result) c.new-deaths.ensures;
      lawful = λ place point l at. absurd (omega arith);
    }

pub returns-then-not-branch : goal.returns-then-not-branch
returns-then-not-branch c =
    let points = c.args.points.now in
    let i = c.loop-place.place in
    let p = get_or points i blank in
    record {
      point = p;
      there = slice_get-get_or points i blank c.loop-place-test.true;
      broken = λ lawful. false_true (sym c.if-not-branch.true
          ∙ c.in_ok-apply.ensures.lawful.1 (subst (λ h. IsLawful h p) (sym c.loop-place.invariant.heap) lawful));
      before = c.loop-place.invariant.lawful;
    }
