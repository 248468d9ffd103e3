use Rattle.std.proofs.Common.{◌*◌, refl, sym, ◌∙◌, arith}
use Rattle.mako_model.specs.Starved.{IsEntryUnavailable}
use Rattle.mako_judge.specs.Trials.{script, front}
use Rattle.mako_judge.proofs.Kept.{false_true}
use Rattle.mako_judge.proofs.Starving.{no_entries, not_zero_iff, tablet_at, in_tablet, between_more}
use Rattle.mako_judge.proofs.trial.Trial.are_entries_unavailable.Goals as goal

pub returns-then-entries-eq0 : goal.returns-then-entries-eq0
returns-then-entries-eq0 c =
    no_entries (script c.args.self.now)
    (front c.args.self.now) c.args.before.now c.args.cycle c.args.tablet _ c.if-entries-eq0.true
    (not_zero_iff c.args.tablet)

pub returns-then-not-is_entry_unavailable : goal.returns-then-not-is_entry_unavailable
returns-then-not-is_entry_unavailable c = (
  (λ t. absurd (false_true t)),
  (λ all. absurd (false_true (sym c.if-not-is_entry_unavailable.true
      ∙ c.is_entry_unavailable.ensures.1
      (all c.loop-entry.entry
      (tablet_at c.loop-entry.entry c.args.self.now.setup.now.entries c.args.tablet (omega arith) (omega arith)))))),
)

pub loop-entry-preserved : goal.loop-entry-preserved
loop-entry-preserved c =
    between_more (IsEntryUnavailable (script c.args.self.now) (front c.args.self.now) c.args.before.now c.args.cycle)
    (c.args.tablet * c.args.self.now.setup.now.entries) c.loop-entry.entry c.loop-entry.invariant
    (c.is_entry_unavailable.ensures.0 c.if-not-is_entry_unavailable.false)

pub returns : goal.returns
returns c = (
  (λ t entry e.
      let some = c.if-entries-eq0.false in
      let at = in_tablet entry c.args.self.now.setup.now.entries c.args.tablet (omega arith) e in
      c.loop-entry.invariant entry at.0 (omega arith)),
  (λ all. refl),
)
