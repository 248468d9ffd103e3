-- What a tracer becomes at a stage is the same whatever stage it kept.
use Rattle.std.proofs.Common.{◌≡◌, ℕ, ◌+◌, ◌==◌, Bool, true, false, if◌then◌else◌, refl}
use Rattle.mako_step.specs.Machines.{IsAct}
use Rattle.mako_ring.specs.Tracing.{TracerView, window_of, set_window, at_stage, stage_next, windows_from, stage_fed}
use Rattle.mako_ring.specs.Windows.{tail_up}
use Rattle.mako_ring.specs.declared.window.Window.{Window}
use Rattle.mako_ring.specs.declared.tracing.Source.TheVariants.{Collector, Server}
use Rattle.mako_ring.specs.declared.tracing.SendStage.TheVariants.{HeadLook, GhostRaise, HeadStore}
use Rattle.mako_ring.specs.declared.tracing.ScanStage.TheVariants.{FieldLoad, EntryLoad, HeaderLoad}
use Rattle.mako_ring.specs.declared.tracing.ReceiveStage.TheVariants.{SlotLook, BusyRaise, SlotClear}
use Rattle.mako_ring.specs.declared.tracing.MarkStage.TheVariants.{Considering, Measuring, Marking as EntryMark}
use Rattle.mako_ring.specs.declared.tracing.MarkStage.TheVariants.{Counting}
use Rattle.mako_ring.specs.declared.tracing.RestStage.TheVariants.{BusyLower, TailLook, GhostLower}
use Rattle.mako_ring.specs.declared.tracing.TraceStage.{TraceStage}
use Rattle.mako_ring.specs.declared.tracing.TraceStage.TheVariants.{Sending, Scanning, Receiving, Marking, Resting}
use Rattle.mako_ring.specs.declared.tracing.TraceStage.TheVariants.{Ended}

-- the tracer at its end, as far as the stage is not read
abbrev pub unstaged : TracerView → TracerView
unstaged t = at_stage t Ended

pub fed_at : (t : TracerView) (s : TraceStage) (w : ℕ) → IsAct (stage_next t s)
    → stage_fed (unstaged t) s w ≡ stage_fed t s w
fed_at t (Sending (HeadLook x)) w acts = refl
fed_at t (Sending (GhostRaise x)) w acts = refl
fed_at t (Sending (HeadStore x)) w acts = refl
fed_at t (Scanning (FieldLoad s)) w acts = refl
fed_at t (Scanning (EntryLoad x)) w acts = refl
fed_at t (Scanning (HeaderLoad x address)) w acts = refl
fed_at t (Receiving (SlotLook source)) w acts = refl
fed_at t (Receiving (BusyRaise source x)) w acts = refl
fed_at t (Receiving (SlotClear Collector x)) w acts = refl
fed_at t (Receiving (SlotClear (Server a) x)) w acts = refl
fed_at t (Marking (Considering x)) w acts = refl
fed_at t (Marking (Measuring x e)) w acts = refl
fed_at t (Marking (EntryMark x e fields)) w acts = refl
fed_at t (Marking (Counting x fields)) w acts = refl
fed_at t (Resting BusyLower) w acts = refl
fed_at t (Resting (TailLook r)) w acts = looked (w == 0)
  where
    seen : Window
    seen = tail_up t.shape.ring (window_of t r)

    looked : (b : Bool) → windows_from (if b then set_window (unstaged t) r seen else unstaged t) (r + 1) ≡ windows_from
        (if b then set_window t r seen else t) (r + 1)
    looked true = refl
    looked false = refl
fed_at t (Resting GhostLower) w acts = refl
fed_at t Ended w acts = absurd acts
