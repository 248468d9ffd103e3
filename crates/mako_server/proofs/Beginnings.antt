-- What a server begins with, and what its tracing and its evacuations begin with.
use Rattle.std.proofs.Common.{ℕ, ◌<◌, ◌==◌, Option, Some, None, nat_lt, if◌then◌else◌, length, take, replicate, ◌-◌}
use Rattle.std.proofs.Common.{slice_index, arith}
use Rattle.std.proofs.lemmas.List.{length-replicate}
use Rattle.std.proofs.lemmas.List.Elements.{All-nil, All-replicate}
use Rattle.mako_words.specs.declared.name.Name.{Name}
use Rattle.mako_shape.specs.declared.numbers.Numbers.{Numbers}
use Rattle.mako_shape.specs.Limits.{IsShape, all_entries}
use Rattle.mako_step.specs.Machines.{IsAct}
use Rattle.mako_step.proofs.Cases.{by_bool}
use Rattle.mako_ring.specs.Tracing as tracing
use Rattle.mako_ring.specs.Tracing.{TracerView, no_window, at_stage, work_on, next_work, new_tracer, begun}
use Rattle.mako_ring.specs.Windows.{IsWindow}
use Rattle.mako_ring.specs.declared.tracing.Scan.{Scan}
use Rattle.mako_ring.specs.declared.tracing.Source.TheVariants.{Collector}
use Rattle.mako_ring.specs.declared.tracing.ScanStage.TheVariants.{EntryLoad}
use Rattle.mako_ring.specs.declared.tracing.ReceiveStage.TheVariants.{SlotLook}
use Rattle.mako_ring.specs.declared.tracing.TraceStage.TheVariants.{Scanning, Receiving}
use Rattle.mako_trace.specs.Held.{IsKnown as TracerIsKnown}
use Rattle.mako_evac.specs.Evacuating as evacuating
use Rattle.mako_evac.specs.declared.owner.Owner.{Owner}
use Rattle.mako_evac.specs.declared.stage.EvacStage.TheVariants.{Evacuating, Freeing}
use Rattle.mako_evac.specs.declared.tablet.TabletStage.TheVariants.{LoadingLeaving}
use Rattle.mako_evac.specs.declared.freeing.FreeStage.TheVariants.{Loading}
use Rattle.mako_evac.specs.Owners.{IsOwner, first_tablet, tablets_end, first_entry}
use Rattle.mako_evac.proofs.Going.{tablet_known}

-- a tracing that has not begun is known
pub new_tracer_known : (n : Numbers) (s : ℕ) → IsShape n → s < n.servers → TracerIsKnown (new_tracer n s)
new_tracer_known n s shape server =
    let each = shape.in_range.each in
    record {
      held = record {
        shape = shape;
        server = server;
        cycle = omega arith;
        stack = All-nil (λ x. x < all_entries n);
        scan = tt;
        outgoing = tt;
        windows_are = length-replicate n.servers no_window;
        windows = All-replicate (IsWindow n.ring) n.servers no_window (record {
          tail_below = omega (arith, each);
          ordered = omega arith;
          few = omega arith;
        });
        work_at = omega (arith, each);
        ghost_at_are = length-replicate n.servers 0;
        ghost_at = All-replicate (λ at. at < n.ring) n.servers 0 (omega (arith, each));
        lives_are = length-replicate n.tablets 0;
      };
      stage = tt;
    }

-- a turn of the tracing begins with an act
work_acts : (t : TracerView) (o : Option Name) (s : Option Scan) → IsAct (tracing.next_of (work_on t o s))
work_acts t (Some x) s = tt
work_acts t None (Some s) = tt
work_acts t None None = by_bool
    (λ b. IsAct (tracing.next_of
    (if b then at_stage t (Receiving (SlotLook Collector)) else record t {
      stack =
          take (length t.stack - 1) t.stack;
      stage = Scanning (EntryLoad (slice_index t.stack (length t.stack - 1)));
    })))
    (length t.stack == 0) (λ _. tt) (λ _. tt)

pub begun_acts : (t : TracerView) (c : ℕ) → IsAct (tracing.next_of (begun t c))
begun_acts t c = work_acts (record t {
  cycle = c;
  lives = if c == t.cycle then t.lives else replicate t.shape.tablets 0;
}) t.outgoing t.scan

-- an evacuation begins with an act
pub opening_acts : (o : Owner) (at : ℕ) → IsAct (evacuating.next_of (evacuating.opening o at))
opening_acts o at = by_bool
    (λ b. IsAct (evacuating.stage_next o (evacuating.slot_at o at)
    (if b then Evacuating (first_tablet o) LoadingLeaving else Freeing
    (first_entry o.shape (first_tablet o)) Loading)))
    (nat_lt (first_tablet o) (tablets_end o)) (λ _. tt) (λ _. tt)

-- and is known
pub opening_known : (o : Owner) (at : ℕ) → IsOwner o → at < o.shape.ring → evacuating.IsKnown (evacuating.opening o at)
opening_known o at owner below =
    record { owner = owner; at = below; stage = tablet_known o (first_tablet o) owner (omega arith) }
