-- What tracing, and rings, flags and polls, read of a server's tracing machine.
use Rattle.std.specs.Prelude.{slice_index}
use Rattle.mako_words.specs.Names.{name_word}
use Rattle.mako_ring.specs.Facets.{Doing, resting, sending, storing, taking, clearing, ServerFacet}
use Rattle.mako_ring.specs.TraceFacets.{Hand, empty, considering, marking, pushing, Off, nothing, popped, located, Work}
use Rattle.mako_ring.specs.TraceFacets.{is_working}
use Rattle.mako_ring.specs.Tracing.{TracerView, owner, window_of}
use Rattle.mako_ring.specs.declared.tracing.SendStage.TheVariants.{HeadLook, GhostRaise, HeadStore}
use Rattle.mako_ring.specs.declared.tracing.ScanStage.TheVariants.{FieldLoad, EntryLoad, HeaderLoad}
use Rattle.mako_ring.specs.declared.tracing.ReceiveStage.TheVariants.{SlotLook, BusyRaise, SlotClear}
use Rattle.mako_ring.specs.declared.tracing.MarkStage.TheVariants.{Considering, Measuring, Marking as EntryMark}
use Rattle.mako_ring.specs.declared.tracing.MarkStage.TheVariants.{Counting}
use Rattle.mako_ring.specs.declared.tracing.TraceStage.{TraceStage}
use Rattle.mako_ring.specs.declared.tracing.TraceStage.TheVariants.{Sending, Scanning, Receiving, Marking, Resting}
use Rattle.mako_ring.specs.declared.tracing.TraceStage.TheVariants.{Ended}

-- the name in hand
abbrev pub hand_of : TraceStage → Hand
hand_of (Sending stage) = empty
hand_of (Scanning stage) = empty
hand_of (Receiving stage) = empty
hand_of (Marking (Considering x)) = considering x
hand_of (Marking (Measuring x e)) = marking x e
hand_of (Marking (EntryMark x e fields)) = marking x e
hand_of (Marking (Counting x fields)) = pushing x
hand_of (Resting stage) = empty
hand_of Ended = empty

-- the entry taken off the stack, whose scan has not begun
abbrev pub off_of : TraceStage → Off
off_of (Sending stage) = nothing
off_of (Scanning (FieldLoad s)) = nothing
off_of (Scanning (EntryLoad x)) = popped x
off_of (Scanning (HeaderLoad x address)) = located x address
off_of (Receiving stage) = nothing
off_of (Marking stage) = nothing
off_of (Resting stage) = nothing
off_of Ended = nothing

-- what it has to trace
abbrev pub work_of : TracerView → Work
work_of t = record {
  server = t.server;
  hand = hand_of t.stage;
  outgoing = t.outgoing;
  stack = t.stack;
  off = off_of t.stage;
  scan = t.scan;
}

-- what it is about to do on a ring
abbrev pub doing_of : TracerView → TraceStage → Doing
doing_of t (Sending (HeadLook x)) = resting
doing_of t (Sending (GhostRaise x)) = sending (owner t.shape x)
doing_of t (Sending (HeadStore x)) = storing (owner t.shape x)
doing_of t (Scanning stage) = resting
doing_of t (Receiving (SlotLook source)) = resting
doing_of t (Receiving (BusyRaise source x)) = taking source (name_word x)
doing_of t (Receiving (SlotClear source x)) = clearing source (name_word x)
doing_of t (Marking stage) = resting
doing_of t (Resting stage) = resting
doing_of t Ended = resting

-- what rings, flags and polls read of it
abbrev pub serving_of : TracerView → ServerFacet
serving_of t = record {
  working = is_working (work_of t);
  work_at = t.work_at;
  ghost_at = λ a. slice_index t.ghost_at a;
  window = λ r. window_of t r;
  doing = doing_of t t.stage;
}
