-- Each kind of step keeps what is kept of tracing.
use Rattle.std.proofs.Common.{ℕ, sym, subst}
use Rattle.mako_shape.specs.declared.numbers.Numbers.{Numbers}
use Rattle.mako_shape.specs.Places.{Place, work, ghost}
use Rattle.mako_model.specs.Legal.{Facts}
use Rattle.mako_ring.specs.Shades.{IsShadeSlot}
use Rattle.mako_shades.specs.Serving.{Tracks}
use Rattle.mako_shades.specs.Stands.{HeapStands}
use Rattle.mako_shades.specs.Steps.{TraceScene, IsIncoming, TraceStep, Unseen, Decides, Makes, Finds, Passes, GivesUp}
use Rattle.mako_shades.specs.Steps.{Shades, Stores, Forwards, Gathers, Takes, Dismisses, LooksUp, Marks, Pushes}
use Rattle.mako_shades.specs.Steps.{TakesOff, Locates, Skips, Begins, ScansOwn, ScansForeign, ScansOn, Sends}
use Rattle.mako_shades.proofs.Servers.{server_takes, server_dismisses, server_looks_up, server_marks, server_pushes}
use Rattle.mako_shades.proofs.Servers.{server_takes_off, server_locates, server_skips, server_begins, server_finds_own}
use Rattle.mako_shades.proofs.Servers.{server_finds_foreign, server_finds_none, server_sends}
use Rattle.mako_shades.proofs.Mutators.{goes_unseen, decides, mutator_finds, mutator_passes, mutator_gives_up}
use Rattle.mako_shades.proofs.Mutators.{mutator_shades, mutator_stores, mutator_makes, collector_forwards}
use Rattle.mako_shades.proofs.Mutators.{collector_gathers}

incoming_slot : (p : Place) → IsIncoming p → IsShadeSlot p
incoming_slot (work s slot) is = tt
incoming_slot (ghost sender receiver slot) is = tt
incoming_slot p is = absurd is

module _ (n : Numbers) (w : Facts) (cycle : ℕ) (s after : TraceScene) (st : HeapStands n w s.words s.history)
    (t : Tracks n w s.words s.facets s.history cycle) where
  abbrev Kept : TraceScene → Type 0
  Kept a = Tracks n w a.words a.facets a.history cycle

  pub step_kept : TraceStep n w cycle s after → Tracks n w after.words after.facets after.history cycle
  step_kept (Unseen words agree e) =
      subst Kept (sym e) (goes_unseen n w s.words s.facets s.history cycle st t words agree)
  step_kept (Decides words agree m c r lawful plain e) =
      subst Kept (sym e) (decides n w s.words s.facets s.history cycle st t words agree m c r lawful plain)
  step_kept (Makes seat m root count x word here may e) =
      subst Kept (sym e) (mutator_makes n w s.words s.facets s.history cycle st t seat here m root count x may.has
      may.fresh may.within may.free word may.taken may.generation may.epoch)
  step_kept (Finds seat m root object fields field address old here may found e) =
      subst Kept (sym e) (mutator_finds n w s.words s.facets s.history cycle st t seat m root object fields may.refers
      field may.inside address may.address_is here old found)
  step_kept (Passes seat m root object fields field address here may none e) =
      subst Kept (sym e) (mutator_passes n w s.words s.facets s.history cycle st t seat m root object fields
      may.refers field may.inside address may.address_is here none)
  step_kept (GivesUp seat object field old here e) =
      subst Kept (sym e) (mutator_gives_up n w s.words s.facets s.history cycle st t seat object field old here)
  step_kept (Shades seat object field old m slot here within free e) =
      subst Kept (sym e) (mutator_shades n w s.words s.facets s.history cycle st t seat object field old here m slot
      within free)
  step_kept (Stores seat m to from field object fields v words here refers inside root_is agree e) =
      subst Kept (sym e) (mutator_stores n w s.words s.facets s.history cycle st t seat words agree m to from field
      object fields v refers inside root_is here)
  step_kept (Forwards seat x rest server slot here within free e) =
      subst Kept (sym e) (collector_forwards n w s.words s.facets s.history cycle st t seat x rest here server slot
      within free)
  step_kept (Gathers seat names x m slot here within fits is e) =
      subst Kept (sym e) (collector_gathers n w s.words s.facets s.history cycle st t seat names here m slot within x
      fits is)
  step_kept (Takes seat job p x here hand incoming within fits found own e) =
      subst Kept (sym e) (server_takes n w s.words s.facets s.history cycle st t seat job here hand p
      (incoming_slot p incoming) within x fits found own)
  step_kept (Dismisses seat job x here hand epoch e) =
      subst Kept (sym e) (server_dismisses n w s.words s.facets s.history cycle st t seat job here x hand epoch)
  step_kept (LooksUp seat job x here hand other e) =
      subst Kept (sym e) (server_looks_up n w s.words s.facets s.history cycle st t seat job here x hand other)
  step_kept (Marks seat job x k word here hand is e) =
      subst Kept (sym e) (server_marks n w s.words s.facets s.history cycle st t seat job here x k hand word is)
  step_kept (Pushes seat job x here hand e) =
      subst Kept (sym e) (server_pushes n w s.words s.facets s.history cycle st t seat job here x hand)
  step_kept (TakesOff seat job rest k here stack none e) =
      subst Kept (sym e) (server_takes_off n w s.words s.facets s.history cycle st t seat job here rest k stack none)
  step_kept (Locates seat job k here off e) =
      subst Kept (sym e) (server_locates n w s.words s.facets s.history cycle st t seat job here k off)
  step_kept (Skips seat job k address here off none e) =
      subst Kept (sym e) (server_skips n w s.words s.facets s.history cycle st t seat job here k address off none)
  step_kept (Begins seat job k address here off none some e) =
      subst Kept (sym e) (server_begins n w s.words s.facets s.history cycle st t seat job here k address off none some)
  step_kept (ScansOwn seat job scan x here scanning hand found own e) =
      subst Kept (sym e) (server_finds_own n w s.words s.facets s.history cycle st t seat job here scan scanning x
      found hand own)
  step_kept (ScansForeign seat job scan x here scanning none found e) =
      subst Kept (sym e) (server_finds_foreign n w s.words s.facets s.history cycle st t seat job here scan scanning x
      found none)
  step_kept (ScansOn seat job scan here scanning none e) =
      subst Kept (sym e) (server_finds_none n w s.words s.facets s.history cycle st t seat job here scan scanning none)
  step_kept (Sends seat job x sender receiver slot here out within free e) =
      subst Kept (sym e) (server_sends n w s.words s.facets s.history cycle st t seat job here x out sender receiver
      slot within free)
