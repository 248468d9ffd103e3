-- What a server writes, by its stage.
use Rattle.std.proofs.Common.{◌≡◌, ℕ, ◌+◌, ◌-◌, ◌*◌, ◌/◌, ◌%◌, ◌<◌, add-mul, inl, inr, slice_index, sym, ap, subst, ◌∙◌}
use Rattle.std.proofs.Common.{refl, arith}
use Rattle.std.proofs.lemmas.Nat.{mod_below, div-mul-add}
use Rattle.std.proofs.lemmas.List.Elements.{All-get_or}
use Rattle.std.proofs.Math.Nat.{le-div_iff_mul-le}
use Rattle.mako_words.specs.declared.name.Name.{Name}
use Rattle.mako_step.specs.Acts.{does}
use Rattle.mako_step.specs.declared.act.Op.{Op}
use Rattle.mako_step.specs.declared.act.Op.TheVariants.{Store}
use Rattle.mako_shape.specs.declared.numbers.Numbers.{Numbers}
use Rattle.mako_shape.specs.Places.{Place, flags, work, ghost, notice, tablet_gate, top, leaving, live, entry, index}
use Rattle.mako_shape.specs.Places.{region_word}
use Rattle.mako_shape.specs.Belongings.{tablet_of_entry, server_of_entry, server_of_tablet}
use Rattle.mako_shape.proofs.BelongingLaws.{belongings_in_range}
use Rattle.mako_shape.proofs.Rows.{row-below, row-and-column, div-below, width}
use Rattle.mako_record.specs.Copying as copying
use Rattle.mako_ring.specs.Tracing as tracing
use Rattle.mako_ring.specs.Tracing.{TracerView, owner, window_of, slot_of}
use Rattle.mako_ring.specs.TraceFacets.{Hand, empty, InHand}
use Rattle.mako_ring.specs.TracerFacets.{hand_of}
use Rattle.mako_ring.specs.declared.tracing.Source.{Source}
use Rattle.mako_ring.specs.declared.tracing.Source.TheVariants.{Collector, Server}
use Rattle.mako_ring.specs.declared.tracing.SendStage.{SendStage}
use Rattle.mako_ring.specs.declared.tracing.SendStage.TheVariants.{HeadLook, GhostRaise, HeadStore}
use Rattle.mako_ring.specs.declared.tracing.ScanStage.{ScanStage}
use Rattle.mako_ring.specs.declared.tracing.ScanStage.TheVariants.{FieldLoad, EntryLoad, HeaderLoad}
use Rattle.mako_ring.specs.declared.tracing.ReceiveStage.{ReceiveStage}
use Rattle.mako_ring.specs.declared.tracing.ReceiveStage.TheVariants.{SlotLook, BusyRaise, SlotClear}
use Rattle.mako_ring.specs.declared.tracing.MarkStage.{MarkStage}
use Rattle.mako_ring.specs.declared.tracing.MarkStage.TheVariants.{Considering, Measuring, Marking as EntryMark}
use Rattle.mako_ring.specs.declared.tracing.MarkStage.TheVariants.{Counting}
use Rattle.mako_ring.specs.declared.tracing.RestStage.{RestStage}
use Rattle.mako_ring.specs.declared.tracing.RestStage.TheVariants.{BusyLower, TailLook, GhostLower}
use Rattle.mako_ring.specs.declared.tracing.TraceStage.{TraceStage}
use Rattle.mako_ring.specs.declared.tracing.TraceStage.TheVariants.{Sending, Scanning, Receiving, Marking, Resting}
use Rattle.mako_ring.specs.declared.tracing.TraceStage.TheVariants.{Ended as AtEnd}
use Rattle.mako_trace.specs.Held as held
use Rattle.mako_evac.specs.Evacuating as evacuating
use Rattle.mako_evac.specs.Evacuating.{Evacuation}
use Rattle.mako_evac.specs.Freeing as freed
use Rattle.mako_evac.specs.Owners.{tablets_end, IsOwner, IsOwnTablet, IsOwnEntry, IsEntryOf}
use Rattle.mako_evac.specs.Tablets as tablets
use Rattle.mako_evac.specs.declared.owner.Owner.{Owner}
use Rattle.mako_evac.specs.declared.stage.EvacStage.{EvacStage}
use Rattle.mako_evac.specs.declared.stage.EvacStage.TheVariants.{Evacuating as AtTablet, Freeing, AwaitingEnd}
use Rattle.mako_evac.specs.declared.stage.EvacStage.TheVariants.{TellingEnd, Ended as Evacuated}
use Rattle.mako_evac.specs.declared.tablet.TabletStage.{TabletStage}
use Rattle.mako_evac.specs.declared.tablet.TabletStage.TheVariants.{LoadingLeaving, Shutting, Draining, LoadingHome}
use Rattle.mako_evac.specs.declared.tablet.TabletStage.TheVariants.{LoadingEntry, Copying as Copies, Clearing}
use Rattle.mako_evac.specs.declared.tablet.TabletStage.TheVariants.{Reopening}
use Rattle.mako_evac.specs.declared.freeing.FreeStage.{FreeStage}
use Rattle.mako_evac.specs.declared.freeing.FreeStage.TheVariants.{Loading, Storing, Awaiting, Telling}
use Rattle.mako_server.specs.Serving as serving
use Rattle.mako_server.specs.Serving.{Serving}
use Rattle.mako_server.specs.declared.stage.ServerStage.{ServerStage}
use Rattle.mako_server.specs.declared.stage.ServerStage.TheVariants.{Turning, Tracing, Evacuating, Ended}
use Rattle.mako_writes.specs.Writes.{ServersWrite, ServerWrites}
use Rattle.mako_writes.proofs.Copies.{copies}
use Rattle.mako_writes.proofs.Touching.{Leaves, looks, at_place, ends, weaker}

-- ---- which of a server's places

-- the hand has a name
abbrev pub HasSome : Hand → Type 0
HasSome empty = ⊥
HasSome h = Unit {0}

-- where it traces: flags, slots of incoming rings, entries, and a live word for a name that was marked
abbrev pub TracerWrites : Hand → Place → Type 0
TracerWrites h (flags k) = Unit {0}
TracerWrites h (work k slot) = Unit {0}
TracerWrites h (ghost sender receiver slot) = Unit {0}
TracerWrites h (live t) = HasSome h
TracerWrites h (entry x) = Unit {0}
TracerWrites h p = ⊥

-- it tells something here
abbrev pub Tells : EvacStage → Type 0
Tells (Freeing x (Telling generation)) = Unit {0}
Tells TellingEnd = Unit {0}
Tells stage = ⊥

-- where it evacuates: gates, tops, leaving, entries and records, and where it tells something the notice slot
abbrev pub ClearingWrites : ℕ → EvacStage → Place → Type 0
ClearingWrites at stage (notice k slot) = (slot ≡ at) × Tells stage
ClearingWrites at stage (tablet_gate t) = Unit {0}
ClearingWrites at stage (top t) = Unit {0}
ClearingWrites at stage (leaving t) = Unit {0}
ClearingWrites at stage (entry x) = Unit {0}
ClearingWrites at stage (region_word r o) = Unit {0}
ClearingWrites at stage p = ⊥

-- a server writes within both
abbrev pub TracingWrites : TracerView → Place → Type 0
TracingWrites t p = ServerWrites t.shape t.server p × TracerWrites (hand_of t.stage) p

abbrev pub EvacuationWrites : Owner → ℕ → EvacStage → Place → Type 0
EvacuationWrites o at stage p = ServerWrites o.shape o.server p × ClearingWrites at stage p

-- ---- tracing
module _ (t : TracerView) (known : held.IsKnown t)
    (own : (x : Name) → InHand (hand_of t.stage) x → server_of_entry t.shape x.entry ≡ t.server) where
  abbrev n : Numbers
  n = t.shape

  abbrev W : Place → Type 0
  W = TracingWrites t

  slot_low : (i : ℕ) → i % n.ring < n.ring
  slot_low i = let at = known.held.work_at in mod_below i n.ring (omega arith)

  raised : (op : Op) → Leaves n W (does (index n (flags t.server)) op)
  raised op = at_place n W (flags t.server) op known.held.server (refl, tt)

  sending : (s : SendStage) → held.SendKnown t s → Leaves n W (tracing.send_next t s)
  sending (HeadLook x) is = looks n W _
  sending (GhostRaise x) is = raised _
  sending (HeadStore x) is =
      at_place n W (tracing.head_slot t x) _ (
        known.held.server,
        belongings_in_range.tablet n (tablet_of_entry n x.entry)
            (belongings_in_range.entry n x.entry is.0.1),
        slot_low _,
      ) (inl refl, tt)

  scanning : (s : ScanStage) → Leaves n W (tracing.scan_next t s)
  scanning (FieldLoad s) = looks n W _
  scanning (EntryLoad x) = looks n W _
  scanning (HeaderLoad x address) = looks n W _

  cleared : (s : Source) → held.SourceKnown n s → (op : Op) → Leaves n W (does (index n (slot_of t s)) op)
  cleared Collector is op = at_place n W (work t.server t.work_at) op (known.held.server, known.held.work_at)
      (refl, tt)
  cleared (Server a) is op =
      at_place n W (ghost a t.server (slice_index t.ghost_at a)) op (
        is,
        known.held.server,
        All-get_or (λ at. at < n.ring) t.ghost_at a 0 (let count = known.held.ghost_at_are in
            omega arith) known.held.ghost_at,
      )
      (inr refl, tt)

  receiving : (s : ReceiveStage) → held.ReceiveKnown t s → Leaves n W (tracing.receive_next t s)
  receiving (SlotLook source) is = looks n W _
  receiving (BusyRaise source x) is = raised _
  receiving (SlotClear source x) is = cleared source is.0 _

  marking : (s : MarkStage) → t.stage ≡ Marking s → held.MarkKnown t s → Leaves n W (tracing.mark_next t s)
  marking (Considering x) at is = looks n W _
  marking (Measuring x e) at is = looks n W _
  marking (EntryMark x e fields) at is =
      at_place n W (entry x.entry) _ is.0.0 (own x (subst (λ s. InHand (hand_of s) x) (sym at) refl), tt)
  marking (Counting x fields) at is =
      at_place n W (live (tablet_of_entry n x.entry)) _ (belongings_in_range.entry n x.entry is.0)
      (own x (subst (λ s. InHand (hand_of s) x) (sym at) refl), subst (λ s. HasSome (hand_of s)) (sym at) tt)

  resting : (s : RestStage) → Leaves n W (tracing.rest_next t s)
  resting BusyLower = raised _
  resting (TailLook r) = looks n W _
  resting GhostLower = raised _

  pub traces : Leaves n W (tracing.next_of t)
  traces = by t.stage refl known.stage
    where
      by : (s : TraceStage) → t.stage ≡ s → held.StageKnown t s → Leaves n W (tracing.stage_next t s)
      by (Sending s) at is = sending s is
      by (Scanning s) at is = scanning s
      by (Receiving s) at is = receiving s is
      by (Marking s) at is = marking s at is
      by (Resting s) at is = resting s
      by AtEnd at is = ends n W

-- ---- evacuation
module _ (o : Owner) (is_owner : IsOwner o) where
  abbrev m : Numbers
  m = o.shape

  own_tablet : (t : ℕ) → IsOwnTablet o t → (t < m.servers * m.tablets) × (server_of_tablet m t ≡ o.server)
  own_tablet t is =
      let b : ℕ = t - o.server * m.tablets in
      let from = is.from in let below = is.below in
      let low : b < m.tablets = omega (arith, add-mul o.server 1 m.tablets) in
      let at : o.server * m.tablets + b ≡ t = omega arith in (
        subst (λ i. i < m.servers * m.tablets) at (row-below o.server m.tablets b m.servers is_owner.server low),
        subst (λ i. i / m.tablets ≡ o.server) at (div-mul-add o.server m.tablets b low),
      )

  pub own_entry : (x : ℕ) → IsOwnEntry o x
      → (x < m.servers * m.tablets * m.entries) × (server_of_entry m x ≡ o.server)
  own_entry x is =
      let some : 0 < m.entries = width x m.entries (tablets_end o) is.below in
      let own : IsOwnTablet o (x / m.entries) = record {
        from = (le-div_iff_mul-le some).1 is.from;
        below = div-below x m.entries (tablets_end o) is.below;
      } in
      let mine = own_tablet (x / m.entries) own in (
        subst (λ i. i < m.servers * m.tablets * m.entries) (row-and-column x m.entries)
            (row-below (x / m.entries) m.entries (x % m.entries) (m.servers * m.tablets) mine.0
            (mod_below x m.entries some)),
        mine.1,
      )

  -- an entry of an own tablet
  entry_of : (t x : ℕ) → IsOwnTablet o t → IsEntryOf m t x
      → (x < m.servers * m.tablets * m.entries) × (tablet_of_entry m x ≡ t)
  entry_of t x own is =
      let b : ℕ = x - t * m.entries in
      let from = is.from in let below = is.below in
      let low : b < m.entries = omega (arith, add-mul t 1 m.entries) in
      let at : t * m.entries + b ≡ x = omega arith in (
        subst (λ i. i < m.servers * m.tablets * m.entries) at
            (row-below t m.entries b (m.servers * m.tablets) (own_tablet t own).0 low),
        subst (λ i. i / m.entries ≡ t) at (div-mul-add t m.entries b low),
      )

  module _ (at : ℕ) (low : at < o.shape.ring) (stage : EvacStage) where
    abbrev V : Place → Type 0
    V = EvacuationWrites o at stage

    copied : (t region x : ℕ) (copy : copying.Copying) → IsOwnTablet o t → tablets.IsPlaced o t region x
        → tablets.IsCopyOf o region x copy → Leaves m V (copying.next_of copy)
    copied t region x copy own placed is =
        let here = entry_of t x own placed.entry_is in
        let mine : server_of_entry m copy.number ≡ o.server =
        subst (λ y. server_of_entry m y ≡ o.server) (sym is.number)
        (ap (server_of_tablet m) here.1 ∙ (own_tablet t own).1) in
        subst (λ k. Leaves k V (copying.next_of copy)) is.shape
        (copies copy.shape V (λ r i. (tt, tt)) copy.number is.known.number (mine, tt)
        (subst (λ k. server_of_tablet m (tablet_of_entry k copy.number) ≡ o.server) (sym is.shape) mine, tt)
        copy.entry copy.home is.known.home copy.stage is.known.stage)

    at_tablet : (t : ℕ) (s : TabletStage) → IsOwnTablet o t → tablets.TabletIsKnown o t s
        → Leaves m V (tablets.tablet_next o t s)
    at_tablet t LoadingLeaving own is = looks m V _
    at_tablet t Shutting own is = at_place m V (tablet_gate t) _ (own_tablet t own).0 ((own_tablet t own).1, tt)
    at_tablet t Draining own is = looks m V _
    at_tablet t LoadingHome own is = looks m V _
    at_tablet t (LoadingEntry region x) own is = looks m V _
    at_tablet t (Copies region x copy) own is = copied t region x copy own is.0 is.1
    at_tablet t Clearing own is = at_place m V (leaving t) _ (own_tablet t own).0 ((own_tablet t own).1, tt)
    at_tablet t Reopening own is = at_place m V (tablet_gate t) _ (own_tablet t own).0 ((own_tablet t own).1, tt)

    told : Tells stage → (v : ℕ) → Leaves m V (does (evacuating.slot_at o at) (Store v))
    told tells v = at_place m V (notice o.server at) _ (is_owner.server, low) (refl, (refl, tells))

    freeing : (x : ℕ) (s : FreeStage) → stage ≡ Freeing x s → IsOwnEntry o x
        → Leaves m V (freed.free_next o (evacuating.slot_at o at) x s)
    freeing x Loading here own = looks m V _
    freeing x (Storing generation) here own =
        at_place m V (entry x) _ (own_entry x own).0 ((own_entry x own).1, tt)
    freeing x (Awaiting generation) here own = looks m V _
    freeing x (Telling generation) here own = told (subst Tells (sym here) tt) _

    pub evacuates : evacuating.StageIsKnown o stage
        → Leaves m V (evacuating.stage_next o (evacuating.slot_at o at) stage)
    evacuates = by stage refl
      where
        by : (s : EvacStage) → stage ≡ s → evacuating.StageIsKnown o s
            → Leaves m V (evacuating.stage_next o (evacuating.slot_at o at) s)
        by (AtTablet t s) here is = at_tablet t s is.0 is.1
        by (Freeing x s) here is = freeing x s here is.0
        by AwaitingEnd here is = looks m V _
        by TellingEnd here is = told (subst Tells (sym here) tt) _
        by Evacuated here is = ends m V

evacuated : (t : TracerView) (e : Evacuation) → serving.EvacuationIsKnown t e
    → Leaves t.shape (ServerWrites t.shape t.server) (evacuating.next_of e)
evacuated t e is =
    let o = e.owner in
    subst (λ k. Leaves k (ServerWrites k t.server) (evacuating.next_of e)) is.shape
    (subst (λ i. Leaves o.shape (ServerWrites o.shape i) (evacuating.next_of e)) is.server
    (weaker (ServerWrites o.shape o.server) (evacuates o is.known.owner e.at is.known.at e.stage is.known.stage)
    (λ p both. both.0)))

pub servers_write : ServersWrite
servers_write v words known own = (by v.stage known.stage).rest words
  where
    by : (s : ServerStage) → serving.StageIsKnown v.tracer s
        → Leaves v.tracer.shape (ServerWrites v.tracer.shape v.tracer.server) (serving.stage_next v.tracer s)
    by Turning is = looks v.tracer.shape _ _
    by Tracing is =
        weaker (ServerWrites v.tracer.shape v.tracer.server) (traces v.tracer known.tracer own) (λ p both. both.0)
    by (Evacuating e) is = evacuated v.tracer e is.1
    by Ended is = ends v.tracer.shape _
