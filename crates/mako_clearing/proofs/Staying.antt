-- What a server keeps of itself stands through steps of others.
use Rattle.std.proofs.Common.{◌≡◌, ℕ, ◌+◌, ◌<◌, Bool, true, length, sym, ap, subst, ◌∙◌, arith}
use Rattle.std.proofs.lemmas.Option.{same_Some}
use Rattle.mako_words.specs.declared.entry_word.EntryWord.{EntryWord}
use Rattle.mako_shape.specs.declared.numbers.Numbers.{Numbers}
use Rattle.mako_shape.specs.Places.{entry}
use Rattle.mako_gate.specs.Standings.{GateFacet, shutter_at}
use Rattle.mako_model.specs.Heaps.{fields_of}
use Rattle.mako_model.specs.Legal.{Facts, state_of}
use Rattle.mako_record.specs.declared.copier.CopyStage.{CopyStage}
use Rattle.mako_record.specs.declared.copier.CopyStage.TheVariants as copy
use Rattle.mako_evac.specs.declared.owner.Owner.{Owner}
use Rattle.mako_evac.specs.declared.stage.EvacStage.{EvacStage}
use Rattle.mako_evac.specs.declared.stage.EvacStage.TheVariants.{Evacuating, Freeing, AwaitingEnd, TellingEnd, Ended}
use Rattle.mako_evac.specs.declared.tablet.TabletStage.TheVariants.{LoadingLeaving, Shutting, Draining, LoadingHome}
use Rattle.mako_evac.specs.declared.tablet.TabletStage.TheVariants.{LoadingEntry, Copying, Clearing, Reopening}
use Rattle.mako_evac.specs.declared.freeing.FreeStage.TheVariants.{Loading, Storing, Awaiting, Telling}
use Rattle.mako_evac.specs.Evacuating.{StageIsKnown}
use Rattle.mako_layout.specs.Evacuations.{State, Evacuation as Layout, Seat, IsAsFound, slot_at, name_of}
use Rattle.mako_layout.specs.Facets.{fills, carries}
use Rattle.mako_layout.specs.Layouts.{entries_of}
use Rattle.mako_layout.proofs.Stays.{size_is}
use Rattle.mako_state.specs.Works.{copy_work}
use Rattle.mako_joint.specs.Joints.{JointScene, layout_in, Joint}
use Rattle.mako_clearing.specs.ClearingFacets.{server_seat, stage_watch}
use Rattle.mako_clearing.specs.Clearing.{CopyKnows, StageKnows, SeatStands, KeepsSizes, LeavesEvacuation, ClearingStays}

-- the entry is as it was found, with a record of so many words
record IsFoundIn (n : Numbers) (s : State) (x : ℕ) (found : EntryWord) : Type 0 where
  inside : x < entries_of n
  taken : (slot_at n s x).taken ≡ true
  as_found : IsAsFound n (slot_at n s x) found

filling : (n : Numbers) (s : State) → Layout n s → (seat : ℕ) (g : GateFacet) (x : ℕ) (found : EntryWord)
    (r o i : ℕ) → Seat s seat g (fills x found r o i) → IsFoundIn n s x found
filling n s e seat g x found r o i at =
    let k = e.knows seat g (fills x found r o i) at.gate at.work in
    record { inside = k.inside; taken = k.taken; as_found = k.as_found }

carrying : (n : Numbers) (s : State) → Layout n s → (seat : ℕ) (g : GateFacet) (x : ℕ) (found : EntryWord)
    (r o i v : ℕ) → Seat s seat g (carries x found r o i v) → IsFoundIn n s x found
carrying n s e seat g x found r o i v at =
    let k = (e.knows seat g (carries x found r o i v) at.gate at.work).fills in
    record { inside = k.inside; taken = k.taken; as_found = k.as_found }

-- so the size of its record is the same in two states
same_size : (n : Numbers) (s after : State) → Layout n s → Layout n after → KeepsSizes s.heap after.heap → (x : ℕ)
    (found : EntryWord) → IsFoundIn n s x found → IsFoundIn n after x found
    → (slot_at n after x).size ≡ (slot_at n s x).size
same_size n s after e f sizes x found before then =
    let r = e.records x before.inside before.taken in
    let q = f.records x then.inside then.taken in
    let kept = sizes (name_of x (s.words (entry x))) r.fields r.are in
    let same : name_of x (s.words (entry x)) ≡ name_of x (after.words (entry x)) =
    (λ i. record { entry = x; generation = (before.as_found.generation ∙ sym then.as_found.generation) i }) in
    let one : q.fields ≡ kept.0 =
    same_Some q.fields kept.0 (sym q.are ∙ sym (ap (fields_of after.heap) same) ∙ kept.1) in
    let long = ap length one in
    let few = kept.2 in
    let a = size_is n s.words s.heap x r in
    let b = size_is n after.words after.heap x q in
    omega arith

module _ (n : Numbers) (w : Facts) (s after : JointScene) (j : Joint n w s) (i : Joint n w after)
    (sizes : KeepsSizes (state_of w s.front.history) (state_of w after.front.history)) (seat : ℕ) (g : GateFacet)
    (x : ℕ) (e : EntryWord) (home : ℕ) where
  abbrev Here : JointScene → CopyStage → Type 0
  Here z cs = Seat (layout_in n w z) seat g (copy_work x e home cs)

  abbrev size_at : JointScene → ℕ
  size_at z = (slot_at n (layout_in n w z) x).size

  -- the same for the scenes
  kept_size : IsFoundIn n (layout_in n w s) x e → IsFoundIn n (layout_in n w after) x e → size_at s ≡ size_at after
  kept_size a b = sym (same_size n (layout_in n w s) (layout_in n w after) j.layout i.layout sizes x e a b)

  copy_stays : (cs : CopyStage) → Here s cs → Here after cs → CopyKnows (size_at s) cs → CopyKnows (size_at after) cs
  copy_stays copy.LoadingTop a b k = tt
  copy_stays (copy.LoadingHeader offset) a b k = tt
  copy_stays (copy.StoringHeader offset fields) a b k =
      k ∙ kept_size (carrying n (layout_in n w s) j.layout seat g x e home offset 0 fields a)
      (carrying n (layout_in n w after) i.layout seat g x e home offset 0 fields b)
  copy_stays (copy.LoadingField offset fields field) a b k =
      k ∙ kept_size (filling n (layout_in n w s) j.layout seat g x e home offset (field + 1) a)
      (filling n (layout_in n w after) i.layout seat g x e home offset (field + 1) b)
  copy_stays (copy.StoringField offset fields field word) a b k =
      k ∙ kept_size (carrying n (layout_in n w s) j.layout seat g x e home offset (field + 1) word a)
      (carrying n (layout_in n w after) i.layout seat g x e home offset (field + 1) word b)
  copy_stays (copy.StoringEntry offset fields) a b k =
      k ∙ kept_size (filling n (layout_in n w s) j.layout seat g x e home offset (fields + 1) a)
      (filling n (layout_in n w after) i.layout seat g x e home offset (fields + 1) b)
  copy_stays (copy.RaisingTop offset fields) a b k = tt
  copy_stays (copy.Ended address) a b k = tt

stage_stays : (n : Numbers) (w : Facts) (s after : JointScene) → Joint n w s → Joint n w after → (o : Owner) (at : ℕ)
    (stage : EvacStage) (ended : ℕ) (laden : Bool) → StageIsKnown o stage
    → SeatStands n s (record { owner = o; at = at; stage = stage }) ended laden
    → SeatStands n after (record { owner = o; at = at; stage = stage }) ended laden
    → LeavesEvacuation n w s after (record { owner = o; at = at; stage = stage }) → StageKnows n w s o at stage
    → StageKnows n w after o at stage
stage_stays n w s after j i o at (Evacuating t LoadingLeaving) ended laden known a b leaves k = tt
stage_stays n w s after j i o at (Evacuating t Shutting) ended laden known a b leaves k = tt
stage_stays n w s after j i o at (Evacuating t Draining) ended laden known a b leaves k = tt
stage_stays n w s after j i o at (Evacuating t LoadingHome) ended laden known a b leaves k = tt
stage_stays n w s after j i o at (Evacuating t (LoadingEntry region x)) ended laden known a b leaves k = tt
stage_stays n w s after j i o at (Evacuating t (Copying region x q)) ended laden known a b leaves k =
    let number = known.1.1.number in
    subst (λ y. CopyKnows (slot_at n (layout_in n w after) y).size q.stage) number
    (copy_stays n w s after j i leaves.sizes (server_seat n o.server)
    (shutter_at (server_seat n o.server) (stage_watch o.shape (Evacuating t (Copying region x q)))) q.number q.entry
    q.home q.stage
    (record { gate = a.gate; work = a.work }) (record { gate = b.gate; work = b.work })
    (subst (λ y. CopyKnows (slot_at n (layout_in n w s) y).size q.stage) (sym number) k))
stage_stays n w s after j i o at (Evacuating t Clearing) ended laden known a b leaves k = tt
stage_stays n w s after j i o at (Evacuating t Reopening) ended laden known a b leaves k = tt
stage_stays n w s after j i o at (Freeing x Loading) ended laden known a b leaves k = tt
stage_stays n w s after j i o at (Freeing x (Storing generation)) ended laden known a b leaves k =
    leaves.due x generation known.0 k
stage_stays n w s after j i o at (Freeing x (Awaiting generation)) ended laden known a b leaves k = tt
stage_stays n w s after j i o at (Freeing x (Telling generation)) ended laden known a b leaves k = leaves.empty k
stage_stays n w s after j i o at AwaitingEnd ended laden known a b leaves k = tt
stage_stays n w s after j i o at TellingEnd ended laden known a b leaves k = leaves.empty k
stage_stays n w s after j i o at Ended ended laden known a b leaves k = tt

pub clearing_stays : ClearingStays
clearing_stays n w s after v ended laden taker later sent left j i c seat sending leaves = record {
  known = c.known;
  shape = c.shape;
  facets = seat;
  sending = sending;
  knows = stage_stays n w s after j i v.owner v.at v.stage ended laden c.known.stage c.facets seat leaves c.knows;
}
