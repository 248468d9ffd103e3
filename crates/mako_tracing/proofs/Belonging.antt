-- The names in slots belong to the servers that take them, whatever a server's tracing stores.
use Rattle.std.proofs.Common.{◌≡◌, ℕ, zero, suc, ◌⊎◌, inl, inr, ⊎_elim, List, length, replicate, set, slice_index_or}
use Rattle.std.proofs.Common.{sym, ap, subst, refl, ◌∙◌}
use Rattle.std.proofs.lemmas.List.{set-get_or, length-replicate}
use Rattle.mako_words.specs.declared.name.Name.{Name}
use Rattle.mako_words.specs.Names.{name_word}
use Rattle.mako_shape.specs.declared.numbers.Numbers.{Numbers}
use Rattle.mako_shape.specs.Places.{Place, entry, live, flags, ghost, work, index, Within, total}
use Rattle.mako_shape.specs.Belongings.{tablet_of_entry}
use Rattle.mako_shape.proofs.BelongingLaws.{belongings_in_range}
use Rattle.mako_model.specs.Legal.{Facts}
use Rattle.mako_ring.specs.Tracing.{TracerView, no_window, head_slot, slot_of}
use Rattle.mako_ring.specs.declared.window.Window.{Window}
use Rattle.mako_ring.specs.declared.tracing.SendStage.TheVariants.{HeadLook, GhostRaise, HeadStore}
use Rattle.mako_ring.specs.declared.tracing.ScanStage.TheVariants.{FieldLoad, EntryLoad, HeaderLoad}
use Rattle.mako_ring.specs.declared.tracing.ReceiveStage.TheVariants.{SlotLook, BusyRaise, SlotClear}
use Rattle.mako_ring.specs.declared.tracing.MarkStage.TheVariants.{Considering, Measuring, Marking as EntryMark}
use Rattle.mako_ring.specs.declared.tracing.MarkStage.TheVariants.{Counting}
use Rattle.mako_ring.specs.declared.tracing.RestStage.TheVariants.{BusyLower, TailLook, GhostLower}
use Rattle.mako_ring.specs.declared.tracing.TraceStage.{TraceStage}
use Rattle.mako_ring.specs.declared.tracing.TraceStage.TheVariants.{Sending, Scanning, Receiving, Marking, Resting}
use Rattle.mako_ring.specs.declared.tracing.TraceStage.TheVariants.{Ended}
use Rattle.mako_shades.proofs.Words.{written}
use Rattle.mako_names.specs.Uses.{IsUseSlot}
use Rattle.mako_shades.specs.Steps.{IsIncoming}
use Rattle.mako_joint.specs.Joints.{JointScene}
use Rattle.mako_joint.proofs.Openings.{openings_hold}
use Rattle.mako_server.proofs.Going.{opening_is_known}
use Rattle.mako_tracing.specs.Laws.{BelongsAt, EmptySlotsBelong, StoresLeaveSlots, OpeningsKeep, OpeningServersStand}
use Rattle.mako_tracing.specs.ServerKeeps.{IsNameFor, SlotsBelong}
use Rattle.mako_tracing.proofs.Marks.{store_within}
use Rattle.mako_tracing.proofs.Tracers.{At, us, slot_within}

-- what stands in a slot to that server
abbrev Belongs : Numbers → ℕ → ℕ → Type 0
Belongs n r word = (word ≡ 0) ⊎ IsNameFor n r word

module _ (n : Numbers) (words : List ℕ) (size : length words ≡ total n) (slots : SlotsBelong n words) (p : Place)
    (v : ℕ)
    (within : Within n p) where
  -- where what is stored belongs, if the place is a slot
  pub belong_with : ((r k : ℕ) → work r k ≡ p → Belongs n r v) → ((a r k : ℕ) → ghost a r k ≡ p → Belongs n r v)
      → SlotsBelong n (set words (index n p) v)
  belong_with to_work to_ghost = record {
    works = λ r k in_r. ⊎_elim (λ t. subst (Belongs n r) (sym t.1) (to_work r k t.0))
        (λ t. subst (Belongs n r) (sym t.1) (slots.works r k in_r)) (written n words p v size within (work r k) in_r);
    ghosts = λ a r k in_r. ⊎_elim (λ t. subst (Belongs n r) (sym t.1) (to_ghost a r k t.0))
        (λ t. subst (Belongs n r) (sym t.1) (slots.ghosts a r k in_r))
        (written n words p v size within (ghost a r k) in_r);
  }

-- a receiver of a slot
abbrev receiver : Place → ℕ
receiver (work r k) = r
receiver (ghost a r k) = r
receiver p = 0

-- the place is no slot
abbrev IsNoSlot : Place → Type 0
IsNoSlot (work r k) = ⊥
IsNoSlot (ghost a r k) = ⊥
IsNoSlot p = Unit {0}

module _ (w : Facts) (s : JointScene) (seat : ℕ) (t : TracerView) (ended : ℕ) where
  abbrev n : Numbers
  n = t.shape

  abbrev Here : TraceStage → Type 0
  Here x = At w s seat t ended x

  abbrev Kept : TraceStage → Type 0
  Kept x = SlotsBelong n (us w s seat t ended x)

  by_load : (x : TraceStage) → Here x → us w s seat t ended x ≡ s.words → Kept x
  by_load x at same = subst (SlotsBelong n) (sym same) at.slots

  apart : (x : TraceStage) → (at : Here x) → (p : Place) (v : ℕ) → us w s seat t ended x ≡ set s.words (index n p) v
      → Within n p → IsNoSlot p → Kept x
  apart x at p v same within none =
      subst (SlotsBelong n) (sym same)
      (belong_with n s.words at.joint.names.hold.size at.slots p v within
      (λ r k e. absurd (subst IsNoSlot (sym e) none)) (λ a r k e. absurd (subst IsNoSlot (sym e) none)))

  emptied : (x : TraceStage) → (at : Here x) → (p : Place) → us w s seat t ended x ≡ set s.words (index n p) 0
      → Within n p → Kept x
  emptied x at p same within =
      subst (SlotsBelong n) (sym same)
      (belong_with n s.words at.joint.names.hold.size at.slots p 0 within (λ r k e. inl refl) (λ a r k e. inl refl))

  sends : (x : Name) → (at : Here (Sending (HeadStore x))) → Kept (Sending (HeadStore x))
  sends x at =
      belong_with n s.words at.joint.names.hold.size at.slots (head_slot t x) (name_word x)
      (store_within w s seat t ended x at)
      (λ r k e. absurd (subst IsWork e tt))
      (λ a r k e. inr (record {
        name = x;
        word_is = refl;
        fits = at.known.0.0;
        in_range = at.known.0.1;
        own = sym (ap receiver e);
      }))
    where
      IsWork : Place → Type 0
      IsWork (work r k) = Unit {0}
      IsWork p = ⊥

  pub slots_kept : (x : TraceStage) → Here x → Kept x
  slots_kept (Sending (HeadLook x)) at = by_load (Sending (HeadLook x)) at (set-get_or s.words _ 0)
  slots_kept (Sending (GhostRaise x)) at =
      apart (Sending (GhostRaise x)) at (flags t.server) _ refl at.stands.keeps.in_range tt
  slots_kept (Sending (HeadStore x)) at = sends x at
  slots_kept (Scanning (FieldLoad scan)) at = by_load (Scanning (FieldLoad scan)) at (set-get_or s.words _ 0)
  slots_kept (Scanning (EntryLoad x)) at = by_load (Scanning (EntryLoad x)) at (set-get_or s.words _ 0)
  slots_kept (Scanning (HeaderLoad x address)) at =
      by_load (Scanning (HeaderLoad x address)) at (set-get_or s.words _ 0)
  slots_kept (Receiving (SlotLook source)) at = by_load (Receiving (SlotLook source)) at (set-get_or s.words _ 0)
  slots_kept (Receiving (BusyRaise source x)) at =
      apart (Receiving (BusyRaise source x)) at (flags t.server) _ refl at.stands.keeps.in_range tt
  slots_kept (Receiving (SlotClear source x)) at =
      emptied (Receiving (SlotClear source x)) at (slot_of t source) refl
      (slot_within w s seat t ended (Receiving (SlotClear source x)) at source at.stands.stage.0)
  slots_kept (Marking (Considering x)) at = by_load (Marking (Considering x)) at (set-get_or s.words _ 0)
  slots_kept (Marking (Measuring x e)) at = by_load (Marking (Measuring x e)) at (set-get_or s.words _ 0)
  slots_kept (Marking (EntryMark x e fields)) at =
      apart (Marking (EntryMark x e fields)) at (entry x.entry) _ refl at.stands.stage tt
  slots_kept (Marking (Counting x fields)) at =
      apart (Marking (Counting x fields)) at (live (tablet_of_entry n x.entry)) _ refl
      (belongings_in_range.entry n x.entry at.stands.stage) tt
  slots_kept (Resting BusyLower) at =
      apart (Resting BusyLower) at (flags t.server) _ refl at.stands.keeps.in_range tt
  slots_kept (Resting (TailLook r)) at = by_load (Resting (TailLook r)) at (set-get_or s.words _ 0)
  slots_kept (Resting GhostLower) at =
      apart (Resting GhostLower) at (flags t.server) _ refl at.stands.keeps.in_range tt
  slots_kept Ended at = absurd at.acts

-- ---- where what is kept begins, and what others leave of it

pub empty_slots_belong : EmptySlotsBelong
empty_slots_belong n words empty = record {
  works = λ r k within. inl (empty (work r k) tt within);
  ghosts = λ a r k within. inl (empty (ghost a r k) tt within);
}

pub stores_leave_slots : StoresLeaveSlots
stores_leave_slots n words p v size within slots belongs =
    belong_with n words size slots p v within (λ r k e. subst (λ q. BelongsAt n q v) (sym e) belongs)
    (λ a r k e. subst (λ q. BelongsAt n q v) (sym e) belongs)

no_windows : (size r : ℕ) → slice_index_or (replicate size no_window) r no_window ≡ no_window
no_windows zero r = refl
no_windows (suc size) zero = refl
no_windows (suc size) (suc r) = no_windows size r

pub openings_keep : OpeningsKeep
openings_keep n i shape low = record {
  known = opening_is_known n i shape low;
  tracer = record {
    shape_is = refl;
    keeps = record {
      number = refl;
      in_range = low;
      windows_are = length-replicate n.servers no_window;
      ghost_at_are = length-replicate n.servers 0;
      outgoing_stands = tt;
      own = ap (λ (w : Window). w.tail) (no_windows n.servers i)
          ∙ sym (ap (λ (w : Window). w.head) (no_windows n.servers i));
    };
    stage = tt;
  };
  scan = tt;
}

pub opening_servers_stand : OpeningServersStand
opening_servers_stand n w s seat i o low here = record {
  joint = openings_hold n w s o;
  slots = empty_slots_belong n s.words (λ p incoming within. o.names.slots p within (is_use p incoming));
  here = here;
  keeps = openings_keep n i o.script.shape low;
}
  where
    is_use : (p : Place) → IsIncoming p → IsUseSlot p
    is_use (work r k) is = tt
    is_use (ghost a r k) is = tt
    is_use p is = absurd is
