-- A copied record gets its entry, and the top counts it.
use Rattle.std.proofs.Common.{◌≡◌, ℕ, ◌+◌, ◌<◌, Bool, false, List, [], set, Some, sym, ap, subst, ◌∙◌, arith}
use Rattle.mako_words.specs.declared.name.Name.{Name}
use Rattle.mako_words.specs.declared.entry_word.EntryWord.{EntryWord}
use Rattle.mako_words.specs.declared.phase_word.PhaseWord.TheVariants.{Evac}
use Rattle.mako_words.specs.Entries.{entry_word, entry_at}
use Rattle.mako_shape.specs.declared.numbers.Numbers.{Numbers}
use Rattle.mako_shape.specs.Belongings.{tablet_of_entry, region_of_address}
use Rattle.mako_shape.specs.Places.{entry, top, index, notice, region_word, Within, word_at}
use Rattle.mako_shape.proofs.BelongingLaws.{belongings_in_range, word_after}
use Rattle.mako_shape.proofs.PlaceLaws.{word_other}
use Rattle.mako_gate.specs.Changes.{Sets}
use Rattle.mako_gate.specs.Standings.{GateFacet, has_drained, shutter_at}
use Rattle.mako_model.specs.Legal.{Facts}
use Rattle.mako_names.specs.Tables.{phase_of}
use Rattle.mako_names.proofs.Words.{phase_else}
use Rattle.mako_shades.proofs.Lists.{set_again}
use Rattle.mako_record.specs.declared.copier.CopyStage.TheVariants.{StoringEntry, RaisingTop}
use Rattle.mako_record.specs.declared.copier.CopyStage.{CopyStage}
use Rattle.mako_evac.specs.declared.tablet.TabletStage.{TabletStage}
use Rattle.mako_evac.specs.declared.stage.EvacStage.{EvacStage}
use Rattle.mako_evac.specs.declared.stage.EvacStage.TheVariants.{Evacuating}
use Rattle.mako_layout.specs.Evacuations.{Evacuation as Layout, Seat, Fills, Raises, slot_at, layout}
use Rattle.mako_layout.specs.Facets.{Work, holds_home, fills, raises}
use Rattle.mako_layout.specs.Layouts.{Slot, entries_of}
use Rattle.mako_layout.specs.StepParts.{moved_entry}
use Rattle.mako_layout.specs.Steps as step
use Rattle.mako_phases.specs.Facets.{clearing, shut}
use Rattle.mako_state.proofs.Words.{sets_words}
use Rattle.mako_joint.specs.Joints.{JointScene, layout_in, Joint}
use Rattle.mako_joint.specs.Kinds.{with_work, with_entry}
use Rattle.mako_joint.proofs.Moving.{moves_entry}
use Rattle.mako_clearing.specs.ClearingFacets.{server_seat}
use Rattle.mako_clearing.specs.Notices.{SameNotices}
use Rattle.mako_clearing.proofs.Rings.{sending_stays}
use Rattle.mako_clearing.proofs.Seated.{Laid, laid_state, laid, seated, work_moved, gate_moved}
use Rattle.mako_clearing.proofs.Stages.{Goes, sends_none, names_stay, order_stays, finish, index_in}
use Rattle.mako_clearing.proofs.Tablets.{behind_is, OwedHere, to_stage, server_in, evac_is}
use Rattle.mako_clearing.proofs.Records.{record_next}
use Rattle.mako_clearing.proofs.Copies.{copies, Stands, Kept, of_tablet, inside, x_tablet, here, stored_with}

module _ (n : Numbers) (w : Facts) (s : JointScene) (server cycle ended : ℕ) (laden : Bool) (taker : ℕ)
    (j : Joint n w s) (at : ℕ) (sent : List Name) (t region x : ℕ) (e : EntryWord) (offset fields : ℕ) where
  abbrev seat : ℕ
  seat = server_seat n server

  abbrev To : List ℕ → EvacStage → Type 0
  To us stage = Goes n w s server cycle ended laden taker us stage at sent

  abbrev Owes : List ℕ → Work → Type 0
  Owes us k =
      OwedHere n w s server cycle ended laden taker j at sent t us (clearing cycle t shut) (has_drained t x) k

  abbrev gate : GateFacet
  gate = shutter_at seat (has_drained t x)

  abbrev copy_at : CopyStage → TabletStage
  copy_at = copies n w s server cycle ended laden taker j at sent t region x e

  abbrev slot : Slot
  slot = slot_at n (layout_in n w s) x

  -- ---- the entry gets the copy's address

  module _ (c : Stands n w s server cycle ended laden taker j at sent t region x e (StoringEntry offset fields)) where
    entry_here : Seat (layout_in n w s) seat gate (fills x e region offset (fields + 1))
    entry_here = here n w s server cycle ended laden taker j at sent t region x e (StoringEntry offset fields) c

    entry_in : Within n (entry x)
    entry_in = inside n w s server cycle ended laden taker j at sent t region x e (StoringEntry offset fields) c

    know : Fills n (layout n (layout_in n w s)) (λ p. word_at n s.words p) gate x e region offset (fields + 1)
    know = j.layout.knows seat gate (fills x e region offset (fields + 1)) entry_here.gate entry_here.work

    evac : phase_of n s.words ≡ Evac cycle
    evac = evac_is n w s server cycle ended laden taker j at sent t (copy_at (StoringEntry offset fields)) c

    abbrev us : List ℕ
    us = set s.words (index n (entry x)) (entry_word (moved_entry e (index n (region_word region offset))))

    moved : Joint n w (with_work (with_entry n s x (moved_entry e (index n (region_word region offset)))) seat
        (raises x region offset (slot_at n (layout_in n w s) x).size))
    moved =
        moves_entry n w s j cycle seat x region offset e gate evac
        (record {
          gate = entry_here.gate;
          work = entry_here.work ∙ ap (λ (q : ℕ). Some (fills x e region offset q)) c.knows;
        })

    slots_same : SameNotices n s.words us server
    slots_same k low =
        word_other n s.words (entry x) (notice server k)
        (entry_word (moved_entry e (index n (region_word region offset)))) entry_in
        (server_in n w s server cycle ended laden taker j at sent t (copy_at (StoringEntry offset fields)) c, low)
        (λ p. cc)

    entry_owed : Owes us (raises x region offset (fields + 1))
    entry_owed =
        subst (λ q. Owes us (raises x region offset q)) (sym c.knows)
        (record {
          names = names_stay n w s server cycle ended laden taker
              (Evacuating t (copy_at (StoringEntry offset fields))) at sent j c tt us moved.names;
          layout = subst
              (λ gs. Layout n
              (record (laid_state n w s server cycle ended laden us gate (raises x region offset slot.size))
              { gates = gs }))
              (sym (set_again s.facets.gates seat gate entry_here.gate)) moved.layout;
          polls = moved.polls;
          order = order_stays n w s server cycle ended laden taker
              (Evacuating t (copy_at (StoringEntry offset fields))) at sent j c tt us moved.order;
          evac = phase_else n s.words x (entry_word (moved_entry e (index n (region_word region offset)))) entry_in ∙
              evac;
          notices = sending_stays n s.words us server taker at sent [] false slots_same c.sending.notices;
        })

    pub entry_stored : Kept n w s server cycle ended laden taker j at sent t region x e (StoringEntry offset fields)
    entry_stored =
        finish n w s server cycle ended laden taker (Evacuating t (copy_at (StoringEntry offset fields))) at sent j c
        tt tt
        (index_in n w s j (entry x) entry_in, tt, tt) tt
        (sends_none n w s server cycle ended laden taker _ _ at sent
        (subst
        (λ a. To (set s.words (index n (entry x)) (entry_word (record e { address = a })))
        (Evacuating t (copy_at (RaisingTop offset fields))))
        (word_after n region offset)
        (to_stage n w s server cycle ended laden taker j at sent t us
        (copy_at (RaisingTop offset fields)) entry_owed tt)))

  -- ---- the top counts it

  module _ (c : Stands n w s server cycle ended laden taker j at sent t region x e (RaisingTop offset fields)) where
    top_here : Seat (layout_in n w s) seat gate (raises x region offset (fields + 1))
    top_here = here n w s server cycle ended laden taker j at sent t region x e (RaisingTop offset fields) c

    x_in : x < entries_of n
    x_in = inside n w s server cycle ended laden taker j at sent t region x e (RaisingTop offset fields) c

    raised : Raises n (layout n (layout_in n w s)) (λ p. word_at n s.words p) gate x region offset (fields + 1)
    raised = j.layout.knows seat gate (raises x region offset (fields + 1)) top_here.gate top_here.work

    top_in : Within n (top (tablet_of_entry n x))
    top_in = belongings_in_range.entry n x x_in

    abbrev vs : List ℕ
    vs = set s.words (index n (top (tablet_of_entry n x))) (offset + fields + 1)

    entry_same : word_at n vs (entry x) ≡ word_at n s.words (entry x)
    entry_same = word_other n s.words (top (tablet_of_entry n x)) (entry x) (offset + fields + 1) top_in x_in (λ p. cc)

    home_again : Laid n w s server cycle ended laden vs gate (holds_home x region)
    home_again =
        let k : Work = raises x region offset (fields + 1) in
        work_moved n w s server cycle ended laden j gate k top_here s.words gate k
        (laid n w s server cycle ended laden j gate k top_here) vs (holds_home x region)
        (step.raise_and_go_on (λ p. word_at n vs p) seat x region offset (fields + 1) gate
        (seated n w s server cycle ended laden j gate k top_here s.words gate k)
        (subst (λ v. Sets n (λ p. word_at n s.words p) (λ p. word_at n vs p) (top (tablet_of_entry n x)) v)
        (let z : offset + fields + 1 ≡ offset + (fields + 1) = omega arith in z)
        (sets_words n s.words j.names.hold.size (top (tablet_of_entry n x)) (offset + fields + 1) top_in)))

    passed : Laid n w s server cycle ended laden vs (shutter_at seat (has_drained t (x + 1))) (holds_home x region)
    passed =
        let k : Work = raises x region offset (fields + 1) in
        gate_moved n w s server cycle ended laden j gate k top_here vs gate (holds_home x region) home_again vs
        (shutter_at seat (has_drained t (x + 1)))
        (step.passes seat t x x region
        (seated n w s server cycle ended laden j gate k top_here vs gate (holds_home x region))
        (x_tablet n w s server cycle ended laden taker j at sent t region x e (RaisingTop offset fields) c)
        (λ taken of_cycle. ap (λ (q : ℕ). region_of_address n (entry_at q).address) entry_same ∙ raised.region))

    top_owed : Owes vs (holds_home x region)
    top_owed =
        stored_with n w s server cycle ended laden taker j at sent t region x e (RaisingTop offset fields) c
        (top (tablet_of_entry n x)) (offset + fields + 1) top_in (λ p. p) (λ p. p) (λ k p. cc) (λ p. p)
        (holds_home x region) home_again

    pub top_raised : Kept n w s server cycle ended laden taker j at sent t region x e (RaisingTop offset fields)
    top_raised =
        let of = of_tablet n w s server cycle ended laden taker j at sent t region x e (RaisingTop offset fields) c in
        finish n w s server cycle ended laden taker (Evacuating t (copy_at (RaisingTop offset fields))) at sent j c
        tt tt
        (index_in n w s j (top (tablet_of_entry n x)) top_in, tt, tt) tt
        (sends_none n w s server cycle ended laden taker _ _ at sent
        (record_next n w s server cycle ended laden taker j at sent t (copy_at (RaisingTop offset fields)) c vs
        region (x + 1) x
        (let a = of.from in omega arith) (let a = of.below in let b = behind_is n t x in omega arith)
        (x_tablet n w s server cycle ended laden taker j at sent t region x e (RaisingTop offset fields) c)
        (record {
          names = top_owed.names;
          layout = passed;
          polls = top_owed.polls;
          order = top_owed.order;
          evac = top_owed.evac;
          notices = top_owed.notices;
        })))
