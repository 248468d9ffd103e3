-- A server tells the names that it has freed, and then that it is done.
use Rattle.std.proofs.Common.{ℕ, ◌+◌, Bool, if◌then◌else◌, List, [], ◌∷◌, ◌++◌, set, sym, refl, ◌∙◌, arith}
use Rattle.std.proofs.lemmas.List.{append-nil}
use Rattle.mako_words.specs.declared.name.Name.{Name}
use Rattle.mako_words.specs.declared.notice_word.NoticeWord.TheVariants.{Freed}
use Rattle.mako_words.specs.Names.{FitsName}
use Rattle.mako_words.specs.Notices.{notice_word}
use Rattle.mako_shape.specs.declared.numbers.Numbers.{Numbers}
use Rattle.mako_shape.specs.Places.{notice, index, Within, word_at}
use Rattle.mako_step.proofs.Cases.{by_eq}
use Rattle.mako_model.specs.Legal.{Facts}
use Rattle.mako_evac.specs.declared.owner.Owner.{Owner}
use Rattle.mako_evac.specs.declared.stage.EvacStage.{EvacStage}
use Rattle.mako_evac.specs.declared.stage.EvacStage.TheVariants.{Freeing, AwaitingEnd, TellingEnd}
use Rattle.mako_evac.specs.declared.freeing.FreeStage.TheVariants.{Awaiting, Telling}
use Rattle.mako_evac.specs.Evacuating.{slot_at}
use Rattle.mako_evac.specs.Freeing.{name_of}
use Rattle.mako_evac.proofs.Bounds.{entry_within}
use Rattle.mako_names.specs.Freeing.{own_entries}
use Rattle.mako_ring.specs.Contents.{after_place}
use Rattle.mako_phases.specs.Facets.{serving, freeing, resting}
use Rattle.mako_phases.specs.Steps as phases
use Rattle.mako_phases.proofs.AllPhases.{phase_kept}
use Rattle.mako_joint.specs.Joints.{JointScene, phases_in, Joint}
use Rattle.mako_joint.proofs.EachKind.{polls_stay}
use Rattle.mako_joint.proofs.Pauses.{gates_drain}
use Rattle.mako_clearing.specs.ClearingFacets.{server_seat, place_of}
use Rattle.mako_clearing.specs.Clearing.{ClearingStands, ClearingGoesOn}
use Rattle.mako_clearing.proofs.Seated.{phase_is_evac, owner}
use Rattle.mako_clearing.proofs.Rings.{name_put, end_put}
use Rattle.mako_clearing.proofs.Stages.{at_stage, Goes, loads, sends_none, known, finish, phase_stays, names_else}
use Rattle.mako_clearing.proofs.Stages.{layout_else, index_in}
use Rattle.mako_clearing.proofs.FreeStages.{OwedFreeing, still, noticed, entry_next, to_free, names_as, layout_as}

module _ (n : Numbers) (w : Facts) (s : JointScene) (server cycle ended : ℕ) (laden : Bool) (taker : ℕ)
    (j : Joint n w s) (at : ℕ) (sent : List Name) where
  abbrev o : Owner
  o = owner n w s server cycle ended laden

  abbrev Stands : EvacStage → Type 0
  Stands stage = ClearingStands n w s (at_stage n w s server cycle ended laden taker stage at) ended laden taker sent

  abbrev Kept : EvacStage → Type 0
  Kept stage = ClearingGoesOn n w s (at_stage n w s server cycle ended laden taker stage at) ended laden taker sent

  abbrev pub To : List ℕ → EvacStage → ℕ → List Name → Type 0
  To us stage at' sent' = Goes n w s server cycle ended laden taker us stage at' sent'

  abbrev pub seat : ℕ
  seat = server_seat n server

  -- ---- the notice slot is looked at

  module _ (x g : ℕ) (c : Stands (Freeing x (Awaiting g))) where
    pub awaiting_kept : Kept (Freeing x (Awaiting g))
    awaiting_kept =
        let here : OwedFreeing n w s server cycle ended laden taker j at sent s.words (place_of o x + 1) sent =
        still n w s server cycle ended laden taker j at sent (Freeing x (Awaiting g)) c (place_of o x + 1) refl refl
        refl refl refl in
        finish n w s server cycle ended laden taker (Freeing x (Awaiting g)) at sent j c tt tt (
          index_in n w s j (notice server at)
              (known n w s server cycle ended laden taker (Freeing x (Awaiting g)) at sent j c tt, c.known.at),
          tt,
          tt,
        ) tt
        (sends_none n w s server cycle ended laden taker _ _ at sent
        (loads n w s server cycle ended laden taker (slot_at o at) _ at sent
        (by_eq (λ b. To s.words (if b then Freeing x (Telling g) else Freeing x (Awaiting g)) at sent)
        (word_at n s.words (notice server at)) 0
        (λ e. to_free n w s server cycle ended laden taker j at sent s.words x (Telling g) at sent here
        c.sending.notices e)
        (λ d. to_free n w s server cycle ended laden taker j at sent s.words x (Awaiting g) at sent here
        c.sending.notices tt))))

  module _ (c : Stands AwaitingEnd) where
    pub awaiting_end_kept : Kept AwaitingEnd
    awaiting_end_kept =
        let here : OwedFreeing n w s server cycle ended laden taker j at sent s.words (own_entries n) sent =
        still n w s server cycle ended laden taker j at sent AwaitingEnd c (own_entries n) refl refl refl refl refl in
        finish n w s server cycle ended laden taker AwaitingEnd at sent j c tt tt (
          index_in n w s j (notice server at)
              (known n w s server cycle ended laden taker AwaitingEnd at sent j c tt, c.known.at),
          tt,
          tt,
        ) tt
        (sends_none n w s server cycle ended laden taker _ _ at sent
        (loads n w s server cycle ended laden taker (slot_at o at) _ at sent
        (by_eq (λ b. To s.words (if b then TellingEnd else AwaitingEnd) at sent)
        (word_at n s.words (notice server at)) 0
        (λ e. record {
          owed = record {
            names = here.names;
            layout = here.layout;
            polls = here.polls;
            order = here.order;
            evac = here.evac;
          };
          notices = c.sending.notices;
          knows = e;
        })
        (λ d. record {
          owed = record {
            names = here.names;
            layout = here.layout;
            polls = here.polls;
            order = here.order;
            evac = here.evac;
          };
          notices = c.sending.notices;
          knows = tt;
        }))))

  -- ---- a name is told, or the end of the cycle

  module _ (x g : ℕ) (c : Stands (Freeing x (Telling g))) where
    abbrev v : ℕ
    v = notice_word (Freed (name_of x g))

    slot_in : Within n (notice server at)
    slot_in = (known n w s server cycle ended laden taker (Freeing x (Telling g)) at sent j c tt, c.known.at)

    name_fits : FitsName (name_of x g)
    name_fits =
        let low = entry_within o x c.known.owner c.known.stage.0 in
        let most = j.script.shape.entries in
        let next = c.known.stage.1 in
        (omega arith, omega arith)

    pub telling_kept : Kept (Freeing x (Telling g))
    telling_kept =
        let us : List ℕ = set s.words (index n (notice server at)) v in
        let ring = name_put n s.words server taker at c.sending.notices.names j.names.hold.size slot_in.0
        c.sending.notices.ring c.knows
        (name_of x g) name_fits in
        finish n w s server cycle ended laden taker (Freeing x (Telling g)) at sent j c tt tt
        (index_in n w s j (notice server at) slot_in, tt, tt) tt
        (sends_none n w s server cycle ended laden taker _ _ (after_place n.ring at) sent
        (entry_next n w s server cycle ended laden taker j at sent x c.known.stage.0 us (after_place n.ring at) sent
        (noticed n w s server cycle ended laden taker j at sent (Freeing x (Telling g)) c (place_of o x + 1) refl
        refl refl refl refl at v slot_in (λ e. omega arith))
        (record {
          names = c.sending.notices.names ++ name_of x g ∷ [];
          sent_is = c.sending.notices.sent_is ∙ sym (append-nil (c.sending.notices.names ++ name_of x g ∷ []));
          ring = ring;
          last = λ e. absurd (cc);
        })))

  module _ (c : Stands TellingEnd) where
    end_slot_in : Within n (notice server at)
    end_slot_in = (known n w s server cycle ended laden taker TellingEnd at sent j c tt, c.known.at)

    pub telling_end_kept : Kept TellingEnd
    telling_end_kept =
        let us : List ℕ = set s.words (index n (notice server at)) 1 in
        finish n w s server cycle ended laden taker TellingEnd at sent j c tt tt
        (index_in n w s j (notice server at) end_slot_in, tt, tt) tt
        (sends_none n w s server cycle ended laden taker _ _ (after_place n.ring at) sent
        (record {
          owed = record {
            names = names_as n w s server cycle ended laden taker j at sent TellingEnd c (own_entries n) refl refl
                refl refl refl us
                (names_else n w s j (notice server at) 1 end_slot_in (λ is. is));
            layout = layout_as n w s server cycle ended laden taker j at sent TellingEnd c (own_entries n) refl refl
                refl refl refl us
                (layout_else n w s j (notice server at) 1 end_slot_in tt tt);
            polls = polls_stay n s (notice server at) 1 end_slot_in (λ is. is) j.polls;
            order =
                phase_kept n (phases_in s)
                (record {
                  words = us;
                  facets = set s.facets.phases seat (serving server resting cycle laden);
                }) j.order (gates_drain n w s j)
                (phases.Ends seat server cycle ended at laden c.facets.phase end_slot_in refl);
            evac = phase_stays n w s j (notice server at) 1 end_slot_in (λ is. is)
                ∙ phase_is_evac n w s j server ended laden (freeing cycle) tt c.facets.phase;
          };
          notices = record {
            names = c.sending.notices.names;
            sent_is = c.sending.notices.sent_is;
            ring = end_put n s.words server taker at c.sending.notices.names j.names.hold.size end_slot_in.0
                c.sending.notices.ring c.knows;
            last = λ e. refl;
          };
          knows = tt;
        }))
