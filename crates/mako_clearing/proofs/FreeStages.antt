-- What is owed by the stages of a server past its tablets.
use Rattle.std.proofs.Common.{◌≡◌, ◌≢◌, ℕ, ◌+◌, ◌-◌, ◌*◌, ◌<◌, ◌≤◌, ◌==◌, ◌&&◌, ◌⊎◌, inl, inr, Bool, true, false, not}
use Rattle.std.proofs.Common.{List, [], set, slice_get, Some, sym, ap, subst, refl, ◌∙◌, arith, mul_assoc, add-mul}
use Rattle.mako_words.specs.declared.name.Name.{Name}
use Rattle.mako_words.specs.declared.phase_word.PhaseWord.TheVariants.{Evac}
use Rattle.mako_shape.specs.declared.numbers.Numbers.{Numbers}
use Rattle.mako_shape.specs.Limits.{all_entries}
use Rattle.mako_shape.specs.Places.{notice, index, Within, word_at}
use Rattle.mako_step.proofs.Cases.{by_eq, when_lt}
use Rattle.mako_gate.specs.Standings.{Watch, rests, shutter_at}
use Rattle.mako_model.specs.Legal.{Facts}
use Rattle.mako_evac.specs.declared.owner.Owner.{Owner}
use Rattle.mako_evac.specs.declared.stage.EvacStage.{EvacStage}
use Rattle.mako_evac.specs.declared.stage.EvacStage.TheVariants.{Freeing, AwaitingEnd}
use Rattle.mako_evac.specs.declared.freeing.FreeStage.{FreeStage}
use Rattle.mako_evac.specs.declared.freeing.FreeStage.TheVariants.{Loading}
use Rattle.mako_evac.specs.Freeing.{HasNext}
use Rattle.mako_evac.specs.Owners.{tablets_end, first_entry, IsOwnEntry}
use Rattle.mako_evac.specs.Passing.{at_entry}
use Rattle.mako_layout.specs.Evacuations.{Evacuation as Layout, Seat}
use Rattle.mako_layout.specs.Facets.{Work, idle}
use Rattle.mako_names.specs.Freeing.{own_entries, entry_by}
use Rattle.mako_names.specs.Going.{NamesHold}
use Rattle.mako_names.specs.Tables.{entry_of, phase_of}
use Rattle.mako_names.proofs.Telling.{entries_tell}
use Rattle.mako_phases.specs.Facets.{serving, freeing}
use Rattle.mako_phases.specs.Orders.{PhaseOrder}
use Rattle.mako_phases.specs.Steps as phases
use Rattle.mako_phases.proofs.AllPhases.{phase_kept}
use Rattle.mako_ring.specs.Polling.{PollingStands}
use Rattle.mako_shades.proofs.Lists.{set_again}
use Rattle.mako_joint.specs.Joints.{JointScene, names_in, layout_in, polls_in, phases_in, Joint}
use Rattle.mako_joint.proofs.EachKind.{polls_stay}
use Rattle.mako_joint.proofs.Pauses.{gates_drain}
use Rattle.mako_clearing.specs.ClearingFacets.{server_seat, place_of, free_through, free_carries, stage_phase}
use Rattle.mako_clearing.specs.ClearingFacets.{stage_ended, stage_watch, stage_work, stage_through}
use Rattle.mako_clearing.specs.Notices.{SendingStands}
use Rattle.mako_clearing.specs.Clearing.{FreeKnows, ClearingStands}
use Rattle.mako_clearing.proofs.Seated.{phase_is_evac, owner, Laid, laid_state}
use Rattle.mako_clearing.proofs.Stages.{at_stage, Goes, phase_stays, names_else, layout_else}

-- ---- places among the own entries

module _ (n : Numbers) (server x : ℕ) where
  first_is : server * n.tablets * n.entries ≡ server * own_entries n
  first_is = mul_assoc server n.tablets n.entries

  end_is : (server + 1) * n.tablets * n.entries ≡ server * own_entries n + own_entries n
  end_is =
      mul_assoc (server + 1) n.tablets n.entries
      ∙ add-mul server 1 (own_entries n)
      ∙ (let e : server * own_entries n + 1 * own_entries n ≡ server * own_entries n + own_entries n = omega arith in e)

  pub entry_is : server * n.tablets * n.entries ≤ x → entry_by n server (x - server * n.tablets * n.entries) ≡ x
  entry_is from = omega (arith, first_is)

  pub place_below : server * n.tablets * n.entries ≤ x → x < (server + 1) * n.tablets * n.entries
      → x - server * n.tablets * n.entries < own_entries n
  place_below from below = omega (arith, first_is, end_is)

  pub place_next : server * n.tablets * n.entries ≤ x
      → x - server * n.tablets * n.entries + 1 ≡ x + 1 - server * n.tablets * n.entries
  place_next from = omega arith

  pub place_last : server * n.tablets * n.entries ≤ x → x < (server + 1) * n.tablets * n.entries
      → (server + 1) * n.tablets * n.entries ≤ x + 1
      → x - server * n.tablets * n.entries + 1 ≡ own_entries n
  place_last from below past = omega (arith, first_is, end_is)

-- ---- what a test of an entry means

pub dead_is : (taken : Bool) (a b : ℕ) → (taken && not (a == b)) ≡ true → (taken ≡ true) × (a ≢ b)
dead_is true a b e = (refl, by_eq (λ t. (true && not t) ≡ true → a ≢ b) a b (λ s f. absurd (cc)) (λ d f. d) e)
dead_is false a b e = absurd (cc)

pub live_is : (taken : Bool) (a b : ℕ) → (taken && not (a == b)) ≡ false → (taken ≡ false) ⊎ (a ≡ b)
live_is false a b e = inl refl
live_is true a b e = inr (by_eq (λ t. (true && not t) ≡ false → a ≡ b) a b (λ s f. s) (λ d f. absurd (cc)) e)

-- a taken entry has a generation behind its own
pub has_next : (n : Numbers) (w : Facts) (s : JointScene) → Joint n w s → (x : ℕ) → x < all_entries n
    → (entry_of n s.words x).taken ≡ true → HasNext (entry_of n s.words x).generation
has_next n w s j x within taken =
    let t = entries_tell n w (names_in s) x j.names within in
    let g : ℕ = (entry_of n s.words x).generation in
    let made = t.taken taken in
    let in_range = j.names.hold.answers.lawful.names (record { entry = x; generation = g })
    ((t.names g).1 (omega arith)) in
    let few = j.script.facts.few_generations in
    let below = in_range.generation in
    omega arith

module _ (n : Numbers) (w : Facts) (s : JointScene) (server cycle ended : ℕ) (laden : Bool) (taker : ℕ)
    (j : Joint n w s) (at : ℕ) (sent : List Name) where
  abbrev o : Owner
  o = owner n w s server cycle ended laden

  abbrev Stands : EvacStage → Type 0
  Stands stage = ClearingStands n w s (at_stage n w s server cycle ended laden taker stage at) ended laden taker sent

  abbrev pub To : List ℕ → EvacStage → ℕ → List Name → Type 0
  To us stage at' sent' = Goes n w s server cycle ended laden taker us stage at' sent'

  abbrev pub seat : ℕ
  seat = server_seat n server

  abbrev pub stays_freeing : List ℕ → Type 0
  stays_freeing us = PhaseOrder n us (set s.facets.phases seat (serving server (freeing cycle) ended laden))

  abbrev pub named : List ℕ → ℕ → List Name → Type 0
  named us i sent' = NamesHold n w us s.front
      (record s.facets.names {
        through = set s.facets.names.through server i;
        sent = set s.facets.names.sent server sent';
      })

  -- what is owed while it frees, by how many entries it has gone over
  pub record OwedFreeing (us : List ℕ) (i : ℕ) (sent' : List Name) : Type 0 where
    pub names : named us i sent'
    pub layout : Laid n w s server cycle ended laden us (shutter_at seat rests) idle
    pub polls : PollingStands n (polls_in n (record s { words = us }))
    pub order : stays_freeing us
    pub evac : phase_of n us ≡ Evac cycle

  -- ---- a stage past the tablets

  module _ (stage : EvacStage) (c : Stands stage) (i : ℕ)
      (is_freeing : stage_phase cycle stage ≡ freeing cycle) (not_ended : stage_ended cycle stage ended ≡ ended)
      (opens : stage_watch n stage ≡ rests) (idles : stage_work stage ≡ idle)
      (come : stage_through o stage ≡ i) where
    phase_here : slice_get s.facets.phases seat ≡ Some (serving server (freeing cycle) ended laden)
    phase_here = c.facets.phase ∙ (λ q. Some (serving server (is_freeing q) (not_ended q) laden))

    gate_here : Seat (layout_in n w s) seat (shutter_at seat rests) idle
    gate_here = record {
      gate = c.facets.gate ∙ ap (λ (v : Watch). Some (shutter_at seat v)) opens;
      work = c.facets.work ∙ ap (λ (v : Work). Some v) idles;
    }

    evac_here : phase_of n s.words ≡ Evac cycle
    evac_here = phase_is_evac n w s j server ended laden (freeing cycle) tt phase_here

    through_here : slice_get s.facets.names.through server ≡ Some i
    through_here = c.facets.through ∙ ap (λ (k : ℕ). Some k) come

    pub order_as : (us : List ℕ) → PhaseOrder n us s.facets.phases → stays_freeing us
    order_as us p =
        subst (PhaseOrder n us)
        (sym (set_again s.facets.phases seat (serving server (freeing cycle) ended laden) phase_here)) p

    pub names_as : (us : List ℕ) → NamesHold n w us s.front s.facets.names → named us i sent
    names_as us hold =
        subst (λ t. NamesHold n w us s.front
        (record s.facets.names { through = t; sent = set s.facets.names.sent server sent }))
        (sym (set_again s.facets.names.through server i through_here))
        (subst (λ l. NamesHold n w us s.front (record s.facets.names { sent = l }))
        (sym (set_again s.facets.names.sent server sent c.sending.sent_is)) hold)

    pub layout_as : (us : List ℕ) → Layout n (record (layout_in n w s) { words = λ p. word_at n us p })
        → Laid n w s server cycle ended laden us (shutter_at seat rests) idle
    layout_as us l =
        subst (λ gs. Layout n (record (laid_state n w s server cycle ended laden us (shutter_at seat rests) idle)
        { gates = gs }))
        (sym (set_again s.facets.gates seat (shutter_at seat rests) gate_here.gate))
        (subst (λ ks. Layout n (record (layout_in n w s) { words = λ p. word_at n us p; works = ks }))
        (sym (set_again s.facets.works seat idle gate_here.work)) l)

    -- nothing changes
    pub still : OwedFreeing s.words i sent
    still = record {
      names = names_as s.words j.names;
      layout = layout_as s.words j.layout;
      polls = j.polls;
      order = order_as s.words j.order;
      evac = evac_here;
    }

    -- a notice is stored
    pub noticed : (slot v : ℕ) → Within n (notice server slot) → v ≢ 1
        → OwedFreeing (set s.words (index n (notice server slot)) v) i sent
    noticed slot v within not_done =
        let us : List ℕ = set s.words (index n (notice server slot)) v in record {
          names = names_as us (names_else n w s j (notice server slot) v within (λ is. is));
          layout = layout_as us (layout_else n w s j (notice server slot) v within tt tt);
          polls = polls_stay n s (notice server slot) v within (λ is. is) j.polls;
          order = order_as us
              (phase_kept n (phases_in s) (record (phases_in s) { words = us }) j.order (gates_drain n w s j)
              (phases.Notes server slot v within not_done refl));
          evac = phase_stays n w s j (notice server slot) v within (λ is. is) ∙ evac_here;
        }

  -- a stage at an entry, and one past the last
  pub to_free : (us : List ℕ) (x : ℕ) (stage : FreeStage) (at' : ℕ) (sent' : List Name)
      → OwedFreeing us (free_through (place_of o x) stage) sent'
      → SendingStands n us server taker at' sent' (free_carries x stage) false
      → FreeKnows n us o at' x stage → To us (Freeing x stage) at' sent'
  to_free us x stage at' sent' owed notices knows = record {
    owed = record {
      names = owed.names;
      layout = owed.layout;
      polls = owed.polls;
      order = owed.order;
      evac = owed.evac;
    };
    notices = notices;
    knows = knows;
  }

  -- ---- on to the next entry

  pub entry_next : (x : ℕ) → IsOwnEntry o x → (us : List ℕ) (at' : ℕ) (sent' : List Name)
      → OwedFreeing us (place_of o x + 1) sent' → SendingStands n us server taker at' sent' [] false
      → To us (at_entry o (x + 1)) at' sent'
  entry_next x own us at' sent' owed notices =
      when_lt (λ st. To us st at' sent') (Freeing (x + 1) Loading) AwaitingEnd (x + 1)
      (first_entry n (tablets_end o))
      (λ low. to_free us (x + 1) Loading at' sent'
      (subst (λ k. OwedFreeing us k sent') (place_next n server x own.from) owed) notices tt)
      (λ high. record {
        owed = record {
          names = subst (λ k. named us k sent') (place_last n server x own.from own.below high) owed.names;
          layout = owed.layout;
          polls = owed.polls;
          order = owed.order;
          evac = owed.evac;
        };
        notices = notices;
        knows = tt;
      })
