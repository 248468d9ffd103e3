-- A server frees the entries of dead objects.
use Rattle.std.proofs.Common.{◌≡◌, ◌≢◌, ℕ, ◌+◌, ◌≤◌, ◌⊎◌, Bool, true, false, List, [], ◌∷◌, ◌++◌, set, Some, sym, ap}
use Rattle.std.proofs.Common.{subst, refl, ◌∙◌, arith}
use Rattle.std.proofs.lemmas.List.{append-nil}
use Rattle.mako_words.specs.declared.name.Name.{Name}
use Rattle.mako_words.specs.Entries.{entry_at}
use Rattle.mako_shape.specs.declared.numbers.Numbers.{Numbers}
use Rattle.mako_shape.specs.Places.{entry, notice, index, Within, word_at}
use Rattle.mako_step.proofs.Cases.{when_test}
use Rattle.mako_model.specs.Legal.{Facts}
use Rattle.mako_evac.specs.declared.owner.Owner.{Owner}
use Rattle.mako_evac.specs.declared.stage.EvacStage.{EvacStage}
use Rattle.mako_evac.specs.declared.stage.EvacStage.TheVariants.{Freeing}
use Rattle.mako_evac.specs.declared.freeing.FreeStage.TheVariants.{Loading, Storing}
use Rattle.mako_evac.specs.Freeing.{name_of, free_word, HasNext}
use Rattle.mako_evac.specs.Owners.{is_dead, IsOwnEntry}
use Rattle.mako_evac.specs.Passing.{at_entry}
use Rattle.mako_evac.proofs.Bounds.{entry_within}
use Rattle.mako_names.specs.Freeing.{entry_by}
use Rattle.mako_names.specs.Steps.{ComesTo, MayFree, Passes}
use Rattle.mako_names.specs.Tables.{entry_of}
use Rattle.mako_names.proofs.StepsKept.{step_kept}
use Rattle.mako_names.proofs.Words.{phase_else}
use Rattle.mako_shape.proofs.PlaceLaws.{word_other}
use Rattle.mako_phases.specs.Facets.{Part, collecting, freeing}
use Rattle.mako_joint.specs.Joints.{JointScene, names_in, Joint}
use Rattle.mako_joint.proofs.EachKind.{frees_entry}
use Rattle.mako_clearing.specs.ClearingFacets.{server_seat, place_of}
use Rattle.mako_clearing.specs.Notices.{SameNotices}
use Rattle.mako_clearing.specs.Clearing.{IsDue, ClearingStands, ReadersMatch, ClearingGoesOn}
use Rattle.mako_clearing.proofs.Seated.{is_in_evac, owner}
use Rattle.mako_clearing.proofs.Rings.{sending_stays}
use Rattle.mako_clearing.proofs.Stages.{at_stage, Goes, loads, sends_none, known, sent_stays, finish, index_in}
use Rattle.mako_clearing.proofs.FreeStages.{entry_is, place_below, dead_is, live_is, has_next, OwedFreeing, still}
use Rattle.mako_clearing.proofs.FreeStages.{entry_next, to_free, order_as, layout_as}

module _ (n : Numbers) (w : Facts) (s : JointScene) (server cycle ended : ℕ) (laden : Bool) (taker : ℕ)
    (j : Joint n w s) (at : ℕ) (sent : List Name) where
  abbrev o : Owner
  o = owner n w s server cycle ended laden

  abbrev Stands : EvacStage → Type 0
  Stands stage = ClearingStands n w s (at_stage n w s server cycle ended laden taker stage at) ended laden taker sent

  abbrev Kept : EvacStage → Type 0
  Kept stage = ClearingGoesOn n w s (at_stage n w s server cycle ended laden taker stage at) ended laden taker sent

  abbrev pub To : List ℕ → EvacStage → ℕ → List Name → Type 0
  To us stage at' sent' = Goes n w s server cycle ended laden taker us stage at' sent'

  abbrev pub seat : ℕ
  seat = server_seat n server

  -- ---- an entry is loaded

  module _ (x : ℕ) (c : Stands (Freeing x Loading)) where
    own : IsOwnEntry o x
    own = c.known.stage.0

    within : Within n (entry x)
    within = entry_within o x c.known.owner own

    here : OwedFreeing n w s server cycle ended laden taker j at sent s.words (place_of o x) sent
    here = still n w s server cycle ended laden taker j at sent (Freeing x Loading) c (place_of o x) refl refl refl
        refl refl

    dead : is_dead o (entry_at (word_at n s.words (entry x))) ≡ true
        → IsDue n s.words cycle x (entry_at (word_at n s.words (entry x))).generation
    unfolding entry_of
    dead e =
        let d = dead_is (entry_at (word_at n s.words (entry x))).taken (entry_at (word_at n s.words (entry x))).epoch
        cycle e in
        record { taken = d.0; generation_is = refl; epoch = d.1 }

    live : is_dead o (entry_at (word_at n s.words (entry x))) ≡ false
        → ((entry_of n s.words x).taken ≡ false) ⊎ ((entry_of n s.words x).epoch ≡ cycle)
    unfolding entry_of
    live e = live_is (entry_at (word_at n s.words (entry x))).taken (entry_at (word_at n s.words (entry x))).epoch
        cycle e

    fits : is_dead o (entry_at (word_at n s.words (entry x))) ≡ true
        → HasNext (entry_at (word_at n s.words (entry x))).generation
    fits e =
        let d = dead e in
        subst HasNext d.generation_is (has_next n w s j x within d.taken)

    passed : is_dead o (entry_at (word_at n s.words (entry x))) ≡ false → OwedFreeing n w s server cycle ended laden
        taker j at sent s.words (place_of o x + 1) sent
    passed e =
        let i : ℕ = place_of o x in
        let is_x = entry_is n server x own.from in
        record {
          names = sent_stays n w s server cycle ended laden taker (Freeing x Loading) at sent j c tt s.words
              (set s.facets.names.through server (i + 1))
              (step_kept n w (names_in s)
              (record (names_in s) {
                facets = record s.facets.names
                    { through = set s.facets.names.through server (i + 1) };
              })
              j.script.facts
              (Passes cycle server i
              (record {
                evacuates = here.evac;
                at = c.facets.through;
                more = place_below n server x own.from
                    own.below;
              })
              (subst (λ y. ((entry_of n s.words y).taken ≡ false) ⊎ ((entry_of n s.words y).epoch ≡ cycle)) (sym is_x)
              (live e)))
              j.names);
          layout = here.layout;
          polls = here.polls;
          order = here.order;
          evac = here.evac;
        }

    pub loading_kept : Kept (Freeing x Loading)
    loading_kept =
        finish n w s server cycle ended laden taker (Freeing x Loading) at sent j c tt tt
        (index_in n w s j (entry x) within, tt, fits) fits
        (sends_none n w s server cycle ended laden taker _ _ at sent
        (loads n w s server cycle ended laden taker (index n (entry x)) _ at sent
        (when_test (λ st. To s.words st at sent)
        (Freeing x (Storing (entry_at (word_at n s.words (entry x))).generation)) (at_entry o (x + 1))
        (is_dead o (entry_at (word_at n s.words (entry x))))
        (λ e. to_free n w s server cycle ended laden taker j at sent s.words x
        (Storing (entry_at (word_at n s.words (entry x))).generation) at sent here
        c.sending.notices (dead e))
        (λ e. entry_next n w s server cycle ended laden taker j at sent x own s.words at sent (passed e)
        c.sending.notices))))

  -- ---- it is stored free

  module _ (reader : ReadersMatch s) (x g : ℕ) (c : Stands (Freeing x (Storing g))) where
    its_own : IsOwnEntry o x
    its_own = c.known.stage.0

    before_free : OwedFreeing n w s server cycle ended laden taker j at sent s.words (place_of o x) sent
    before_free = still n w s server cycle ended laden taker j at sent (Freeing x (Storing g)) c (place_of o x) refl
        refl refl refl refl

    abbrev freed_scene : ℕ → ℕ → JointScene
    freed_scene y h = record s {
      words = set s.words (index n (entry y)) (free_word g);
      facets = record s.facets {
        names = record s.facets.names {
          through = set s.facets.names.through server (place_of o x + 1);
          sent = set s.facets.names.sent server (sent ++ record { entry = y; generation = h } ∷ []);
        };
      };
    }

    is_x : entry_by n server (place_of o x) ≡ x
    is_x = entry_is n server x its_own.from

    generation_is : (entry_of n s.words (entry_by n server (place_of o x))).generation ≡ g
    generation_is = ap (λ y. (entry_of n s.words y).generation) is_x ∙ c.knows.generation_is

    comes : ComesTo n (names_in s) cycle server (place_of o x)
    comes = record {
      evacuates = before_free.evac;
      at = c.facets.through;
      more = place_below n server x its_own.from
          its_own.below;
    }

    ahead : s.facets.names.collector.server ≤ server
    ahead =
        let e = is_in_evac n w s j server ended laden (freeing cycle) tt c.facets.phase in
        let told = reader j.order.seat cycle e.told j.order.pending
        (j.order.here ∙ ap (λ (p : Part). Some (collecting p j.order.pending)) e.is) in
        subst (λ k. k ≤ server) (sym told) e.ahead

    may : MayFree n (names_in s) cycle server (place_of o x) sent
        (record { taken = false; generation = g + 1; epoch = 0; address = 0 })
    may = record {
      taken = subst (λ y. (entry_of n s.words y).taken ≡ true) (sym is_x) c.knows.taken;
      epoch = subst (λ y. (entry_of n s.words y).epoch ≢ cycle) (sym is_x) c.knows.epoch;
      sent_is = c.sending.sent_is;
      ahead = ahead;
      fits = record { address = omega arith; epoch = omega arith; generation = c.known.stage.1 };
      free = refl;
      generation = ap (λ (k : ℕ). k + 1) (sym generation_is);
    }

    all : Joint n w (freed_scene x g)
    all =
        subst (λ y. Joint n w (freed_scene y g)) is_x
        (subst (λ h. Joint n w (freed_scene (entry_by n server (place_of o x)) h)) generation_is
        (frees_entry n w s j seat server cycle ended (place_of o x) laden sent
        (record { taken = false; generation = g + 1; epoch = 0; address = 0 }) c.facets.phase comes may refl))

    slots_stay : SameNotices n s.words (set s.words (index n (entry x)) (free_word g)) server
    slots_stay slot low =
        word_other n s.words (entry x) (notice server slot) (free_word g) (entry_within o x c.known.owner its_own)
        (known n w s server cycle ended laden taker (Freeing x (Storing g)) at sent j c tt, low) (λ e. cc)

    pub storing_kept : Kept (Freeing x (Storing g))
    storing_kept =
        finish n w s server cycle ended laden taker (Freeing x (Storing g)) at sent j c tt tt
        (index_in n w s j (entry x) (entry_within o x c.known.owner its_own), tt, tt) tt
        (record {
          owed = record {
            names = all.names;
            layout = layout_as n w s server cycle ended laden taker j at sent (Freeing x (Storing g)) c
                (place_of o x) refl refl refl refl refl
                (set s.words (index n (entry x)) (free_word g)) all.layout;
            polls = all.polls;
            order = order_as n w s server cycle ended laden taker j at sent (Freeing x (Storing g)) c (place_of o x)
                refl refl refl refl refl
                (set s.words (index n (entry x)) (free_word g)) all.order;
            evac = phase_else n s.words x (free_word g) (entry_within o x c.known.owner its_own) ∙ before_free.evac;
          };
          notices =
              let t = sending_stays n s.words (set s.words (index n (entry x)) (free_word g)) server taker at sent []
              false
              slots_stay c.sending.notices in
              record {
                names = t.names;
                sent_is = ap (λ (l : List Name). l ++ name_of x g ∷ []) (t.sent_is ∙ append-nil t.names);
                ring = t.ring;
                last = λ e. absurd (cc);
              };
          knows = tt;
        })
