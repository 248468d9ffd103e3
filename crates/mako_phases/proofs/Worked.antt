-- The worked examples.
use Rattle.std.proofs.Common.{◌≡◌, ◌≢◌, ℕ, zero, suc, ◌+◌, ◌^◌, ◌<◌, ⊎_elim, List, [], ◌∷◌, map, slice_get, Some, false}
use Rattle.std.proofs.Common.{sym, ap, subst, refl, ◌∙◌, arith}
use Rattle.std.proofs.lemmas.Option.{same_Some, none-some}
use Rattle.mako_shape.specs.Limits.{IsShape}
use Rattle.mako_shape.specs.Places.{Place, phase, demand, root, barrier, work, ghost, notice, leaving, entry, Within}
use Rattle.mako_shape.specs.Places.{word_at, total, index}
use Rattle.mako_names.specs.Examples.{small}
use Rattle.mako_names.specs.Tables.{entry_of}
use Rattle.mako_choice.specs.Choices.{candidates_from, put_in, in_order, choice}
use Rattle.mako_phases.specs.Choosing.{used_upto, chosen_upto}
use Rattle.mako_phases.specs.Facets.{idle, resting, outside, PhaseFacet, mutating, serving, mutator, server, collector}
use Rattle.mako_phases.specs.Facets.{role_of}
use Rattle.mako_phases.specs.Orders.{WordsStand, ServerStands, AreSeated, PhaseOrder}
use Rattle.mako_phases.specs.Steps.{IsPhaseWord, PhaseOrderIn}
use Rattle.mako_phases.specs.Reaching.{IsOpeningFacet, IsRootOrEntry, IsPhaseOpening}
use Rattle.mako_phases.specs.Examples.{idle_facets, opened, traced_too_soon, shaded_too_soon, leaving_too_soon}
use Rattle.mako_phases.specs.Examples.{told_too_soon, ended_too_soon, all_live}
use Rattle.mako_phases.proofs.Frames.{the_words, the_seats}
use Rattle.mako_phases.proofs.Reaching.{opening_order}

small_shape : IsShape small
unfolding total
small_shape = record {
  in_range =
      record {
        each = (
          omega arith,
          omega arith,
          (
            omega arith,
            omega arith,
            (
              omega arith,
              omega arith,
              (
                omega arith,
                omega arith,
                (
                  omega arith,
                  omega arith,
                  (
                    omega arith,
                    omega arith,
                    (
                      omega arith,
                      omega arith,
                      (omega arith, omega arith, (omega arith, omega arith, (omega arith, omega arith, tt))),
                    ),
                  ),
                ),
              ),
            ),
          ),
        );
      };
  entries = omega arith;
  words = omega arith;
}

-- ---- seats

collector_seat : (i : ℕ) → slice_get (map role_of (idle_facets 0)) i ≡ Some collector → i ≡ 2
collector_seat zero e = absurd (no_one (same_Some mutator collector e))
  where
    no_one : mutator ≡ collector → ⊥
    no_one e = cc
collector_seat (suc zero) e = absurd (no_one (same_Some (server 0) collector e))
  where
    no_one : server 0 ≡ collector → ⊥
    no_one e = cc
collector_seat (suc (suc zero)) e = refl
collector_seat (suc (suc (suc i))) e = absurd (none-some collector e)

server_seat : (s i : ℕ) → slice_get (map role_of (idle_facets 0)) i ≡ Some (server s) → i ≡ 1
server_seat s zero e = absurd (no_one (same_Some mutator (server s) e))
  where
    no_one : mutator ≡ server s → ⊥
    no_one e = cc
server_seat s (suc zero) e = refl
server_seat s (suc (suc zero)) e = absurd (no_one (same_Some collector (server s) e))
  where
    no_one : collector ≡ server s → ⊥
    no_one e = cc
server_seat s (suc (suc (suc i))) e = absurd (none-some (server s) e)

small_seated : AreSeated small (map role_of (idle_facets 0))
small_seated = record {
  collectors = λ i j a b. collector_seat i a ∙ sym (collector_seat j b);
  servers = λ s i j a b. server_seat s i a ∙ sym (server_seat s j b);
  present = λ s l. (1, ap (λ (k : ℕ). Some (server k)) (let e : 0 ≡ s = omega arith in e));
}

others : (seat : ℕ) (f : PhaseFacet) → slice_get (idle_facets 0) seat ≡ Some f → seat ≢ 2 → IsOpeningFacet small f
others zero f at ne = subst (IsOpeningFacet small) (same_Some (mutating outside) f at) refl
others (suc zero) f at ne =
    subst (IsOpeningFacet small) (same_Some (serving 0 resting 0 false) f at) (omega arith, refl, refl, refl)
others (suc (suc zero)) f at ne = absurd (ne refl)
others (suc (suc (suc seat))) f at ne = absurd (none-some f at)

-- ---- the opening

none_below : (k : ℕ) → k < 1 → 0 ≡ k
none_below k l = omega arith

zeros : (p : Place) → IsPhaseWord p → (¬ IsRootOrEntry p) → Within small p → word_at small opened.words p ≡ 0
unfolding index
zeros phase is not within = refl
zeros demand is not within = refl
zeros (root m q) is not within = absurd (not tt)
zeros (barrier m k) is not within =
    let a = none_below m within.0 in let b = none_below k within.1 in
    (λ i. word_at small opened.words (barrier (sym a i) (sym b i))) ∙ refl
zeros (work s k) is not within =
    let a = none_below s within.0 in let b = none_below k within.1 in
    (λ i. word_at small opened.words (work (sym a i) (sym b i))) ∙ refl
zeros (ghost a r k) is not within =
    let x = none_below a within.0 in let y = none_below r within.1 in let z = none_below k within.2 in
    (λ i. word_at small opened.words (ghost (sym x i) (sym y i) (sym z i))) ∙ refl
zeros (notice s k) is not within =
    let a = none_below s within.0 in let b = none_below k within.1 in
    (λ i. word_at small opened.words (notice (sym a i) (sym b i))) ∙ refl
zeros (leaving t) is not within =
    let a = none_below t within in (λ i. word_at small opened.words (leaving (sym a i))) ∙ refl
zeros (entry e) is not within = absurd (not tt)
zeros p is not within = absurd is

epochs : (e : ℕ) → Within small (entry e) → (entry_of small opened.words e).epoch ≡ 0
unfolding entry_of index
epochs zero within = refl
epochs (suc zero) within = refl
epochs (suc (suc zero)) within = refl
epochs (suc (suc (suc zero))) within = refl
epochs (suc (suc (suc (suc e)))) within = absurd (omega arith)

opened_is : IsPhaseOpening small opened
unfolding total
opened_is = record {
  shape = small_shape;
  size = refl;
  seat = 2;
  here = refl;
  others = others;
  seated = small_seated;
  words = zeros;
  epochs = epochs;
}

pub opened_order : PhaseOrderIn small opened
opened_order = opening_order small opened opened_is

-- ---- what is wrong in its place

idle_words : (words : List ℕ) (ended : ℕ) → PhaseOrder small words (idle_facets ended)
    → WordsStand small words (idle 0) []
idle_words words ended o = the_words small words (idle_facets ended) o 2 (idle 0) [] refl

differ : (a b : ℕ) → a ≡ 1 → b ≡ 0 → a ≡ b → ⊥
differ a b one_is none e = omega arith

pub traced_refused : ¬ PhaseOrderIn small traced_too_soon
unfolding index
traced_refused o =
    let is : 1 + 2 ^ 32 ≡ 0 = (idle_words traced_too_soon.words 0 o).phase_is in absurd (omega arith)

pub shaded_refused : ¬ PhaseOrderIn small shaded_too_soon
unfolding index
shaded_refused o =
    differ (word_at small shaded_too_soon.words (barrier 0 0)) 0 refl refl
    ((idle_words shaded_too_soon.words 0 o).slots tt (barrier 0 0) tt (omega arith, omega arith))

pub leaving_refused : ¬ PhaseOrderIn small leaving_too_soon
unfolding index
leaving_refused o =
    ⊎_elim (λ is. differ (word_at small leaving_too_soon.words (leaving 0)) 0 refl refl is) (λ may. may)
    ((idle_words leaving_too_soon.words 0 o).leavings 0 (omega arith))

pub told_refused : ¬ PhaseOrderIn small told_too_soon
unfolding index
told_refused o = (idle_words told_too_soon.words 0 o).tellers 0 0 (omega arith, omega arith) refl

pub ended_refused : ¬ PhaseOrderIn small ended_too_soon
ended_refused o =
    let st : ServerStands small ended_too_soon.words (idle 0) 0 resting 1 false =
    the_seats small ended_too_soon.words ended_too_soon.facets o 2 (idle 0) [] refl 1 (serving 0 resting 1 false)
    refl in
    differ 1 0 refl refl st.fits.1

-- ---- a choice

pub opened_chosen : chosen_upto small opened.words 1 1 ≡ 0 ∷ []
unfolding chosen_upto used_upto choice in_order candidates_from put_in index
opened_chosen = refl

pub live_not_chosen : chosen_upto small all_live 1 1 ≡ []
unfolding chosen_upto used_upto choice in_order candidates_from put_in index
live_not_chosen = refl

pub past_chosen : chosen_upto small all_live 2 1 ≡ 0 ∷ []
unfolding chosen_upto used_upto choice in_order candidates_from put_in index
past_chosen = refl
