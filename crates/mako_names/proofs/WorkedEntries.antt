-- The worked examples.
use Rattle.std.proofs.Common.{◌≡◌, ℕ, zero, suc, ◌+◌, ◌<◌, true, false, [], sym, subst, refl, ◌∙◌, arith}
use Rattle.std.proofs.lemmas.Option.{same_Some}
use Rattle.mako_words.specs.declared.entry_word.EntryWord.{EntryWord}
use Rattle.mako_words.specs.Phases.{cycle_of}
use Rattle.mako_shape.specs.Places.{Place, barrier, work, ghost, index, total, Within, word_at}
use Rattle.mako_model.specs.Dead.{IsDead}
use Rattle.mako_model.specs.Examples.{two, roomy, before_reuse_snap}
use Rattle.mako_model.specs.Reachable.{IsReachable}
use Rattle.mako_model.proofs.Following.{lost_at_snap}
use Rattle.mako_model.proofs.Lists.{get_replicate}
use Rattle.mako_model.proofs.Reused.{at_snap, one_dead}
use Rattle.mako_names.specs.Counts.{made_of}
use Rattle.mako_names.specs.Examples.{small, opened, taken_too_soon, traced_too_soon, freed_front}
use Rattle.mako_names.specs.Steps.{NamesHoldIn, IsNameOpening}
use Rattle.mako_names.specs.Tables.{IsWorkloadOf, EntryStands, entry_of, phase_of, one_if}
use Rattle.mako_names.specs.Trying as trying
use Rattle.mako_names.specs.Uses.{IsUseSlot}
use Rattle.mako_names.proofs.Entries.{no_bool}
use Rattle.mako_names.proofs.StepsKept.{opening_names}

-- ---- the opening

small_is : IsWorkloadOf small roomy
small_is = record {
  mutators = refl;
  roots = refl;
  board = omega arith;
  tablets = refl;
  entries = refl;
  words = refl;
  cycles = refl;
  generations = refl;
  few_cycles = omega arith;
  few_generations = omega arith;
}

others_free : (x : ℕ) → 0 < x → x < 4 → ((entry_of small opened.words x).taken ≡ false)
    × ((entry_of small opened.words x).generation ≡ 0)
unfolding entry_of index
others_free zero some l = absurd (omega arith)
others_free (suc zero) some l = (refl, refl)
others_free (suc (suc zero)) some l = (refl, refl)
others_free (suc (suc (suc zero))) some l = (refl, refl)
others_free (suc (suc (suc (suc x)))) some l = absurd (omega arith)

none_below : (k : ℕ) → k < 1 → 0 ≡ k
none_below k l = omega arith

slots_empty : (p : Place) → Within small p → IsUseSlot p → word_at small opened.words p ≡ 0
unfolding index
slots_empty (barrier m slot) within slot_is =
    let a = none_below m within.0 in let b = none_below slot within.1 in
    (λ i. word_at small opened.words (barrier (sym a i) (sym b i))) ∙ refl
slots_empty (work s slot) within slot_is =
    let a = none_below s within.0 in let b = none_below slot within.1 in
    (λ i. word_at small opened.words (work (sym a i) (sym b i))) ∙ refl
slots_empty (ghost sender receiver slot) within slot_is =
    let a = none_below sender within.0 in let b = none_below receiver within.1 in let c = none_below slot within.2 in
    (λ i. word_at small opened.words (ghost (sym a i) (sym b i) (sym c i))) ∙ refl
slots_empty p within slot_is = absurd slot_is

is_opening : IsNameOpening small roomy opened
unfolding entry_of phase_of index total
is_opening = record {
  board = record { entry = omega arith; generation = omega arith };
  size = refl;
  front = refl;
  idle = refl;
  taken = refl;
  generation = refl;
  epoch = refl;
  others = others_free;
  slots = slots_empty;
  held = λ seat names at. sym (get_replicate 3 seat [] names at);
  attempts = λ m known at. sym (get_replicate 1 m trying.Nothing known at);
  programs = λ m left program at is. same_Some program left (sym is ∙ at);
}

pub small_opening : NamesHoldIn small roomy opened
small_opening = opening_names small roomy opened small_is is_opening

differ : (a b : ℕ) → a ≡ 1 → b ≡ 0 → a ≡ b → ⊥
differ a b one_is none e = omega arith

-- an entry that is taken has a name
pub taken_refused : ¬ NamesHoldIn small roomy taken_too_soon
unfolding entry_of index made_of
taken_refused names =
    let e : EntryWord = entry_of small taken_too_soon.words 1 in
    differ (e.generation + one_if e.taken) (made_of 1 []) refl refl (names.hold.table.entries 1 (omega arith)).count

-- a cycle that runs has a snapshot
pub traced_refused : ¬ NamesHoldIn small roomy traced_too_soon
unfolding phase_of index
traced_refused names = differ (cycle_of (phase_of small traced_too_soon.words)) 0 refl refl names.hold.table.cycle

-- ---- two entries after a cycle

two_is_used : ¬ IsDead roomy freed_front.history 1 two
two_is_used dead =
    let lost = lost_at_snap roomy before_reuse_snap [] two refl refl dead in
    let reached : IsReachable at_snap two = record { first = two; path = []; in_root = (0, 2, refl); leads = refl } in
    lost.1 reached

made_once : (made_of 1 freed_front.history ≡ 1) × (made_of 2 freed_front.history ≡ 1)
unfolding made_of
made_once = (refl, refl)

pub freed_stands : EntryStands roomy freed_front 1 1 false 1
freed_stands = record {
  count = sym made_once.0;
  free = λ is last e. let same : 0 ≡ last = omega arith in
      subst (λ (g : ℕ). IsDead roomy freed_front.history 1 (record { entry = 1; generation = g })) same (one_dead []);
  held = λ is. absurd (no_bool is);
}

pub kept_refused : ¬ EntryStands roomy freed_front 1 1 true 0
kept_refused stands = stands.held refl (one_dead [])

pub again_refused : ¬ EntryStands roomy freed_front 1 1 false 0
again_refused stands = let count = stands.count in let made = made_once.0 in absurd (omega arith)

pub early_refused : ¬ EntryStands roomy freed_front 0 1 false 1
early_refused stands = let dead = stands.free refl 0 refl in let some = dead.numbered in absurd (omega arith)

pub used_stands : EntryStands roomy freed_front 1 2 true 0
used_stands = record {
  count = sym made_once.1;
  free = λ is. absurd (no_bool (sym is));
  held = λ is dead. two_is_used dead;
}

pub freed_refused : ¬ EntryStands roomy freed_front 1 2 false 1
freed_refused stands = two_is_used (stands.free refl 0 refl)
