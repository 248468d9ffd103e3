-- What a step may change.
use Rattle.std.proofs.Common.{◌≡◌, ◌≢◌, ℕ, ◌+◌, ◌<◌, ◌≤◌, ◌⊎◌, inl, inr, sym, refl, subst, arith}
use Rattle.std.proofs.lemmas.Bool.{cases_eq}
use Rattle.mako_words.specs.Values.{value_word}
use Rattle.mako_shape.specs.declared.numbers.Numbers.{Numbers}
use Rattle.mako_shape.specs.Places.{Place, home, region_word}
use Rattle.mako_shape.specs.Belongings.{tablet_of_entry}
use Rattle.mako_shape.proofs.BelongingLaws.{belongings_in_range}
use Rattle.mako_gate.specs.Changes.{tablets_of, Sets}
use Rattle.mako_layout.specs.Layouts.{regions_of}
use Rattle.mako_layout.specs.Facets.{carries, makes, uses, owes_home, Paused}
use Rattle.mako_layout.specs.Evacuations.{State, layout, Evacuation, null_words}
use Rattle.mako_layout.specs.Frames.{LeavesLayout}
use Rattle.mako_layout.specs.Steps as step
use Rattle.mako_layout.specs.Steps.{Step}
use Rattle.mako_layout.specs.Actions.{HomesChangeInPauses, IsWriter, FreeWordsAreTheWriters}
use Rattle.mako_layout.proofs.Roles.{one_home}
use Rattle.mako_layout.proofs.Alone.{paused_by}
use Rattle.mako_layout.proofs.Objects as object

-- a place that is neither a home word nor a word of a region
abbrev IsAside : Place → Type 0
IsAside (home t) = ⊥
IsAside (region_word r o) = ⊥
IsAside p = Unit {0}

-- home words and regions stay as they are
record Stays (n : Numbers) (W V : Place → ℕ) : Type 0 where
  homes : (t : ℕ) → t < tablets_of n → V (home t) ≡ W (home t)
  regions : (r a : ℕ) → r < regions_of n → a < n.words → V (region_word r a) ≡ W (region_word r a)

-- a store in a pause, or one into a home: by the writer, or to a word in use
data Effect (n : Numbers) (s : State) (who : ℕ) (V : Place → ℕ) : Type 0 where
  stays : Stays n s.words V → Effect n s who V
  at_home : (t v : ℕ) → Paused n s.gates → Sets n s.words V (home t) v → Effect n s who V
  in_home : (t a v : ℕ) → t < tablets_of n → Sets n s.words V (region_word ((layout n s).home t) a) v →
      IsWriter s t who ⊎ (a < (layout n s).filled t) → Effect n s who V

same : (n : Numbers) (s : State) (who : ℕ) → Effect n s who s.words
same n s who = stays (record { homes = λ _ _. refl; regions = λ _ _ _ _. refl })

left : (n : Numbers) (s : State) (who : ℕ) (V : Place → ℕ) → LeavesLayout n s.words V → Effect n s who V
left n s who V only = stays (record { homes = only.table.homes; regions = only.regions })

aside : (n : Numbers) (s : State) (who : ℕ) (V : Place → ℕ) (p : Place) (v : ℕ) → Sets n s.words V p v → IsAside p →
    Effect n s who V
aside n s who V p v sets free = stays (record {
  homes = λ t h. sets.others (home t) h (λ e. subst IsAside (sym e) free);
  regions = λ r a h k. sets.others (region_word r a) (h, k) (λ e. subst IsAside (sym e) free);
})

effect : (n : Numbers) (s : State) (who : ℕ) (z : State) → Evacuation n s → Step n s who z → Effect n s who z.words
effect n s who _ e (step.acts V _ _ _ _ _ only _ _) = left n s who V only
effect n s who _ e (step.acts_in_use V _ _ _ _ _ _ _ _ only _) = left n s who V only
effect n s who _ e (step.drains V _ _ _ _ only _) = left n s who V only
effect n s who _ e (step.passes _ _ _ _ _ _ _ _) = same n s who
effect n s who _ e (step.load_entry _ _ _ _ _ _ _) = same n s who
effect n s who _ e (step.load_home _ _ _ _ _ _ _) = same n s who
effect n s _ _ e (step.store_field V h i x r o j v g fields seat were less sets are others) =
    let k = e.knows i g (uses x r o) seat.gate seat.work in
    in_home (tablet_of_entry n x) (o + (1 + j)) _ (belongings_in_range.entry n x k.inside)
    (subst (λ q. Sets n s.words V (region_word q (o + (1 + j))) (value_word v)) k.home sets)
    (inr (object.below n s e i g seat.gate x r o j v V h seat.work fields were less sets are others))
effect n s who _ e (step.forget _ _ _ _ _) = same n s who
effect n s who _ e (step.keep_home _ _ _ _ _ _ _ _) = same n s who
effect n s who _ e (step.turns_to _ _ _ _ _ _ _ _) = same n s who
effect n s who _ e (step.finds_home _ _ _ _ _ _ _ _ _ _ _) = same n s who
effect n s who _ e (step.finds_away _ _ _ _ _ _ _ _ _ _ _ _) = same n s who
effect n s who _ e (step.load_top _ _ _ _ _ _) = same n s who
effect n s who _ e (step.load_word _ _ _ _ _ _ _ _ _) = same n s who
effect n s _ _ e (step.store_word V i x found r o j v g seat sets) =
    let k = (e.knows i g (carries x found r o j v) seat.gate seat.work).fills in
    in_home (tablet_of_entry n x) (o + j) _ (belongings_in_range.entry n x k.inside)
    (subst (λ q. Sets n s.words V (region_word q (o + j)) v) k.kept.region sets)
    (inl (record { view = g; here = seat.gate; may = k.writer }))
effect n s who _ e (step.store_moved V _ _ _ _ _ _ _ sets) = aside n s who V _ _ sets tt
effect n s who _ e (step.raise_and_use V _ _ _ _ _ _ _ _ sets) = aside n s who V _ _ sets tt
effect n s who _ e (step.raise_and_go_on V _ _ _ _ _ _ _ sets) = aside n s who V _ _ sets tt
effect n s who _ e (step.load_leaving _ _ _ _ _ _ _) = same n s who
effect n s who _ e (step.load_room _ _ _ _ _ _ _) = same n s who
effect n s who _ e (step.skip_entry _ _ _ _ _ _ _ _) = same n s who
effect n s who _ e (step.find_entry _ _ _ _ _ _ _ _) = same n s who
effect n s who _ e (step.begin_new _ _ _ _ _ _) = same n s who
effect n s _ _ e (step.store_null V i name r o z j g seat more sets) =
    let k = e.knows i g (makes name r o z j) seat.gate seat.work in
    in_home (tablet_of_entry n name.entry) (o + j) _ (belongings_in_range.entry n name.entry k.inside)
    (subst (λ q. Sets n s.words V (region_word q (o + j)) (null_words z j)) k.kept.region sets)
    (inl (record { view = g; here = seat.gate; may = (let a = k.turn in omega arith) }))
effect n s who _ e (step.raise_for_new V _ _ _ _ _ _ _ sets) = aside n s who V _ _ sets tt
effect n s who _ e (step.store_new V _ _ _ _ _ _ _ _ _ _ sets _ _ _ _) = aside n s who V _ _ sets tt
effect n s who _ e (step.begins_choice _ _) = same n s who
effect n s who _ e (step.store_leaving V _ _ _ _ _ _ _ _ _ _ _ _ _ sets _ _) = aside n s who V _ _ sets tt
effect n s _ _ e (step.store_home V t r given spare _ is sets) =
    at_home t r (paused_by n s e (owes_home t r) given spare is (λ c. cc)) sets
effect n s who _ e (step.zero_top V _ _ _ _ _ sets) = aside n s who V _ _ sets tt
effect n s who _ e (step.ends_choice _ _ _) = same n s who
effect n s who _ e (step.store_trace V _ _ _ _ sets) = aside n s who V _ _ sets tt
effect n s who _ e (step.store_phase V _ sets _) = aside n s who V _ _ sets tt
effect n s who _ e (step.store_idle V _ _ _ _ _ sets _ _ _ _) = aside n s who V _ _ sets tt
effect n s who _ e (step.clear_leaving V _ _ _ _ _ _ _ sets) = aside n s who V _ _ sets tt
effect n s who _ e (step.alter_entry _ V _ _ p) = aside n s who V _ _ p.sets tt
effect n s who _ e (step.outside _ V _ _ only _ _ _) = left n s who V only

home_effect : (n : Numbers) (s : State) (who : ℕ) (V : Place → ℕ) → Effect n s who V → (t : ℕ) → t < tablets_of n →
    V (home t) ≢ s.words (home t) → Paused n s.gates
home_effect n s who V (stays k) t h changed = absurd (changed (k.homes t h))
home_effect n s who V (at_home u v paused sets) t h changed = paused
home_effect n s who V (in_home u a v inside sets by) t h changed = absurd (changed (sets.others (home t) h (λ c. cc)))

pub homes_change_in_pauses : HomesChangeInPauses
homes_change_in_pauses n s who z e k t h changed = home_effect n s who z.words (effect n s who z e k) t h changed

region_effect : (n : Numbers) (s : State) → Evacuation n s → (who : ℕ) (V : Place → ℕ) → Effect n s who V →
    (t a : ℕ) → t < tablets_of n →
    (layout n s).filled t ≤ a → a < n.words →
    V (region_word ((layout n s).home t) a) ≢ s.words (region_word ((layout n s).home t) a) → IsWriter s t who
region_effect n s e who V (stays k) t a h past below changed = absurd
    (changed (k.regions ((layout n s).home t) a (e.copy.home_in t h) below))
region_effect n s e who V (at_home u v paused sets) t a h past below changed =
    absurd (changed (sets.others (region_word ((layout n s).home t) a) (e.copy.home_in t h, below) (λ c. cc)))
region_effect n s e who V (in_home u b v inside sets by) t a h past below
    changed = elim (cases_eq ((layout n s).home t) ((layout n s).home u)) [
      | inr other ↦ absurd (changed (sets.others (region_word ((layout n s).home t) a) (e.copy.home_in t h, below)
          (λ c. other (let q : (layout n s).home t ≡ (layout n s).home u = cc in q))))
      | inl here ↦ (let one : u ≡ t = sym (one_home n (layout n s) e.copy t u h inside here) in
          elim (cases_eq a b) [
            | inr other ↦ absurd (changed (sets.others (region_word ((layout n s).home t) a) (e.copy.home_in t h, below)
                (λ c. other (let q : a ≡ b = cc in q))))
            | inl word ↦ elim by [
              | inl writer ↦ subst (λ q. IsWriter s q who) one writer
              | inr used ↦ absurd (let low = subst (λ q. b < (layout n s).filled q) one used in omega arith)
            ]
          ])
    ]

pub free_words_are_the_writers : FreeWordsAreTheWriters
free_words_are_the_writers n s who z e k t a h past below changed = region_effect n s e who z.words
    (effect n s who z e k) t a h past below changed
