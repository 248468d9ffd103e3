-- All that is reached from the opening, and the steps at which a point enters the history.
use Rattle.std.specs.Prelude.{ℕ, ◌≡◌, ◌+◌, ◌<◌, ◌≤◌, ◌^◌, List, [], ◌∷◌, ◌++◌, length, slice_set, Some}
use Rattle.mako_words.specs.declared.name.Name.{Name}
use Rattle.mako_words.specs.declared.value.Value.{Value}
use Rattle.mako_words.specs.declared.value.Value.TheVariants.{Ref}
use Rattle.mako_words.specs.Values.{value_word}
use Rattle.mako_words.specs.Entries.{entry_word}
use Rattle.mako_shape.specs.declared.numbers.Numbers.{Numbers}
use Rattle.mako_shape.specs.Limits.{IsShape}
use Rattle.mako_shape.specs.Places.{Place, entry, region_word, index}
use Rattle.mako_model.specs.declared.call.Call.TheVariants.{New, Put}
use Rattle.mako_model.specs.declared.reply.Reply.TheVariants.{Made, Done}
use Rattle.mako_model.specs.declared.point.Point.{Point}
use Rattle.mako_model.specs.declared.point.Point.TheVariants.{Did}
use Rattle.mako_model.specs.Heaps.{fields_of, root_of}
use Rattle.mako_model.specs.Legal.{Facts, state_of}
use Rattle.mako_model.specs.Starved.{words_made, words_by}
use Rattle.mako_gate.specs.Changes.{Sets}
use Rattle.mako_gate.specs.Standings.{GateFacet}
use Rattle.mako_layout.specs.Facets.{idle, uses, counts}
use Rattle.mako_layout.specs.Evacuations.{name_of, State, layout, Seat, Evacuation}
use Rattle.mako_layout.specs.StepParts.{new_entry}
use Rattle.mako_layout.specs.Steps.{Step}
use Rattle.mako_layout.specs.Openings.{opening_state}
use Rattle.mako_model.specs.Lawful.{heap_after}

-- the states after any steps of any seats
pub data Reaches (n : Numbers) (board : ℕ) : State → Type 0 where
  opens : Reaches n board (opening_state n board)
  goes_on : (s : State) (who : ℕ) (z : State) → Reaches n board s → Step n s who z → Reaches n board z

abbrev pub AllReachedHold : Type 0
AllReachedHold = (n : Numbers) → IsShape n → (board : ℕ) → board + 1 ≤ n.words → (s : State) → Reaches n board s →
    Evacuation n s

-- heap and words made are those that the history leaves
pub record IsOfHistory (w : Facts) (history : List Point) (s : State) : Type 0 where
  pub heap : s.heap ≡ state_of w history
  pub made : (t : ℕ) → s.made t ≡ words_made w t history

-- a new object's entry is stored, and the point that made it enters the history
abbrev pub NewIsPublished : Type 0
NewIsPublished = (n : Numbers) → IsShape n → (s : State) → Evacuation n s → (w : Facts) → w.entries ≡ n.entries →
    (history : List Point) → IsOfHistory w history s → (i : ℕ) (g : GateFacet) (name : Name) (r o fields m root : ℕ)
    (V : Place → ℕ) → Seat s i g (counts name r o (fields + 1)) → (layout n s).cycle < 2 ^ 20 →
    Sets n s.words V (entry name.entry)
    (entry_word (new_entry name (layout n s).cycle (index n (region_word r o)))) →
    let after : List Point = history ++ Did m (New root fields) (Made name) ∷ [] in
    Evacuation n (record s {
      words = V;
      heap = state_of w after;
      works = slice_set s.works i idle;
      made = λ t. words_made w t after;
    })

-- a field is stored, and the point that put it there enters the history
abbrev pub PutIsStored : Type 0
PutIsStored = (n : Numbers) (s : State) → Evacuation n s → (w : Facts) (history : List Point) →
    IsOfHistory w history s → (i : ℕ) (g : GateFacet) (x r o m to field from : ℕ) (v : Value) (V : Place → ℕ) →
    Seat s i g (uses x r o) →
    let name : Name = name_of x (s.words (entry x)) in
    let after : List Point = history ++ Did m (Put to field from) Done ∷ [] in
    (fields : List Value) → fields_of (state_of w history) name ≡ Some fields → field < length fields →
    root_of (state_of w history) m to ≡ Some (Ref name) → root_of (state_of w history) m from ≡ Some v →
    Sets n s.words V (region_word r (o + (1 + field))) (value_word v) →
    Evacuation n (record s { words = V; heap = state_of w after; made = λ t. words_made w t after })

-- a point that changes no object's fields and makes no object enters the history
abbrev pub OthersEnter : Type 0
OthersEnter = (n : Numbers) (s : State) → Evacuation n s → (w : Facts) (history : List Point) →
    IsOfHistory w history s → (point : Point) →
    ((name : Name) → fields_of (heap_after (state_of w history) point) name ≡ fields_of (state_of w history) name) →
    ((t : ℕ) → words_by w t point ≡ 0) →
    let after : List Point = history ++ point ∷ [] in
    Evacuation n (record s { heap = state_of w after; made = λ t. words_made w t after })
