-- What the collector finds while it chooses, and the tablets that it chooses of all servers.
use Rattle.std.specs.Prelude.{ℕ, zero, suc, ◌≡◌, ◌+◌, ◌*◌, ◌<◌, List, [], ◌∷◌, ◌++◌, map}
use Rattle.std.specs.List.{Contains}
use Rattle.mako_shape.specs.declared.numbers.Numbers.{Numbers}
use Rattle.mako_shape.specs.Places.{top, Within, word_at}
use Rattle.mako_choice.specs.declared.chooser.Used.{Used}
use Rattle.mako_choice.specs.Choices.{choice}
use Rattle.mako_phases.specs.Lives.{live_count, AreOnce}
use Rattle.mako_phases.specs.LiveSteps.{AgreeOnLives}

-- the used and the live words of a tablet, as its top and its live word have them
abbrev pub used_at : Numbers → List ℕ → ℕ → ℕ → Used
used_at n words cycle t = record { top = word_at n words (top t); live = live_count n words t cycle }

-- those of the first so many tablets of a server
unfoldable pub used_upto : Numbers → List ℕ → (cycle s : ℕ) → ℕ → List Used
used_upto n words cycle s zero = []
used_upto n words cycle s (suc k) =
    used_upto n words cycle s k ++ used_at n words cycle (s * n.tablets + k) ∷ []

-- the tablets at these places of a server
abbrev pub tablets_at : Numbers → ℕ → List ℕ → List ℕ
tablets_at n s places = map (λ place. s * n.tablets + place) places

-- the tablets chosen of the first so many servers, in order
unfoldable pub chosen_upto : Numbers → List ℕ → ℕ → ℕ → List ℕ
chosen_upto n words cycle zero = []
chosen_upto n words cycle (suc s) =
    chosen_upto n words cycle s ++ tablets_at n s (choice (used_upto n words cycle s n.tablets) n.spare)

-- what the collector has found of the first tablets of a server, and what it has chosen of those before, is of these
-- words
pub record AreFound (n : Numbers) (words : List ℕ) (cycle s place : ℕ) (used : List Used) (chosen : List ℕ) : Type 0
  where
    pub used_are : used ≡ used_upto n words cycle s place
    pub chosen_are : chosen ≡ chosen_upto n words cycle s

-- nothing is found at first
abbrev pub FindingsBegin : Type 0
FindingsBegin = (n : Numbers) (words : List ℕ) (cycle : ℕ) → AreFound n words cycle 0 0 [] []

-- findings stand as long as no live word and no top is stored
abbrev pub FindingsStay : Type 0
FindingsStay = (n : Numbers) (words words' : List ℕ) (cycle s place : ℕ) (used : List Used) (chosen : List ℕ)
    → AgreeOnLives n words words' → ((t : ℕ) → Within n (top t) → word_at n words' (top t) ≡ word_at n words (top t))
    → s < n.servers → place < n.tablets + 1
    → AreFound n words cycle s place used chosen → AreFound n words' cycle s place used chosen

-- the next tablet is found
abbrev pub FindingsGoOn : Type 0
FindingsGoOn = (n : Numbers) (words : List ℕ) (cycle s place : ℕ) (used : List Used) (chosen : List ℕ)
    → AreFound n words cycle s place used chosen
    → AreFound n words cycle s (place + 1) (used ++ used_at n words cycle (s * n.tablets + place) ∷ []) chosen

-- all of the server's are found, and it is chosen of them
abbrev pub FindingsAreChosenOf : Type 0
FindingsAreChosenOf = (n : Numbers) (words : List ℕ) (cycle s : ℕ) (used : List Used) (chosen : List ℕ)
    → AreFound n words cycle s n.tablets used chosen
    → AreFound n words cycle (s + 1) 0 [] (chosen ++ tablets_at n s (choice used n.spare))

-- each tablet is chosen once, and is one that there is
abbrev pub TabletsAreChosenOnce : Type 0
TabletsAreChosenOnce = (n : Numbers) (words : List ℕ) (cycle s : ℕ)
    → AreOnce (chosen_upto n words cycle s) × ((t : ℕ) → Contains (chosen_upto n words cycle s) t → t < s * n.tablets)
