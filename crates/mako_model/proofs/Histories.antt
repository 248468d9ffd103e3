-- Histories that go on, their prefixes, and the names that they made.
use Rattle.std.proofs.Common.{◌≡◌, List, [], ◌∷◌, ◌++◌, Contains, flat_map, sym, ap, subst, ◌∙◌, append-nil}
use Rattle.std.specs.List.{fold}
use Rattle.std.proofs.lemmas.List.Concat.{flat_map-append}
use Rattle.std.proofs.lemmas.List.Elements.{Contains-append_left}
use Rattle.std.proofs.lemmas.List.Sums.{fold_push}
use Rattle.mako_words.specs.declared.name.Name.{Name}
use Rattle.mako_model.specs.declared.point.Point.{Point}
use Rattle.mako_model.specs.Heaps.{Heap, board_name}
use Rattle.mako_model.specs.Lawful.{IsLawful, heap_after}
use Rattle.mako_model.specs.Legal.{Facts, opening_of, state_of, AreLawful, IsLegal}
use Rattle.mako_model.specs.Dead.{made_by, names_made}

-- the heap with one point more
pub state_push : (w : Facts) (history : List Point) (p : Point)
    → state_of w (history ++ p ∷ []) ≡ heap_after (state_of w history) p
state_push w history p = fold_push heap_after (opening_of w) history p

pub lawful_append : (h : Heap) (start rest : List Point) → AreLawful h start → AreLawful (fold heap_after h start) rest
    → AreLawful h (start ++ rest)
lawful_append h [] rest front_is rest_is = rest_is
lawful_append h (p ∷ start) rest front_is rest_is =
    (front_is.0, lawful_append (heap_after h p) start rest front_is.1 rest_is)

pub lawful_prefix : (h : Heap) (start rest : List Point) → AreLawful h (start ++ rest) → AreLawful h start
lawful_prefix h [] rest all = tt
lawful_prefix h (p ∷ start) rest all = (all.0, lawful_prefix (heap_after h p) start rest all.1)

pub lawful_rest : (h : Heap) (start rest : List Point) → AreLawful h (start ++ rest)
    → AreLawful (fold heap_after h start) rest
lawful_rest h [] rest all = all
lawful_rest h (p ∷ start) rest all = lawful_rest (heap_after h p) start rest all.1

-- a legal history with one lawful point more is legal
pub legal_push : (w : Facts) (history : List Point) (p : Point) → IsLegal w history → IsLawful (state_of w history) p
    → IsLegal w (history ++ p ∷ [])
legal_push w history p legal lawful = lawful_append (opening_of w) history (p ∷ []) legal (lawful, tt)

-- the start of a legal history is legal
pub legal_prefix : (w : Facts) (start rest : List Point) → IsLegal w (start ++ rest) → IsLegal w start
legal_prefix w start rest legal = lawful_prefix (opening_of w) start rest legal

-- each point of a legal history is lawful where it stands
pub legal_at : (w : Facts) (before : List Point) (p : Point) (after : List Point) → IsLegal w (before ++ p ∷ after)
    → IsLawful (state_of w before) p
legal_at w before p after legal = (lawful_rest (opening_of w) before (p ∷ after) legal).0

-- what each lawful point keeps is kept by all of them
pub kept_along : (P : Heap → Type 0) → ((h : Heap) (p : Point) → IsLawful h p → P h → P (heap_after h p))
    → (h : Heap) (points : List Point) → AreLawful h points → P h → P (fold heap_after h points)
kept_along P step h [] all at = at
kept_along P step h (p ∷ points) all at = kept_along P step (heap_after h p) points all.1 (step h p all.0 at)

-- so what holds at the opening, and is kept, holds of each legal history's heap
pub kept : (P : Heap → Type 0) → ((h : Heap) (p : Point) → IsLawful h p → P h → P (heap_after h p))
    → (w : Facts) (history : List Point) → IsLegal w history → P (opening_of w) → P (state_of w history)
kept P step w history legal at = kept_along P step (opening_of w) history legal at

pub names_append : (start rest : List Point) → names_made (start ++ rest) ≡ names_made start ++ flat_map made_by rest
names_append start rest = ap (λ names. board_name ∷ names) (flat_map-append made_by start rest)

pub names_push : (history : List Point) (p : Point) → names_made (history ++ p ∷ []) ≡ names_made history ++ made_by p
names_push history p = names_append history (p ∷ [])
    ∙ ap (λ names. names_made history ++ names) (append-nil (made_by p))

-- what was made stays made
pub made_stays : (start rest : List Point) (name : Name) → Contains (names_made start) name
    → Contains (names_made (start ++ rest)) name
made_stays start rest name made =
    subst (λ names. Contains names name) (sym (names_append start rest))
    (Contains-append_left (names_made start) (flat_map made_by rest) name made)
