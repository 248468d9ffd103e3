-- What servers keep stands after one step: the general law.
use Rattle.std.proofs.Common.{◌≡◌, ◌≢◌, ℕ, ⊎_elim, List, [], ◌∷◌, ◌++◌, length, set, slice_get, Option, Some, None, sym}
use Rattle.std.proofs.Common.{ap, subst, refl, ◌∙◌, length-set}
use Rattle.std.proofs.lemmas.Option.{same_Some, none-some}
use Rattle.mako_words.specs.declared.name.Name.{Name}
use Rattle.mako_words.specs.declared.value.Value.{Value}
use Rattle.mako_words.specs.declared.entry_word.EntryWord.{EntryWord}
use Rattle.mako_words.specs.Entries.{entry_at}
use Rattle.mako_shape.specs.declared.numbers.Numbers.{Numbers}
use Rattle.mako_model.specs.declared.point.Point.{Point}
use Rattle.mako_model.specs.Heaps.{Heap, fields_of, with_fields}
use Rattle.mako_model.specs.Lawful.{IsLawful, heap_after}
use Rattle.mako_model.specs.Legal.{Facts, state_of}
use Rattle.mako_model.specs.Dead.{made_by}
use Rattle.mako_model.proofs.Lists.{get_set_cases}
use Rattle.mako_model.proofs.Lookups.{name_cases, fields_same, fields_other}
use Rattle.mako_model.proofs.Changes.{Change, Nothing, Snapped, Rooted, Written, New, change_of}
use Rattle.mako_model.proofs.Histories.{state_push}
use Rattle.mako_ring.specs.declared.tracing.Scan.{Scan}
use Rattle.mako_ring.specs.Shades.{entry_of, IsMarked}
use Rattle.mako_ring.specs.TraceFacets.{Hand, empty, considering, marking, pushing, Off, nothing, popped, located, Work}
use Rattle.mako_ring.specs.TraceFacets.{TraceFacet, serving}
use Rattle.mako_shades.specs.Serving.{IsEntryMarked, HandStands, OffStands, ScanFits, ServerStands, SeatTracks}
use Rattle.mako_shades.specs.Serving.{ServerIs, AreServing}
use Rattle.mako_shades.specs.Stands.{SizesStay, SameEntries}
use Rattle.mako_shades.proofs.Words.{marked_same}
use Rattle.mako_shades.proofs.Taken.{is_taken, taken_word, taken_generation}

-- ---- objects keep their sizes

sizes_changed : (h after : Heap) (made : List Name) → Change h after made → SizesStay h after
sizes_changed h after made (Nothing e none) x fields is = (fields, ap (λ (g : Heap). fields_of g x) e ∙ is, refl)
sizes_changed h after made (Snapped e none) x fields is = (fields, ap (λ (g : Heap). fields_of g x) e ∙ is, refl)
sizes_changed h after made (Rooted m q v root at e none) x fields is =
    (fields, ap (λ (g : Heap). fields_of g x) e ∙ is, refl)
sizes_changed h after made (Written m q name old i v refers at e none) x fields is =
    ⊎_elim
    (λ t. (
      set old i v,
      ap (λ (g : Heap). fields_of g x) e ∙ ap (fields_of (with_fields h name (set old i v))) t.0 ∙ fields_same h name
          (set old i v),
      length-set old i v ∙ ap (length {A = Value})
          (same_Some old fields (sym refers.fields_are ∙ ap (fields_of h) (sym t.0) ∙ is)),
    ))
    (λ t. (fields, ap (λ (g : Heap). fields_of g x) e ∙ fields_other h name (set old i v) x t.0 ∙ is, refl))
    (name_cases x name)
sizes_changed h after made (New m q name count root fresh e one) x fields is =
    ⊎_elim
    (λ t. absurd (none-some fields (sym fresh ∙ ap (fields_of h) (sym t.0) ∙ is)))
    (λ t. (fields, ap (λ (g : Heap). fields_of g x) e ∙ fields_other h name _ x t.0 ∙ is, refl))
    (name_cases x name)

-- a lawful point changes the size of no object
pub sizes_stay : (w : Facts) (history : List Point) (p : Point) → IsLawful (state_of w history) p
    → SizesStay (state_of w history) (state_of w (history ++ p ∷ []))
sizes_stay w history p lawful =
    subst (SizesStay (state_of w history)) (sym (state_push w history p))
    (sizes_changed (state_of w history) (heap_after (state_of w history) p) (made_by p)
    (change_of (state_of w history) p lawful))

pub sizes_same : (h : Heap) → SizesStay h h
sizes_same h x fields is = (fields, is, refl)

-- ---- what a server keeps

-- a step unmarks nothing, moves no marked entry and keeps the sizes of objects
pub record Leaves (n : Numbers) (w : Facts) (words words' : List ℕ) (history history' : List Point)
    (cycle : ℕ) : Type 0 where
  pub marks : (x : Name) → IsMarked n words cycle x → IsMarked n words' cycle x
  pub addresses : (x : Name) → IsMarked n words cycle x
      → (entry_of n words' x.entry).address ≡ (entry_of n words x.entry).address
  pub sizes : SizesStay (state_of w history) (state_of w history')

-- the entry of a name that is being marked stays as it was loaded
abbrev pub HandKept : Numbers → List ℕ → List ℕ → Hand → Type 0
HandKept n words words' (marking x e) = entry_of n words' x.entry ≡ entry_of n words x.entry
HandKept n words words' h = Unit {0}

abbrev pub SeatKept : Numbers → List ℕ → List ℕ → TraceFacet → Type 0
SeatKept n words words' (serving job) = HandKept n words words' job.hand
SeatKept n words words' f = Unit {0}

hand_kept : (n : Numbers) (words words' : List ℕ) (cycle : ℕ) → SameEntries n words words' → (h : Hand)
    → HandStands n words cycle h → HandKept n words words' h
hand_kept n words words' cycle same empty stands = tt
hand_kept n words words' cycle same (considering x) stands = tt
hand_kept n words words' cycle same (marking x e) stands = ap entry_at (same x.entry stands.0.within)
hand_kept n words words' cycle same (pushing x) stands = tt

pub seat_kept : (n : Numbers) (w : Facts) (words words' : List ℕ) (history : List Point) (cycle : ℕ)
    → SameEntries n words words' → (f : TraceFacet) → SeatTracks n w words history cycle f → SeatKept n words words' f
seat_kept n w words words' history cycle same (serving job) stands =
    hand_kept n words words' cycle same job.hand stands.hand
seat_kept n w words words' history cycle same f stands = tt

pub leaves_entries : (n : Numbers) (w : Facts) (words words' : List ℕ) (history history' : List Point) (cycle : ℕ)
    → SameEntries n words words' → SizesStay (state_of w history) (state_of w history')
    → Leaves n w words words' history history' cycle
leaves_entries n w words words' history history' cycle same sizes = record {
  marks = λ x m. marked_same n words words' cycle x (same x.entry m.in_range) m;
  addresses = λ x m. ap (λ (k : ℕ). (entry_at k).address) (same x.entry m.in_range);
  sizes = sizes;
}

module _ (n : Numbers) (w : Facts) (words words' : List ℕ) (history history' : List Point) (cycle : ℕ)
    (l : Leaves n w words words' history history' cycle) where
  entry_name : (e : ℕ) → IsEntryMarked n words cycle e
      → IsMarked n words cycle (record { entry = e; generation = (entry_of n words e).generation })
  entry_name e m = record { in_range = m.in_range; taken = m.taken; generation = refl; epoch = m.epoch }

  pub entry_marks : (e : ℕ) → IsEntryMarked n words cycle e → IsEntryMarked n words' cycle e
  entry_marks e m =
      let now = l.marks (record { entry = e; generation = (entry_of n words e).generation }) (entry_name e m) in
      record { in_range = m.in_range; taken = now.taken; epoch = now.epoch }

  pub entry_address : (e : ℕ) → IsEntryMarked n words cycle e
      → (entry_of n words' e).address ≡ (entry_of n words e).address
  entry_address e m = l.addresses (record { entry = e; generation = (entry_of n words e).generation }) (entry_name e m)

  pub off_stays : (o : Off) → OffStands n words cycle o → OffStands n words' cycle o
  off_stays nothing stands = tt
  off_stays (popped e) stands = entry_marks e stands
  off_stays (located e address) stands = (entry_marks e stands.0, stands.1 ∙ sym (entry_address e stands.0))

  pub scan_stays : (s : Option Scan) → ScanFits n w words history cycle s → ScanFits n w words' history' cycle s
  scan_stays None stands = tt
  scan_stays (Some s) stands = let more = l.sizes stands.object stands.fields stands.object_is in record {
    object = stands.object;
    marked = l.marks stands.object stands.marked;
    address_is = stands.address_is ∙ sym (l.addresses stands.object stands.marked);
    fields = more.0;
    object_is = more.1;
    count = more.2 ∙ stands.count;
    below = stands.below;
  }

  pub hand_stays : (h : Hand) → HandKept n words words' h → HandStands n words cycle h → HandStands n words' cycle h
  hand_stays empty kept stands = tt
  hand_stays (considering x) kept stands = tt
  hand_stays (marking x e) kept stands = (
    is_taken n words' x.entry x.generation stands.0.within
        (ap (λ (k : EntryWord). k.taken) kept ∙ taken_word n words x.entry x.generation stands.0)
        (ap (λ (k : EntryWord). k.generation) kept ∙ taken_generation n words x.entry x.generation stands.0),
    kept ∙ stands.1,
    stands.2,
  )
  hand_stays (pushing x) kept stands = l.marks x stands

  pub server_stays : (job : Work) → HandKept n words words' job.hand → ServerStands n w words history cycle job
      → ServerStands n w words' history' cycle job
  server_stays job kept stands = record {
    own = stands.own;
    hand = hand_stays job.hand kept stands.hand;
    fresh = stands.fresh;
    stack = λ e on. entry_marks e (stands.stack e on);
    mine = stands.mine;
    once = stands.once;
    off = off_stays job.off stands.off;
    scan = scan_stays job.scan stands.scan;
  }

  seat_stays : (f : TraceFacet) → SeatKept n words words' f → SeatTracks n w words history cycle f
      → SeatTracks n w words' history' cycle f
  seat_stays (serving job) kept stands = server_stays job kept stands
  seat_stays f kept stands = tt

  module _ (facets : List TraceFacet) (are : AreServing n w words facets history cycle) where
    -- no facet changes
    pub serving_rest : ((seat : ℕ) (f : TraceFacet) → slice_get facets seat ≡ Some f → SeatKept n words words' f)
        → AreServing n w words' facets history' cycle
    serving_rest kept = record {
      each = λ seat f at. seat_stays f (kept seat f at) (are.each seat f at);
      sole = are.sole;
    }

    -- one facet changes
    module _ (seat : ℕ) (f g : TraceFacet) (here : slice_get facets seat ≡ Some f)
        (same : (s : ℕ) → ServerIs g s → ServerIs f s) where
      sole_here : (other : ℕ) (e : TraceFacet) (s : ℕ) → slice_get facets other ≡ Some e → other ≢ seat → ServerIs g s
          → ServerIs e s → ⊥
      sole_here other e s at ne is_g is_e = ne (are.sole other seat e f s at here is_e (same s is_g))

      pub serving_on :
          ((other : ℕ) (e : TraceFacet) → slice_get facets other ≡ Some e → other ≢ seat → SeatKept n words words' e)
          → SeatTracks n w words' history' cycle g
          → AreServing n w words' (set facets seat g) history' cycle
      serving_on kept stands = record {
        each = λ other e at.
            ⊎_elim (λ c. subst (SeatTracks n w words' history' cycle) c.1 stands)
            (λ c. seat_stays e (kept other e c.1 c.0) (are.each other e c.1))
            (get_set_cases facets seat other g e at);
        sole = λ i j a b s at_a at_b is_a is_b.
            ⊎_elim
            (λ c. ⊎_elim (λ d. c.0 ∙ sym d.0)
            (λ d. absurd (sole_here j b s d.1 d.0 (subst (λ k. ServerIs k s) (sym c.1) is_a) is_b))
            (get_set_cases facets seat j g b at_b))
            (λ c. ⊎_elim (λ d. absurd (sole_here i a s c.1 c.0 (subst (λ k. ServerIs k s) (sym d.1) is_b) is_a))
            (λ d. are.sole i j a b s c.1 d.1 is_a is_b) (get_set_cases facets seat j g b at_b))
            (get_set_cases facets seat i g a at_a);
      }
