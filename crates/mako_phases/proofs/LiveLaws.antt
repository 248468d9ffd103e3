-- Live counts from cycle to cycle, and what they tell.
use Rattle.std.proofs.Common.{◌≡◌, ℕ, ◌+◌, ◌<◌, ◌≤◌, List, [], ◌∷◌, Contains, length, map, slice_get, Option, Some}
use Rattle.std.proofs.Common.{None, sym, ap, subst, refl, ◌∙◌, arith}
use Rattle.mako_words.specs.declared.name.Name.{Name}
use Rattle.mako_words.specs.Lives.{live_at}
use Rattle.mako_shape.specs.declared.numbers.Numbers.{Numbers}
use Rattle.mako_shape.specs.Places.{live, Within, word_at, total}
use Rattle.mako_shape.specs.Belongings.{server_of_tablet}
use Rattle.mako_model.specs.declared.point.Point.{Point}
use Rattle.mako_model.specs.Heaps.{Heap}
use Rattle.mako_model.specs.Laws.{HasObject}
use Rattle.mako_model.specs.Legal.{Facts, state_of, IsLegal}
use Rattle.mako_model.specs.Reachable.{StandsInRoot, StandsInField, LeadsTo, IsReachable}
use Rattle.mako_model.specs.Dead.{names_made}
use Rattle.mako_model.proofs.Closed.{closed_heap, made_are_objects}
use Rattle.mako_phases.specs.Marked.{IsMarked}
use Rattle.mako_phases.specs.Lives.{LiveFacet, elsewhere, counting, counter_of, live_count, own_count, owed_to}
use Rattle.mako_phases.specs.Lives.{IsCounted, IsSum, CounterStands, CountFits, AreCounted, ArePast}
use Rattle.mako_phases.specs.LiveSteps.{AgreeOnLives, MarksAreTheReached, CountsReached}
use Rattle.mako_phases.proofs.Members.{no_member}
use Rattle.mako_phases.proofs.Lives.{sum_to, count_past, live_past}

-- ---- the beginning, and the end

nothing_counted : (n : Numbers) (w : Facts) (words : List ℕ) (before : List Point) (cycle t : ℕ)
    → ((x : Name) → ¬ IsMarked n words cycle x) → IsSum w before (IsCounted n words before cycle t) 0
nothing_counted n w words before cycle t none =
    record {
      names = [];
      once = tt;
      each = λ x. ((λ c. absurd (no_member x c)), (λ c. absurd (none x c.0)));
      sum_is = refl;
    }

counts_begin : (n : Numbers) (w : Facts) (before : List Point) (cycle : ℕ) (words : List ℕ) (facets : List LiveFacet)
    → length words ≡ total n
    → ((t : ℕ) → Within n (live t) → (live_at (word_at n words (live t))).cycle < cycle)
    → ((seat s begun : ℕ) (counts : List ℕ) (owed : Option (Name × ℕ))
    → slice_get facets seat ≡ Some (counting s begun counts owed)
    → (begun < cycle) × (owed ≡ None) × (length counts ≡ n.tablets))
    → ((x : Name) → ¬ IsMarked n words cycle x)
    → ((s i j : ℕ) → slice_get (map counter_of facets) i ≡ Some (Some s)
    → slice_get (map counter_of facets) j ≡ Some (Some s) → i ≡ j)
    → AreCounted n w words facets before cycle
counts_begin n w before cycle words facets size past rest none sole = record {
  size = size;
  past = λ t within. let h = past t within in omega arith;
  each = λ seat f at. fits f seat at;
  sole = sole;
}
  where
    fits : (f : LiveFacet) (seat : ℕ) → slice_get facets seat ≡ Some f → CountFits n w words before cycle f
    fits elsewhere seat at = tt
    fits (counting s begun counts owed) seat at =
        let r = rest seat s begun counts owed at in
        let low = r.0 in
        let zero_is : (t : ℕ) → own_count n begun counts t cycle ≡ 0 =
        λ t. count_past n begun counts t cycle (λ e. omega arith) in record {
          known = omega arith;
          places = r.2;
          lives =
              λ t within own. live_past (live_at (word_at n words (live t))) cycle
              (λ e. let h = past t within in omega arith) ∙ sym (zero_is t);
          sums = λ t within own.
              let z = zero_is t in
              let o : owed_to n owed t ≡ 0 = ap (λ (d : Option (Name × ℕ)). owed_to n d t) r.1 in
              sum_to w before (IsCounted n words before cycle t) 0
              (own_count n begun counts t cycle + owed_to n owed t) (omega arith)
              (nothing_counted n w words before cycle t none);
        }

-- ---- what counts tell

-- what is handed on along paths reaches all that is reachable
module _ (h : Heap) (P : Name → Type 0) (handed : (object x : Name) → StandsInField h object x → P object → P x) where
  along : (from : Name) (path : List Name) (x : Name) → P from → LeadsTo h from path x → P x
  along from [] x is leads = subst P leads is
  along from (next ∷ path) x is leads = along next path x (handed from next leads.0 is) leads.1

  reaches_all : ((x : Name) → StandsInRoot h x → P x) → (x : Name) → IsReachable h x → P x
  reaches_all roots x reached = along reached.first reached.path x (roots reached.first reached.in_root) reached.leads

reached_made : (w : Facts) (before : List Point) → IsLegal w before → (x : Name) → IsReachable (state_of w before) x
    → Contains (names_made before) x
reached_made w before legal x reach =
    let closed = closed_heap w before legal in
    (made_are_objects w before legal x).1
    (reaches_all (state_of w before) (HasObject (state_of w before)) (λ object y field is. closed.fields object y field)
    (λ y root. closed.roots root.0 root.1 y root.2) x reach)

module _ (n : Numbers) (w : Facts) (words : List ℕ) (facets : List LiveFacet) (before : List Point) (cycle : ℕ) where
  pub lives_counted : AreCounted n w words facets before cycle
      → (seat s begun : ℕ) (counts : List ℕ) → slice_get facets seat ≡ Some (counting s begun counts None)
      → (t : ℕ) → Within n (live t) → server_of_tablet n t ≡ s
      → IsSum w before (IsCounted n words before cycle t) (live_count n words t cycle)
  lives_counted a seat s begun counts here t within own =
      let st : CounterStands n w words before cycle s begun counts None =
      a.each seat (counting s begun counts None) here in
      let e = st.lives t within own in
      sum_to w before (IsCounted n words before cycle t) (own_count n begun counts t cycle + 0)
      (live_count n words t cycle) (omega arith) (st.sums t within own)

  pub lives_reached : IsLegal w before → MarksAreTheReached n w words before cycle
      → AreCounted n w words facets before cycle
      → (seat s begun : ℕ) (counts : List ℕ) → slice_get facets seat ≡ Some (counting s begun counts None)
      → (t : ℕ) → Within n (live t) → server_of_tablet n t ≡ s
      → CountsReached n w before t (live_count n words t cycle)
  lives_reached legal marks a seat s begun counts here t within own =
      let sum = lives_counted a seat s begun counts here t within own in record {
        names = sum.names;
        once = sum.once;
        reached = λ x reach of_t. (sum.each x).1 (marks.reached x reach, reached_made w before legal x reach, of_t);
        none_else = λ x unreached c. let is = (sum.each x).0 c in marks.others x is.1 unreached is.0;
        tablet = λ x c. ((sum.each x).0 c).2;
        sum_is = sum.sum_is;
      }

-- ---- between the cycles

pub counts_end : (n : Numbers) (w : Facts) (words : List ℕ) (facets : List LiveFacet) (before : List Point)
    (cycle : ℕ) → AreCounted n w words facets before cycle
    → ((seat s begun : ℕ) (counts : List ℕ) (owed : Option (Name × ℕ))
    → slice_get facets seat ≡ Some (counting s begun counts owed) → owed ≡ None) → ArePast n words facets cycle
counts_end n w words facets before cycle a none = record {
  past = a.past;
  each = λ seat s begun counts owed at. let st : CounterStands n w words before cycle s begun counts owed =
      a.each seat (counting s begun counts owed) at in (st.known, none seat s begun counts owed at, st.places);
  sole = a.sole;
}

pub past_stays : (n : Numbers) (words words' : List ℕ) (facets : List LiveFacet) (cycle : ℕ)
    → ArePast n words facets cycle → AgreeOnLives n words words' → ArePast n words' facets cycle
past_stays n words words' facets cycle p agree = record {
  past = λ t within. subst (λ (k : ℕ). (live_at k).cycle ≤ cycle) (sym (agree t within)) (p.past t within);
  each = p.each;
  sole = p.sole;
}

pub past_begins : (n : Numbers) (w : Facts) (words : List ℕ) (facets : List LiveFacet) (before : List Point)
    (cycle : ℕ) → ArePast n words facets cycle → length words ≡ total n
    → ((x : Name) → ¬ IsMarked n words (cycle + 1) x) → AreCounted n w words facets before (cycle + 1)
past_begins n w words facets before cycle p size none =
    counts_begin n w before (cycle + 1) words facets size (λ t within. let h = p.past t within in omega arith)
    (λ seat s begun counts owed at. let e = p.each seat s begun counts owed at in let low = e.0 in
    (omega arith, e.1, e.2)) none p.sole
