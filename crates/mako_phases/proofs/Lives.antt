-- Live counts are kept, and count what was reachable at the snapshot.
use Rattle.std.proofs.Common.{◌≡◌, ◌≢◌, ℕ, zero, suc, ◌+◌, ◌*◌, ◌/◌, ◌%◌, ◌<◌, ◌≤◌, ◌^◌, ◌⊎◌, inl, inr, ⊎_elim, ◌↔◌}
use Rattle.std.proofs.Common.{List, [], ◌∷◌, ◌++◌, Contains, length, map, set, replicate, get_or, slice_get}
use Rattle.std.proofs.Common.{slice_index, Option, Some, None, Bool, cond, sym, ap, subst, refl, ◌∙◌, arith}
use Rattle.std.proofs.lemmas.Bool.{cases_eq, eq-eqb, ne_eqb}
use Rattle.std.proofs.lemmas.List.{length-set, get_or-set_same, get_or-set_other, length-replicate}
use Rattle.std.proofs.lemmas.List.Sums.{sum_by_push}
use Rattle.std.proofs.lemmas.List.Elements.{Contains-push_cases, Contains-append_left, Contains-append_right}
use Rattle.std.proofs.lemmas.List.Elements.{Contains-push}
use Rattle.mako_words.specs.declared.name.Name.{Name}
use Rattle.mako_words.specs.declared.live_word.LiveWord.{LiveWord}
use Rattle.mako_words.specs.Lives.{live_word, live_at}
use Rattle.mako_words.proofs.LiveWords.{live_at-live_word}
use Rattle.mako_shape.specs.declared.numbers.Numbers.{Numbers}
use Rattle.mako_shape.specs.Places.{live, entry, index, Within, word_at, total}
use Rattle.mako_shape.specs.Belongings.{tablet_of_entry, server_of_tablet}
use Rattle.mako_model.specs.declared.point.Point.{Point}
use Rattle.mako_model.specs.Legal.{Facts, state_of}
use Rattle.mako_model.specs.Dead.{names_made}
use Rattle.mako_model.proofs.Lists.{get_set_cases}
use Rattle.mako_phases.specs.Marked.{IsMarked}
use Rattle.mako_phases.proofs.MarkSteps.{marked_same as marked_stays}
use Rattle.mako_phases.specs.Lives.{LiveFacet, elsewhere, counting, counter_of, record_size, live_in, own_count}
use Rattle.mako_phases.specs.Lives.{owed_to, AreOnce, IsCounted, IsSum, CounterStands, CountFits, AreCounted}
use Rattle.mako_phases.specs.LiveSteps.{LiveScene, CountsStandIn, AgreeOnLives, OldMarksStay, OldMarksAdd, LiveStep}
use Rattle.mako_phases.specs.LiveSteps.{Unseen, Begins, Marks, Counts}
use Rattle.mako_phases.proofs.Members.{no_member}
use Rattle.mako_phases.proofs.Frames.{get_map, map_frame, agree_else, written, IsEntry}

once_push : (xs : List Name) (x : Name) → AreOnce xs → (¬ Contains xs x) → AreOnce (xs ++ x ∷ [])
once_push [] x once not = ((λ c. no_member x c), tt)
once_push (k ∷ xs) x once not = (
  (λ c. ⊎_elim (λ was. once.0 was)
      (λ same. not (subst (Contains (k ∷ xs)) (sym same) (Contains-append_left (k ∷ []) xs k (Contains-push [] k))))
      (Contains-push_cases xs x k c)),
  once_push xs x once.1 (λ c. not (Contains-append_right (k ∷ []) xs x c)),
)

-- a sum of the same names
pub sum_same : (w : Facts) (before : List Point) (Is Is' : Name → Type 0) (a : ℕ) → ((x : Name) → Is x ↔ Is' x)
    → IsSum w before Is a → IsSum w before Is' a
sum_same w before Is Is' a both s =
    record {
      names = s.names;
      once = s.once;
      each =
          λ x. ((λ c. (both x).0 ((s.each x).0 c)), (λ i. (s.each x).1 ((both x).1 i)));
      sum_is = s.sum_is;
    }

-- of one name more
sum_more : (w : Facts) (before : List Point) (Is Is' : Name → Type 0) (a : ℕ) (x : Name) → (¬ Is x)
    → ((y : Name) → Is' y ↔ (Is y ⊎ (x ≡ y))) → IsSum w before Is a
    → IsSum w before Is' (a + record_size (state_of w before) x)
sum_more w before Is Is' a x not both s = record {
  names = s.names ++ x ∷ [];
  once = once_push s.names x s.once (λ c. not ((s.each x).0 c));
  each = λ y. (
    (λ c. (both y).1 (⊎_elim (λ was. inl ((s.each y).0 was)) (λ e. inr e) (Contains-push_cases s.names x y c))),
    (λ i. ⊎_elim (λ was. Contains-append_left s.names (x ∷ []) y ((s.each y).1 was))
        (λ e. subst (Contains (s.names ++ x ∷ [])) e (Contains-push s.names x)) ((both y).0 i)),
  );
  sum_is =
      sum_by_push (record_size (state_of w before)) s.names x
      ∙ ap (λ (k : ℕ). k + record_size (state_of w before) x) s.sum_is;
}

pub sum_to : (w : Facts) (before : List Point) (Is : Name → Type 0) (a b : ℕ) → a ≡ b → IsSum w before Is a
    → IsSum w before Is b
sum_to w before Is a b e s = subst (IsSum w before Is) e s

zero_at : (k i : ℕ) → get_or {A = ℕ} (replicate k 0) i 0 ≡ 0
zero_at zero i = refl
zero_at (suc k) zero = refl
zero_at (suc k) (suc i) = zero_at k i

-- tablets of one server differ by their places
same_tablet : (d t u s : ℕ) → 0 < d → t / d ≡ s → u / d ≡ s → t % d ≡ u % d → t ≡ u
same_tablet d t u s some a b e =
    let x : d * (t / d) + t % d ≡ t = omega arith in
    let y : d * (u / d) + u % d ≡ u = omega arith in
    let z : d * (t / d) ≡ d * (u / d) = ap (λ (k : ℕ). d * k) (a ∙ sym b) in
    omega arith

-- ---- counts under the present cycle

count_now : (n : Numbers) (begun : ℕ) (counts : List ℕ) (t cycle : ℕ) → begun ≡ cycle
    → own_count n begun counts t cycle ≡ slice_index counts (t % n.tablets)
count_now n begun counts t cycle e =
    ap (λ (b : Bool). cond b (slice_index counts (t % n.tablets)) 0) (eq-eqb begun cycle e)

pub count_past : (n : Numbers) (begun : ℕ) (counts : List ℕ) (t cycle : ℕ) → begun ≢ cycle
    → own_count n begun counts t cycle ≡ 0
count_past n begun counts t cycle e =
    ap (λ (b : Bool). cond b (slice_index counts (t % n.tablets)) 0) (ne_eqb begun cycle e)

live_now : (l : LiveWord) (cycle : ℕ) → l.cycle ≡ cycle → live_in l cycle ≡ l.words
live_now l cycle e = ap (λ (b : Bool). cond b l.words 0) (eq-eqb l.cycle cycle e)

pub live_past : (l : LiveWord) (cycle : ℕ) → l.cycle ≢ cycle → live_in l cycle ≡ 0
live_past l cycle e = ap (λ (b : Bool). cond b l.words 0) (ne_eqb l.cycle cycle e)

owed_here : (n : Numbers) (x : Name) (size t : ℕ) → tablet_of_entry n x.entry ≡ t → owed_to n (Some (x, size)) t ≡ size
owed_here n x size t e = ap (λ (b : Bool). cond b size 0) (eq-eqb (tablet_of_entry n x.entry) t e)

owed_else : (n : Numbers) (x : Name) (size t : ℕ) → tablet_of_entry n x.entry ≢ t → owed_to n (Some (x, size)) t ≡ 0
owed_else n x size t e = ap (λ (b : Bool). cond b size 0) (ne_eqb (tablet_of_entry n x.entry) t e)

module _ (n : Numbers) (w : Facts) (before : List Point) (cycle : ℕ) where
  -- a server, where its live words and the old marks stay
  counter_on : (words words' : List ℕ) (s begun : ℕ) (counts : List ℕ) (owed : Option (Name × ℕ))
      → ((t : ℕ) → Within n (live t) → server_of_tablet n t ≡ s → word_at n words' (live t) ≡ word_at n words (live t))
      → ((t : ℕ) → server_of_tablet n t ≡ s → (x : Name)
      → IsCounted n words before cycle t x ↔ IsCounted n words' before cycle t x)
      → CounterStands n w words before cycle s begun counts owed
      → CounterStands n w words' before cycle s begun counts owed
  counter_on words words' s begun counts owed agree marks st = record {
    known = st.known;
    places = st.places;
    lives = λ t within own. ap (λ (k : ℕ). live_in (live_at k) cycle) (agree t within own) ∙ st.lives t within own;
    sums = λ t within own. sum_same w before (IsCounted n words before cycle t) (IsCounted n words' before cycle t)
        (own_count n begun counts t cycle + owed_to n owed t) (marks t own) (st.sums t within own);
  }

  counted_same : (words words' : List ℕ) → OldMarksStay n before cycle words words' → (t : ℕ) (x : Name)
      → IsCounted n words before cycle t x ↔ IsCounted n words' before cycle t x
  counted_same words words' stay t x = ((λ c. ((stay x c.1).1 c.0, c.1, c.2)), (λ c. ((stay x c.1).0 c.0, c.1, c.2)))

  module _ (words : List ℕ) (facets : List LiveFacet) (a : AreCounted n w words facets before cycle) where
    unseen : (words' : List ℕ) → length words' ≡ total n → AgreeOnLives n words words'
        → OldMarksStay n before cycle words words' → AreCounted n w words' facets before cycle
    unseen words' size agree stay = record {
      size = size;
      past = λ t within. subst (λ (k : ℕ). (live_at k).cycle ≤ cycle) (sym (agree t within)) (a.past t within);
      each = λ seat f at. fits f (a.each seat f at);
      sole = a.sole;
    }
      where
        fits : (f : LiveFacet) → CountFits n w words before cycle f → CountFits n w words' before cycle f
        fits elsewhere st = tt
        fits (counting s begun counts owed) st =
            counter_on words words' s begun counts owed (λ t within own. agree t within)
            (λ t own x. counted_same words words' stay t x) st

    -- one facet changes
    set_facet : (words' : List ℕ) (seat : ℕ) (f g : LiveFacet) → length words' ≡ total n
        → slice_get facets seat ≡ Some f → counter_of g ≡ counter_of f
        → ((t : ℕ) → Within n (live t) → (live_at (word_at n words' (live t))).cycle ≤ cycle)
        → ((other : ℕ) (e : LiveFacet) → other ≢ seat → slice_get facets other ≡ Some e
        → CountFits n w words' before cycle e) → CountFits n w words' before cycle g
        → AreCounted n w words' (set facets seat g) before cycle
    set_facet words' seat f g size here same past others fits = record {
      size = size;
      past = past;
      each = λ other e at.
          ⊎_elim (λ c. subst (CountFits n w words' before cycle) c.1 fits) (λ c. others other e c.0 c.1)
          (get_set_cases facets seat other g e at);
      sole = λ s i j x y. a.sole s i j
          (subst (λ (l : List (Option ℕ)). slice_get l i ≡ Some (Some s))
          (map_frame counter_of facets seat f g here same) x)
          (subst (λ (l : List (Option ℕ)). slice_get l j ≡ Some (Some s))
          (map_frame counter_of facets seat f g here same) y);
    }

    the_counter : (seat s begun : ℕ) (counts : List ℕ) (owed : Option (Name × ℕ))
        → slice_get facets seat ≡ Some (counting s begun counts owed)
        → CounterStands n w words before cycle s begun counts owed
    the_counter seat s begun counts owed here = a.each seat (counting s begun counts owed) here

    other_counter : (seat s begun : ℕ) (counts : List ℕ) (owed : Option (Name × ℕ))
        → slice_get facets seat ≡ Some (counting s begun counts owed)
        → (other u last : ℕ) (list : List ℕ) (debt : Option (Name × ℕ))
        → other ≢ seat → slice_get facets other ≡ Some (counting u last list debt) → u ≢ s
    other_counter seat s begun counts owed here other u last list debt ne there same =
        ne (a.sole u other seat (get_map counter_of facets other (counting u last list debt) there)
        (subst (λ (k : ℕ). slice_get (map counter_of facets) seat ≡ Some (Some k)) (sym same)
        (get_map counter_of facets seat (counting s begun counts owed) here)))

    begins : (seat s begun : ℕ) (counts : List ℕ) → slice_get facets seat ≡ Some (counting s begun counts None)
        → begun ≢ cycle
        → AreCounted n w words (set facets seat (counting s cycle (replicate n.tablets 0) None)) before cycle
    begins seat s begun counts here not =
        let st = the_counter seat s begun counts None here in
        let none : (t : ℕ) → own_count n cycle (replicate n.tablets 0) t cycle ≡ own_count n begun counts t cycle =
        λ t. count_now n cycle (replicate n.tablets 0) t cycle refl ∙ zero_at n.tablets (t % n.tablets)
        ∙ sym (count_past n begun counts t cycle not) in
        set_facet words seat (counting s begun counts None) (counting s cycle (replicate n.tablets 0) None) a.size
        here refl a.past (λ other e ne at. a.each other e at) (record {
          known = omega arith;
          places = length-replicate n.tablets 0;
          lives = λ t within own. st.lives t within own ∙ sym (none t);
          sums = λ t within own. sum_to w before (IsCounted n words before cycle t)
              (own_count n begun counts t cycle + 0) (own_count n cycle (replicate n.tablets 0) t cycle + 0)
              (ap (λ (k : ℕ). k + 0) (sym (none t))) (st.sums t within own);
        })

    -- the names of another tablet are counted as before
    counted_else : (words' : List ℕ) (x : Name) → OldMarksAdd n before cycle words words' x → (t : ℕ)
        → tablet_of_entry n x.entry ≢ t → (y : Name)
        → IsCounted n words before cycle t y ↔ IsCounted n words' before cycle t y
    counted_else words' x add t ne y = (
      (λ c. ((add y c.1).1 (inl c.0), c.1, c.2)),
      (λ c. (
        ⊎_elim (λ m. m) (λ e. absurd (ne (ap (λ (z : Name). tablet_of_entry n z.entry) e ∙ c.2)))
            ((add y c.1).0 c.0),
        c.1,
        c.2,
      )),
    )

    marks : (words' : List ℕ) (seat s begun : ℕ) (counts : List ℕ) (x : Name)
        → slice_get facets seat ≡ Some (counting s begun counts None)
        → server_of_tablet n (tablet_of_entry n x.entry) ≡ s
        → Contains (names_made before) x → (¬ IsMarked n words cycle x) → length words' ≡ total n
        → AgreeOnLives n words words' → OldMarksAdd n before cycle words words' x
        → AreCounted n w words'
        (set facets seat (counting s begun counts (Some (x, record_size (state_of w before) x)))) before cycle
    marks words' seat s begun counts x here own_x old unmarked size agree add =
        let st = the_counter seat s begun counts None here in
        set_facet words' seat (counting s begun counts None)
        (counting s begun counts (Some (x, record_size (state_of w before) x))) size here refl
        (λ t within. subst (λ (k : ℕ). (live_at k).cycle ≤ cycle) (sym (agree t within)) (a.past t within))
        (λ other e ne at. others e other ne at)
        (record {
          known = st.known;
          places = st.places;
          lives = λ t within own. ap (λ (k : ℕ). live_in (live_at k) cycle) (agree t within) ∙ st.lives t within own;
          sums = λ t within own. ⊎_elim
              (λ is.
              let more =
              sum_more w before (IsCounted n words before cycle t) (IsCounted n words' before cycle t)
              (own_count n begun counts t cycle + 0) x (λ c. unmarked c.0)
              (λ y. (
                (λ c. ⊎_elim (λ m. inl (m, c.1, c.2)) (λ e. inr e) ((add y c.1).0 c.0)),
                (λ c. ⊎_elim (λ m. ((add y m.1).1 (inl m.0), m.1, m.2))
                    (λ e. subst (IsCounted n words' before cycle t) e ((add x old).1 (inr refl), old, is)) c),
              )) (st.sums t within own) in
              let o = owed_here n x (record_size (state_of w before) x) t is in
              sum_to w before (IsCounted n words' before cycle t)
              (own_count n begun counts t cycle + 0 + record_size (state_of w before) x)
              (own_count n begun counts t cycle + owed_to n (Some (x, record_size (state_of w before) x)) t)
              (omega arith) more)
              (λ ne.
              let o = owed_else n x (record_size (state_of w before) x) t ne in
              sum_to w before (IsCounted n words' before cycle t) (own_count n begun counts t cycle + 0)
              (own_count n begun counts t cycle + owed_to n (Some (x, record_size (state_of w before) x)) t)
              (omega arith)
              (sum_same w before (IsCounted n words before cycle t) (IsCounted n words' before cycle t)
              (own_count n begun counts t cycle + 0) (counted_else words' x add t ne) (st.sums t within own)))
              (cases_eq (tablet_of_entry n x.entry) t);
        })
      where
        others : (e : LiveFacet) (other : ℕ) → other ≢ seat → slice_get facets other ≡ Some e
            → CountFits n w words' before cycle e
        others elsewhere other ne at = tt
        others (counting u last list debt) other ne at =
            let diff = other_counter seat s begun counts None here other u last list debt ne at in
            counter_on words words' u last list debt (λ t within own. agree t within)
            (λ t own. counted_else words' x add t (λ e. diff (sym own ∙ ap (server_of_tablet n) (sym e) ∙ own_x)))
            (a.each other (counting u last list debt) at)

    counts_it : (seat s : ℕ) (counts : List ℕ) (x : Name) (size : ℕ)
        → slice_get facets seat ≡ Some (counting s cycle counts (Some (x, size)))
        → Within n (live (tablet_of_entry n x.entry)) → server_of_tablet n (tablet_of_entry n x.entry) ≡ s
        → 0 < n.tablets → cycle < 2 ^ 20 → slice_index counts (tablet_of_entry n x.entry % n.tablets) + size < 2 ^ 32
        → AreCounted n w
        (set words (index n (live (tablet_of_entry n x.entry)))
        (live_word
        (record { cycle = cycle; words = slice_index counts (tablet_of_entry n x.entry % n.tablets) + size })))
        (set facets seat
        (counting s cycle
        (set counts (tablet_of_entry n x.entry % n.tablets)
        (slice_index counts (tablet_of_entry n x.entry % n.tablets) + size)) None)) before cycle
    counts_it seat s counts x size here within own_x some cycle_fits count_fits =
        set_facet after seat (counting s cycle counts (Some (x, size))) (counting s cycle next None)
        (length-set words (index n (live at)) v ∙ a.size) here refl
        (λ t in_t.
        ⊎_elim (λ c. let e : (live_at (word_at n after (live t))).cycle ≡ cycle = ap (λ (k : ℕ). (live_at k).cycle)
        c.1 ∙ ap (λ (l : LiveWord). l.cycle) back in omega arith)
        (λ c. subst (λ (k : ℕ). (live_at k).cycle ≤ cycle) (sym c.1) (a.past t in_t))
        (written n words (live at) v a.size within (live t) in_t))
        (λ other e ne there. others e other ne there)
        (record {
          known = st.known;
          places = length-set counts place more ∙ st.places;
          lives = λ t in_t own. ⊎_elim
              (λ c.
              let same : t ≡ at = cc (c.0) in
              ap (λ (k : ℕ). live_in (live_at k) cycle) c.1 ∙ ap (λ (l : LiveWord). live_in l cycle) back
              ∙ live_now (record { cycle = cycle; words = more }) cycle refl ∙ sym (count_at t same))
              (λ c. ap (λ (k : ℕ). live_in (live_at k) cycle) c.1 ∙ st.lives t in_t own
              ∙ sym (count_else t own (λ e. c.0 (ap live e))))
              (written n words (live at) v a.size within (live t) in_t);
          sums = λ t in_t own. ⊎_elim
              (λ same.
              let o = owed_here n x size t (sym same) in
              let c = count_now n cycle counts t cycle refl in
              let d = count_at t same in
              let e : slice_index counts (t % n.tablets) ≡ slice_index counts place =
              ap (λ (k : ℕ). slice_index counts (k % n.tablets)) same in
              sum_to w before (IsCounted n after before cycle t)
              (own_count n cycle counts t cycle + owed_to n (Some (x, size)) t)
              (own_count n cycle next t cycle + 0) (omega arith) (marked_same t (st.sums t in_t own)))
              (λ ne.
              let o = owed_else n x size t (λ e. ne (sym e)) in
              let d = count_else t own ne in
              sum_to w before (IsCounted n after before cycle t)
              (own_count n cycle counts t cycle + owed_to n (Some (x, size)) t)
              (own_count n cycle next t cycle + 0) (omega arith) (marked_same t (st.sums t in_t own)))
              (cases_eq t at);
        })
      where
        at : ℕ
        at = tablet_of_entry n x.entry

        place : ℕ
        place = at % n.tablets

        more : ℕ
        more = slice_index counts place + size

        v : ℕ
        v = live_word (record { cycle = cycle; words = more })

        after : List ℕ
        after = set words (index n (live at)) v

        next : List ℕ
        next = set counts place more

        st : CounterStands n w words before cycle s cycle counts (Some (x, size))
        st = the_counter seat s cycle counts (Some (x, size)) here

        back : live_at v ≡ record { cycle = cycle; words = more }
        back = live_at-live_word (record { cycle = cycle; words = more }) (count_fits, cycle_fits)

        count_at : (t : ℕ) → t ≡ at → own_count n cycle next t cycle ≡ more
        count_at t same =
            let l : place < length counts =
            (let h = st.places in let m : place < n.tablets = omega arith in omega arith) in
            count_now n cycle next t cycle refl ∙ ap (λ (k : ℕ). slice_index next (k % n.tablets)) same
            ∙ get_or-set_same counts place more 0 l

        count_else : (t : ℕ) → server_of_tablet n t ≡ s → t ≢ at
            → own_count n cycle next t cycle ≡ own_count n cycle counts t cycle
        count_else t own ne =
            count_now n cycle next t cycle refl
            ∙ get_or-set_other counts place (t % n.tablets) more 0
            (λ e. ne (same_tablet n.tablets t at s some own own_x e))
            ∙ sym (count_now n cycle counts t cycle refl)

        entry_same : (e : ℕ) → Within n (entry e) → word_at n after (entry e) ≡ word_at n words (entry e)
        entry_same e in_e = agree_else n IsEntry words (live at) v within (λ y. y) (entry e) tt in_e

        marked_on : (y : Name) → IsMarked n words cycle y ↔ IsMarked n after cycle y
        marked_on y = (
          (λ m. marked_as words after cycle y (entry_same y.entry m.in_range) m),
          (λ m. marked_as after words cycle y (sym (entry_same y.entry m.in_range)) m),
        )
          where
            marked_as : (words words' : List ℕ) (cycle : ℕ) (x : Name)
                → word_at n words' (entry x.entry) ≡ word_at n words (entry x.entry) → IsMarked n words cycle x
                → IsMarked n words' cycle x
            marked_as words words' cycle x same m = marked_stays n words words' cycle x same m

        marked_same : {k : ℕ} (t : ℕ) → IsSum w before (IsCounted n words before cycle t) k
            → IsSum w before (IsCounted n after before cycle t) k
        marked_same t sum =
            sum_same w before (IsCounted n words before cycle t) (IsCounted n after before cycle t) _
            (λ y. ((λ c. ((marked_on y).0 c.0, c.1, c.2)), (λ c. ((marked_on y).1 c.0, c.1, c.2)))) sum

        others : (e : LiveFacet) (other : ℕ) → other ≢ seat → slice_get facets other ≡ Some e
            → CountFits n w after before cycle e
        others elsewhere other ne there = tt
        others (counting u last list debt) other ne there =
            let diff = other_counter seat s cycle counts (Some (x, size)) here other u last list debt ne there in
            counter_on words after u last list debt
            (λ t in_t own.
            ⊎_elim (λ c. let same : t ≡ at = cc (c.0) in
            absurd (diff (sym own ∙ ap (server_of_tablet n) same ∙ own_x))) (λ c. c.1)
            (written n words (live at) v a.size within (live t) in_t))
            (λ t own y. ((λ c. ((marked_on y).0 c.0, c.1, c.2)), (λ c. ((marked_on y).1 c.0, c.1, c.2))))
            (a.each other (counting u last list debt) there)

-- each kind of step keeps the counts
module _ (n : Numbers) (w : Facts) (before : List Point) (cycle : ℕ) (s after : LiveScene)
    (c : CountsStandIn n w before cycle s) where
  counts_of : (a : LiveScene) → after ≡ a → CountsStandIn n w before cycle a → CountsStandIn n w before cycle after
  counts_of a e stand = subst (CountsStandIn n w before cycle) (sym e) stand

  pub counts_kept : LiveStep n w before cycle s after → CountsStandIn n w before cycle after
  counts_kept (Unseen words leaves stay e) =
      counts_of _ e (unseen n w before cycle s.words s.facets c words leaves.size leaves.same stay)
  counts_kept (Begins seat server begun counts here not e) =
      counts_of _ e (begins n w before cycle s.words s.facets c seat server begun counts here not)
  counts_kept (Marks words seat server begun counts x here own old unmarked leaves add e) =
      counts_of _ e
      (marks n w before cycle s.words s.facets c words seat server begun counts x here own old unmarked
      leaves.size leaves.same add)
  counts_kept (Counts seat server counts x size here within own some cycle_fits count_fits e) =
      counts_of _ e
      (counts_it n w before cycle s.words s.facets c seat server counts x size here within own some cycle_fits
      count_fits)
