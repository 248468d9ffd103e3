-- Kinds of step of one view that leave the layout: what is loaded from entry, home and top, and the raises of the top.
use Rattle.std.proofs.Common.{◌≡◌, ◌≢◌, ℕ, ◌+◌, ◌<◌, ◌≤◌, inl, inr, true, false, set, slice_get, Some, sym, ap, ◌∙◌}
use Rattle.std.proofs.Common.{refl, subst, arith}
use Rattle.std.proofs.lemmas.Bool.{cases_eq}
use Rattle.mako_shape.specs.declared.numbers.Numbers.{Numbers}
use Rattle.mako_shape.specs.Places.{Place, home, top, leaving, region_word, entry}
use Rattle.mako_shape.specs.Belongings.{tablet_of_entry}
use Rattle.mako_shape.proofs.BelongingLaws.{belongings_in_range}
use Rattle.mako_layout.specs.Layouts.{entries_of, regions_of}
use Rattle.mako_layout.specs.Facets.{stands, Work, idle, reads, uses, holds_home, moves, asks, tops, finds, fills}
use Rattle.mako_layout.specs.Facets.{raises, makes, counts}
use Rattle.mako_layout.specs.Evacuations.{to_raise, counted_in, Raises, Makes, Knows, State, layout, Evacuation}
use Rattle.mako_gate.specs.Standings.{GateFacet, admitted, holds_turn, writes}
use Rattle.mako_gate.specs.Changes.{Sets}
use Rattle.mako_gate.proofs.Numbers.{holds_le, count_at, count_off}
use Rattle.mako_layout.proofs.Works.{load_kept}
use Rattle.mako_layout.proofs.Debts.{home_is, filled_is, top_kept}
use Rattle.mako_words.specs.declared.name.Name.{Name}
use Rattle.mako_words.specs.declared.entry_word.EntryWord.{EntryWord}
use Rattle.mako_words.specs.Entries.{entry_at}

module _ (n : Numbers) (s : State) (e : Evacuation n s) (i : ℕ) (g : GateFacet) (at_g : slice_get s.gates i ≡ Some g)
  where
    -- the entry of the call's object is loaded
    pub load_entry : (x : ℕ) → slice_get s.works i ≡ Some idle → x < entries_of n →
        1 ≤ admitted (tablet_of_entry n x) g.standing → ((layout n s).slot x).taken ≡ true →
        Evacuation n
        (record s { works = set s.works i (reads x ((layout n s).slot x).region ((layout n s).slot x).offset) })
    load_entry x at inside enters taken =
        load_kept n s e i g idle at_g at (reads x ((layout n s).slot x).region ((layout n s).slot x).offset)
        (record { raise = λ t. refl; count = λ t. refl })
        (record { inside = inside; enters = enters; taken = taken; present = λ _. (refl, refl) })

    -- the home word is loaded, and the address is in that region: it is the present one
    pub load_home : (x r o : ℕ) → slice_get s.works i ≡ Some (reads x r o) → r ≡ s.words (home (tablet_of_entry n x)) →
        Evacuation n (record s { works = set s.works i (uses x r o) })
    load_home x r o at found =
        let k = e.knows i g (reads x r o) at_g at in
        let here : r ≡ (layout n s).home (tablet_of_entry n x) = found
        ∙ sym (home_is n s e i g at_g (tablet_of_entry n x) (omega (arith, k.enters))) in
        load_kept n s e i g (reads x r o) at_g at (uses x r o) (record { raise = λ t. refl; count = λ t. refl })
        (record {
          inside = k.inside;
          enters = k.enters;
          taken = k.taken;
          region = (k.present here).0;
          offset = (k.present here).1;
          home = here;
        })

    -- or it is not: the home is kept
    pub keep_home : (w : Work) (x : ℕ) → slice_get s.works i ≡ Some w →
        ((t : ℕ) → (to_raise n t w ≡ 0) × (counted_in n t w ≡ 0)) → x < entries_of n →
        1 ≤ stands (tablet_of_entry n x) g →
        Evacuation n (record s { works = set s.works i (holds_home x (s.words (home (tablet_of_entry n x)))) })
    keep_home w x at owes inside there =
        load_kept n s e i g w at_g at (holds_home x (s.words (home (tablet_of_entry n x))))
        (record { raise = λ t. sym (owes t).0; count = λ t. sym (owes t).1 })
        (record {
          inside = inside;
          stands_there = there;
          region = sym (home_is n s e i g at_g (tablet_of_entry n x) there);
        })

    -- with another entry of the tablet in view
    pub turns_to : (x y r : ℕ) → slice_get s.works i ≡ Some (holds_home x r) → y < entries_of n →
        tablet_of_entry n y ≡ tablet_of_entry n x → Evacuation n (record s { works = set s.works i (holds_home y r) })
    turns_to x y r at inside same =
        let k = e.knows i g (holds_home x r) at_g at in
        load_kept n s e i g (holds_home x r) at_g at (holds_home y r) (record { raise = λ t. refl; count = λ t. refl })
        (record {
          inside = inside;
          stands_there = subst (λ q. 1 ≤ stands q g) (sym same) k.stands_there;
          region = k.region ∙ ap (layout n s).home (sym same);
        })

    -- an entry of the tablet is loaded under the kept home: it is in it, or a writer is to move it, or it is passed
    -- over
    pub finds_home : (x y r : ℕ) → slice_get s.works i ≡ Some (holds_home x r) → y < entries_of n →
        tablet_of_entry n y ≡ tablet_of_entry n x → 1 ≤ admitted (tablet_of_entry n y) g.standing →
        ((layout n s).slot y).taken ≡ true → ((layout n s).slot y).region ≡ r →
        Evacuation n (record s { works = set s.works i (uses y r ((layout n s).slot y).offset) })
    finds_home x y r at inside same enters taken here =
        let k = e.knows i g (holds_home x r) at_g at in
        load_kept n s e i g (holds_home x r) at_g at (uses y r ((layout n s).slot y).offset)
        (record { raise = λ t. refl; count = λ t. refl })
        (record {
          inside = inside;
          enters = enters;
          taken = taken;
          region = here;
          offset = refl;
          home = k.region ∙ ap (layout n s).home (sym same);
        })

    pub finds_away : (x y r : ℕ) → slice_get s.works i ≡ Some (holds_home x r) → y < entries_of n →
        tablet_of_entry n y ≡ tablet_of_entry n x → 1 ≤ writes (tablet_of_entry n y) g →
        ((layout n s).slot y).taken ≡ true → ((layout n s).slot y).epoch ≡ (layout n s).cycle →
        ((layout n s).slot y).region ≢ r →
        Evacuation n (record s { works = set s.works i (moves y (entry_at (s.words (entry y))) r) })
    finds_away x y r at inside same writer taken epoch out =
        let k = e.knows i g (holds_home x r) at_g at in
        load_kept n s e i g (holds_home x r) at_g at (moves y (entry_at (s.words (entry y))) r)
        (record { raise = λ t. refl; count = λ t. refl })
        (record {
          inside = inside;
          writer = writer;
          region = k.region ∙ ap (layout n s).home (sym same);
          taken = taken;
          epoch = epoch;
          out = out;
          as_found = record {
            taken = refl;
            generation = refl;
            epoch = refl;
            address = (e.records y inside taken).address;
          };
        })

    -- the top is loaded, and the copy begins
    pub load_top : (x : ℕ) (found : EntryWord) (r : ℕ) → slice_get s.works i ≡ Some (moves x found r) →
        Evacuation n (record s { works = set s.works i (fills x found r (s.words (top (tablet_of_entry n x))) 0) })
    load_top x found r at =
        let k = e.knows i g (moves x found r) at_g at in
        let t : ℕ = tablet_of_entry n x in
        load_kept n s e i g (moves x found r) at_g at (fills x found r (s.words (top t)) 0)
        (record { raise = λ u. refl; count = λ u. refl })
        (record {
          inside = k.inside;
          writer = k.writer;
          kept = record {
            region = k.region;
            offset = sym
                (filled_is n s e i g at_g (moves x found r) at t (belongings_in_range.entry n x k.inside) k.writer
                refl refl);
          };
          taken = k.taken;
          epoch = k.epoch;
          out = k.out;
          as_found = k.as_found;
          most = omega arith;
          words = λ b less. absurd (omega arith);
        })

    -- a New under the turn loads leaving, which is 0; then top, with room; then entries, until one is free; then home
    pub load_leaving : (x : ℕ) → slice_get s.works i ≡ Some idle → x < entries_of n →
        1 ≤ holds_turn (tablet_of_entry n x) g.standing → s.words (leaving (tablet_of_entry n x)) ≡ 0 →
        Evacuation n (record s { works = set s.works i (asks x) })
    load_leaving x at inside turn stays =
        load_kept n s e i g idle at_g at (asks x) (record { raise = λ u. refl; count = λ u. refl })
        (record { inside = inside; turn = turn; stays = stays })

    pub load_room : (x z : ℕ) → slice_get s.works i ≡ Some (asks x) → 1 ≤ z →
        s.words (top (tablet_of_entry n x)) + z ≤ n.words →
        Evacuation n (record s { works = set s.works i (tops x (s.words (top (tablet_of_entry n x))) z) })
    load_room x z at some fits =
        let k = e.knows i g (asks x) at_g at in
        let t : ℕ = tablet_of_entry n x in
        load_kept n s e i g (asks x) at_g at (tops x (s.words (top t)) z)
        (record { raise = λ u. refl; count = λ u. refl })
        (record {
          asks = k;
          offset = sym
              (filled_is n s e i g at_g (asks x) at t (belongings_in_range.entry n x k.inside) (omega (arith, k.turn))
              refl refl);
          some = some;
          fits = fits;
        })

    pub skip_entry : (x o z : ℕ) → slice_get s.works i ≡ Some (tops x o z) → x + 1 < entries_of n →
        tablet_of_entry n (x + 1) ≡ tablet_of_entry n x →
        Evacuation n (record s { works = set s.works i (tops (x + 1) o z) })
    skip_entry x o z at inside same =
        let k = e.knows i g (tops x o z) at_g at in
        load_kept n s e i g (tops x o z) at_g at (tops (x + 1) o z) (record { raise = λ u. refl; count = λ u. refl })
        (record {
          asks = record {
            inside = inside;
            turn = subst (λ q. 1 ≤ holds_turn q g.standing) (sym same) k.asks.turn;
            stays = ap (layout n s).leaving same ∙ k.asks.stays;
          };
          offset = k.offset ∙ ap (layout n s).filled (sym same);
          some = k.some;
          fits = k.fits;
        })

    pub find_entry : (name : Name) (o z : ℕ) → slice_get s.works i ≡ Some (tops name.entry o z) →
        ((layout n s).slot name.entry).taken ≡ false →
        ((layout n s).slot name.entry).generation ≡ name.generation →
        Evacuation n (record s { works = set s.works i (finds name o z) })
    find_entry name o z at free next =
        load_kept n s e i g (tops name.entry o z) at_g at (finds name o z)
        (record { raise = λ u. refl; count = λ u. refl })
        (record { tops = e.knows i g (tops name.entry o z) at_g at; free = free; generation = next })

    pub begin_new : (name : Name) (o z : ℕ) → slice_get s.works i ≡ Some (finds name o z) →
        Evacuation n
        (record s { works = set s.works i (makes name (s.words (home (tablet_of_entry n name.entry))) o z 0) })
    begin_new name o z at =
        let k = e.knows i g (finds name o z) at_g at in
        let t : ℕ = tablet_of_entry n name.entry in
        load_kept n s e i g (finds name o z) at_g at (makes name (s.words (home t)) o z 0)
        (record { raise = λ u. refl; count = λ u. refl })
        (record {
          inside = k.tops.asks.inside;
          turn = k.tops.asks.turn;
          kept = record {
            region = sym
                (home_is n s e i g at_g t (let a = k.tops.asks.turn in let b = holds_le t g.standing in omega arith));
            offset = k.tops.offset;
          };
          stays = k.tops.asks.stays;
          free = k.free;
          generation = k.generation;
          some = k.tops.some;
          fits = k.tops.fits;
          most = omega arith;
          words = λ b less. absurd (omega arith);
        })

    -- the call is done with the address, or the server's copy with its entry
    pub forget : (w : Work) → slice_get s.works i ≡ Some w → ((t : ℕ) → (to_raise n t w ≡ 0) × (counted_in n t w ≡ 0)) →
        Evacuation n (record s { works = set s.works i idle })
    forget w at owes = load_kept n s e i g w at_g at idle
        (record { raise = λ t. sym (owes t).0; count = λ t. sym (owes t).1 }) tt

    -- after a copy the top is raised
    raise_to : (x r o z : ℕ) (V : Place → ℕ) (u : Work) → slice_get s.works i ≡ Some (raises x r o z) →
        Sets n s.words V (top (tablet_of_entry n x)) (o + z) →
        ((t : ℕ) → (to_raise n t u ≡ 0) × (counted_in n t u ≡ 0)) → Knows n (layout n s) V g u →
        Evacuation n (record s { words = V; works = set s.works i u })
    raise_to x r o z V u at sets owes own =
        let k : Raises n (layout n s) s.words g x r o z = e.knows i g (raises x r o z) at_g at in
        top_kept n s e i g at_g (raises x r o z) at V u x (o + z) k.inside k.writer sets
        (λ t h. elim (cases_eq t (tablet_of_entry n x)) [
          | inl c ↦ (let here : V (top t) ≡ o + z = subst (λ q. V (top q) ≡ o + z) (sym c) sets.here in
              let was : s.words (top t) ≡ o = subst (λ q. s.words (top q) ≡ o) (sym c) k.top in
              omega (arith, count_at (tablet_of_entry n x) t z (sym c), (owes t).0, (owes t).1))
          | inr d ↦
              (let other : V (top t) ≡ s.words (top t) = sets.others (top t) h
              (λ c. d (let b : t ≡ tablet_of_entry n x = cc in b)) in
              omega (arith, count_off (tablet_of_entry n x) t z (λ c. d (sym c)), (owes t).0, (owes t).1))
        ])
        (λ t d. ((owes t).0 ∙ sym (count_off (tablet_of_entry n x) t z (λ c. d (sym c))), (owes t).1))
        own

    -- by a mutator, which goes on at the record's place
    pub raise_and_use : (x r o z : ℕ) (V : Place → ℕ) → slice_get s.works i ≡ Some (raises x r o z) →
        1 ≤ admitted (tablet_of_entry n x) g.standing →
        Sets n s.words V (top (tablet_of_entry n x)) (o + z) →
        Evacuation n (record s { words = V; works = set s.works i (uses x r o) })
    raise_and_use x r o z V at enters sets =
        let k : Raises n (layout n s) s.words g x r o z = e.knows i g (raises x r o z) at_g at in
        raise_to x r o z V (uses x r o) at sets (λ t. (refl, refl))
        (record {
          inside = k.inside;
          enters = enters;
          taken = k.taken;
          region = k.region;
          offset = k.offset;
          home = k.home;
        })

    -- and by a server, which goes on with the tablet
    pub raise_and_go_on : (x r o z : ℕ) (V : Place → ℕ) → slice_get s.works i ≡ Some (raises x r o z) →
        Sets n s.words V (top (tablet_of_entry n x)) (o + z) →
        Evacuation n (record s { words = V; works = set s.works i (holds_home x r) })
    raise_and_go_on x r o z V at sets =
        let k : Raises n (layout n s) s.words g x r o z = e.knows i g (raises x r o z) at_g at in
        raise_to x r o z V (holds_home x r) at sets (λ t. (refl, refl))
        (record {
          inside = k.inside;
          stands_there = (let a = k.writer in let b = holds_le (tablet_of_entry n x) g.standing in omega arith);
          region = k.home;
        })

    -- a New raises the top before it publishes its entry
    pub raise_for_new : (name : Name) (r o z : ℕ) (V : Place → ℕ) → slice_get s.works i ≡ Some (makes name r o z z) →
        Sets n s.words V (top (tablet_of_entry n name.entry)) (o + z) →
        Evacuation n (record s { words = V; works = set s.works i (counts name r o z) })
    raise_for_new name r o z V at sets =
        let k : Makes n (layout n s) s.words g name r o z z = e.knows i g (makes name r o z z) at_g at in
        let t0 : ℕ = tablet_of_entry n name.entry in
        let t0_in = belongings_in_range.entry n name.entry k.inside in
        let writer : 1 ≤ writes t0 g = omega (arith, k.turn) in
        let was0 : s.words (top t0) ≡ o = sym
        (filled_is n s e i g at_g (makes name r o z z) at t0 t0_in writer refl refl) ∙ sym k.kept.offset in
        top_kept n s e i g at_g (makes name r o z z) at V (counts name r o z) name.entry (o + z) k.inside writer sets
        (λ t h. elim (cases_eq t t0) [
          | inl c ↦ (let here : V (top t) ≡ o + z = subst (λ q. V (top q) ≡ o + z) (sym c) sets.here in
              let was : s.words (top t) ≡ o = subst (λ q. s.words (top q) ≡ o) (sym c) was0 in
              omega (arith, count_at t0 t z (sym c)))
          | inr d ↦
              (let other : V (top t) ≡ s.words (top t) = sets.others (top t) h (λ c. d (let b : t ≡ t0 = cc in b)) in
              omega (arith, count_off t0 t z (λ c. d (sym c))))
        ])
        (λ t d. (refl, count_off t0 t z (λ c. d (sym c))))
        (record {
          makes = record {
            inside = k.inside;
            turn = k.turn;
            kept = k.kept;
            stays = k.stays;
            free = k.free;
            generation = k.generation;
            some = k.some;
            fits = k.fits;
            most = k.most;
            words = λ b less. sets.others (region_word r (o + b))
                (subst (λ q. q < regions_of n) (sym k.kept.region) (e.copy.home_in t0 t0_in), omega (arith, k.fits))
                (λ c. cc) ∙ k.words b less;
          };
        })
