-- What a view knows is kept by a step beside it.
use Rattle.std.proofs.Common.{◌≡◌, ◌≢◌, ℕ, ◌+◌, ◌<◌, ◌≤◌, true, sym, ap, ◌∙◌, refl, subst, arith}
use Rattle.mako_shape.specs.declared.numbers.Numbers.{Numbers}
use Rattle.mako_shape.specs.Places.{Place, region_word}
use Rattle.mako_shape.specs.Belongings.{tablet_of_entry}
use Rattle.mako_layout.specs.Layouts.{Slot, Layout, entries_of, OneCopy}
use Rattle.mako_layout.specs.Facets.{Work, idle, reads, uses, holds_home, moves, asks, tops, finds, fills, carries}
use Rattle.mako_layout.specs.Facets.{raises, makes, counts}
use Rattle.mako_layout.specs.Evacuations.{Kept, Reads, Uses, Moves, Asks, Tops, Fills, Carries, Raises, Makes, Knows}
use Rattle.mako_layout.specs.Evacuations.{IsAsFound}
use Rattle.mako_layout.specs.Beside.{entry_of, IsWriting, MindsEntry, Quiet, BesideWork, Beside}
use Rattle.mako_layout.proofs.Roles.{copy_fits}
use Rattle.mako_gate.specs.Standings.{GateFacet, writes}
use Rattle.mako_words.specs.declared.name.Name.{Name}
use Rattle.mako_words.specs.declared.entry_word.EntryWord.{EntryWord}

module _ (n : Numbers) (l m : Layout) (one : OneCopy n l) (W V : Place → ℕ) (g : GateFacet) where
  reads_kept : (x r o : ℕ) → BesideWork n l m W V (reads x r o) x → Reads n l g x r o → Reads n m g x r o
  reads_kept x r o b k = record {
    inside = k.inside;
    enters = k.enters;
    taken = b.taken tt k.taken;
    present = λ e. let h : r ≡ l.home (tablet_of_entry n x) = e ∙ b.home in let p = k.present h in
        (b.region tt k.taken (p.0 ∙ h) ∙ p.0, b.offset tt k.taken (p.0 ∙ h) ∙ p.1);
  }

  uses_kept : (x r o : ℕ) → BesideWork n l m W V (uses x r o) x → Uses n l g x r o → Uses n m g x r o
  uses_kept x r o b k = record {
    inside = k.inside;
    enters = k.enters;
    taken = b.taken tt k.taken;
    region = b.region tt k.taken (k.region ∙ k.home) ∙ k.region;
    offset = b.offset tt k.taken (k.region ∙ k.home) ∙ k.offset;
    home = k.home ∙ sym b.home;
  }

  kept_kept : (x r o : ℕ) → m.home (tablet_of_entry n x) ≡ l.home (tablet_of_entry n x) →
      m.filled (tablet_of_entry n x) ≡ l.filled (tablet_of_entry n x) → Kept n l x r o → Kept n m x r o
  kept_kept x r o h f k = record { region = k.region ∙ sym h; offset = k.offset ∙ sym f }

  -- a word that the view stored stays, and one that it copies from
  stored_stays : (x r o i : ℕ) → Kept n l x r o → Quiet n l m W V x (tablet_of_entry n x) → o + i < n.words →
      V (region_word r (o + i)) ≡ W (region_word r (o + i))
  stored_stays x r o i k u h = subst (λ a. V (region_word a (o + i)) ≡ W (region_word a (o + i))) (sym k.region)
      (u.ahead (o + i) (omega (arith, k.offset)) h)

  source_stays : (x i : ℕ) → (l.slot x).taken ≡ true → (l.slot x).region ≢ l.home (tablet_of_entry n x) →
      i < (l.slot x).size → Quiet n l m W V x (tablet_of_entry n x) → m.slot x ≡ l.slot x →
      V (region_word (m.slot x).region ((m.slot x).offset + i)) ≡ W
      (region_word (l.slot x).region ((l.slot x).offset + i))
  source_stays x i taken out less u same =
      (λ q. V (region_word (same q).region ((same q).offset + i)))
      ∙ u.behind (l.slot x).region ((l.slot x).offset + i)
      (record { taken = taken; region = refl; low = omega arith; high = omega arith }) out

  fills_kept : (x : ℕ) (found : EntryWord) (r o j : ℕ) → BesideWork n l m W V (fills x found r o j) x →
      Fills n l W g x found r o j → Fills n m V g x found r o j
  fills_kept x found r o j b k =
      let u = b.writer tt in
      let out : (l.slot x).region ≢ l.home (tablet_of_entry n x) = λ e. k.out (e ∙ sym k.kept.region) in
      let fit = copy_fits n l one x k.inside k.taken k.epoch out in
      record {
        inside = k.inside;
        writer = k.writer;
        kept = kept_kept x r o b.home u.filled k.kept;
        taken = ap (λ (s : Slot). s.taken) (b.slot tt) ∙ k.taken;
        epoch = ap (λ (s : Slot). s.epoch) (b.slot tt) ∙ k.epoch ∙ sym (b.cycle tt);
        out = λ e. k.out (ap (λ (s : Slot). s.region) (sym (b.slot tt)) ∙ e);
        as_found = subst (λ (q : Slot). IsAsFound n q found) (sym (b.slot tt)) k.as_found;
        most = omega (arith, k.most, ap (λ (s : Slot). s.size) (b.slot tt));
        words = λ i h.
            stored_stays x r o i k.kept u (omega (arith, k.most, k.kept.offset))
            ∙ k.words i h
            ∙ sym (source_stays x i k.taken out (omega (arith, k.most)) u (b.slot tt));
      }

  carries_kept : (x : ℕ) (found : EntryWord) (r o j v : ℕ) → BesideWork n l m W V (carries x found r o j v) x →
      Carries n l W g x found r o j v → Carries n m V g x found r o j v
  carries_kept x found r o j v b k =
      let u = b.writer tt in
      record {
        fills = fills_kept x found r o j
            (record {
              cycle = b.cycle;
              home = b.home;
              taken = b.taken;
              region = b.region;
              offset = b.offset;
              writer = b.writer;
              slot = b.slot;
            }) k.fills;
        more = omega (arith, k.more, ap (λ (s : Slot). s.size) (b.slot tt));
        word = k.word
            ∙ sym (source_stays x j k.fills.taken (λ e. k.fills.out (e ∙ sym k.fills.kept.region)) k.more u
            (b.slot tt));
      }

  raises_kept : (x r o z : ℕ) → BesideWork n l m W V (raises x r o z) x → Raises n l W g x r o z →
      Raises n m V g x r o z
  raises_kept x r o z b k =
      let u = b.writer tt in
      record {
        inside = k.inside;
        writer = k.writer;
        taken = ap (λ (s : Slot). s.taken) (b.slot tt) ∙ k.taken;
        region = ap (λ (s : Slot). s.region) (b.slot tt) ∙ k.region;
        home = k.home ∙ sym b.home;
        offset = ap (λ (s : Slot). s.offset) (b.slot tt) ∙ k.offset;
        top = u.top ∙ k.top;
        left = λ z. k.left (sym u.leaving ∙ z);
      }

  makes_kept : (name : Name) (r o z j : ℕ) → BesideWork n l m W V (makes name r o z j) name.entry →
      Makes n l W g name r o z j → Makes n m V g name r o z j
  makes_kept name r o z j b k =
      let u = b.writer tt in
      record {
        inside = k.inside;
        turn = k.turn;
        kept = kept_kept name.entry r o b.home u.filled k.kept;
        stays = u.leaving ∙ k.stays;
        free = ap (λ (s : Slot). s.taken) (b.slot tt) ∙ k.free;
        generation = ap (λ (s : Slot). s.generation) (b.slot tt) ∙ k.generation;
        some = k.some;
        fits = k.fits;
        most = k.most;
        words = λ i h. stored_stays name.entry r o i k.kept u (omega (arith, k.most, k.fits)) ∙ k.words i h;
      }

  moves_kept : (x : ℕ) (found : EntryWord) (r : ℕ) → BesideWork n l m W V (moves x found r) x → Moves n l g x found r →
      Moves n m g x found r
  moves_kept x found r b k =
      let u = b.writer tt in
      record {
        inside = k.inside;
        writer = k.writer;
        region = k.region ∙ sym b.home;
        taken = ap (λ (s : Slot). s.taken) (b.slot tt) ∙ k.taken;
        epoch = ap (λ (s : Slot). s.epoch) (b.slot tt) ∙ k.epoch ∙ sym (b.cycle tt);
        out = λ e. k.out (ap (λ (s : Slot). s.region) (sym (b.slot tt)) ∙ e);
        as_found = subst (λ (q : Slot). IsAsFound n q found) (sym (b.slot tt)) k.as_found;
      }

  asks_kept : (x : ℕ) → Quiet n l m W V x (tablet_of_entry n x) → Asks n l g x → Asks n m g x
  asks_kept x u k = record { inside = k.inside; turn = k.turn; stays = u.leaving ∙ k.stays }

  tops_kept : (x o z : ℕ) → Quiet n l m W V x (tablet_of_entry n x) → Tops n l g x o z → Tops n m g x o z
  tops_kept x o z u k = record {
    asks = asks_kept x u k.asks;
    offset = k.offset ∙ sym u.filled;
    some = k.some;
    fits = k.fits;
  }

  pub work_knows_kept : (w : Work) →
      (entry_of w < entries_of n → Knows n l W g w → BesideWork n l m W V w (entry_of w)) → Knows n l W g w →
      Knows n m V g w
  work_knows_kept idle b k = tt
  work_knows_kept (reads x r o) b k = reads_kept x r o (b k.inside k) k
  work_knows_kept (uses x r o) b k = uses_kept x r o (b k.inside k) k
  work_knows_kept (holds_home x r) b k = record {
    inside = k.inside;
    stands_there = k.stands_there;
    region = k.region ∙ sym (b k.inside k).home;
  }
  work_knows_kept (moves x found r) b k = moves_kept x found r (b k.inside k) k
  work_knows_kept (asks x) b k = asks_kept x ((b k.inside k).writer tt) k
  work_knows_kept (tops x o z) b k = tops_kept x o z ((b k.asks.inside k).writer tt) k
  work_knows_kept (finds name o z) b k = record {
    tops = tops_kept name.entry o z ((b k.tops.asks.inside k).writer tt) k.tops;
    free = ap (λ (s : Slot). s.taken) ((b k.tops.asks.inside k).slot tt) ∙ k.free;
    generation = ap (λ (s : Slot). s.generation) ((b k.tops.asks.inside k).slot tt) ∙ k.generation;
  }
  work_knows_kept (fills x found r o j) b k = fills_kept x found r o j (b k.inside k) k
  work_knows_kept (carries x found r o j v) b k = carries_kept x found r o j v (b k.fills.inside k) k
  work_knows_kept (raises x r o z) b k = raises_kept x r o z (b k.inside k) k
  work_knows_kept (makes name r o z j) b k = makes_kept name r o z j (b k.inside k) k
  work_knows_kept (counts name r o z) b k = record {
    makes = makes_kept name r o z z (let c = b k.makes.inside k in
        record {
          cycle = c.cycle;
          home = c.home;
          taken = c.taken;
          region = c.region;
          offset = c.offset;
          writer = c.writer;
          slot = c.slot;
        }) k.makes;
  }

-- who writes is a writer of its entry's tablet
pub writing : (n : Numbers) (l : Layout) (W : Place → ℕ) (g : GateFacet) (w : Work) → Knows n l W g w → IsWriting w →
    1 ≤ writes (tablet_of_entry n (entry_of w)) g
writing n l W g idle k is = absurd is
writing n l W g (reads x r o) k is = absurd is
writing n l W g (uses x r o) k is = absurd is
writing n l W g (holds_home x r) k is = absurd is
writing n l W g (moves x found r) k is = k.writer
writing n l W g (asks x) k is = omega (arith, k.turn)
writing n l W g (tops x o z) k is = omega (arith, k.asks.turn)
writing n l W g (finds x o z) k is = omega (arith, k.tops.asks.turn)
writing n l W g (fills x found r o j) k is = k.writer
writing n l W g (carries x found r o j v) k is = k.fills.writer
writing n l W g (raises x r o z) k is = k.writer
writing n l W g (makes x r o z j) k is = omega (arith, k.turn)
writing n l W g (counts x r o z) k is = omega (arith, k.makes.turn)

minds_writes : (w : Work) → MindsEntry w → IsWriting w
minds_writes idle is = absurd is
minds_writes (reads x r o) is = absurd is
minds_writes (uses x r o) is = absurd is
minds_writes (holds_home x r) is = absurd is
minds_writes w is = tt

pub knows_kept : (n : Numbers) (l m : Layout) → OneCopy n l → (W V : Place → ℕ) (g : GateFacet) (w : Work) →
    (entry_of w < entries_of n → Knows n l W g w → Beside n l m W V g (entry_of w)) → Knows n l W g w → Knows n m V g w
knows_kept n l m one W V g w b = work_knows_kept n l m one W V g w (λ h k. let c = b h k in
    record {
      cycle = λ _. c.cycle;
      home = c.home;
      taken = λ _. c.taken;
      region = λ _. c.region;
      offset = λ _. c.offset;
      writer = λ is. (c.writer (writing n l W g w k is)).quiet;
      slot = λ is. (c.writer (writing n l W g w k (minds_writes w is))).slot;
    })
