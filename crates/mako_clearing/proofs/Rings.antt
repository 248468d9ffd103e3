-- A notice ring through the steps of its server, of the collector and of others.
use Rattle.std.proofs.Common.{◌≡◌, ◌≢◌, ℕ, ◌+◌, ◌%◌, ◌<◌, ◌⊎◌, inl, inr, ⊎_elim, if◌then◌else◌, Bool, true, false, List}
use Rattle.std.proofs.Common.{[], ◌∷◌, ◌++◌, length, set, sym, ap, subst, refl, ◌∙◌, arith}
use Rattle.std.proofs.Math.Nat.{mod-eq_of_lt}
use Rattle.std.proofs.lemmas.List.{append-nil, map-append}
use Rattle.std.proofs.lemmas.List.Elements.{Contains-push_cases}
use Rattle.std.specs.List.{Contains}
use Rattle.mako_words.specs.Names.{FitsName}
use Rattle.mako_words.specs.Notices.{notice_word}
use Rattle.mako_words.specs.declared.name.Name.{Name}
use Rattle.mako_words.specs.declared.notice_word.NoticeWord.TheVariants.{Freed, Done}
use Rattle.mako_shape.specs.declared.numbers.Numbers.{Numbers}
use Rattle.mako_shape.specs.Places.{notice, index, total, word_at}
use Rattle.mako_shape.proofs.PlaceLaws.{word_same, word_other}
use Rattle.mako_step.proofs.Cases.{by_eq}
use Rattle.mako_phases.proofs.Members.{first_in, later_in}
use Rattle.mako_ring.specs.Contents.{content, OthersEmpty, NextPlace, SlotWritten, after_place}
use Rattle.mako_ring.proofs.Contents.{Holds, content_holds, holds_content, holds_others, put_appends}
use Rattle.mako_ring.proofs.Contents.{take_removes_the_first}
use Rattle.mako_ring.proofs.Turns.{place_below, full_turn}
use Rattle.mako_evac.proofs.Bounds.{after_below}
use Rattle.mako_clearing.specs.Notices.{notice_slots, freed_words, end_words, RingTells, SameNotices, SendingStays}

-- ---- a step of another seat

module _ (size : ℕ) (slot after : ℕ → ℕ) (at : ℕ) (low : at < size) (same : (j : ℕ) → j < size → after j ≡ slot j)
    (others : OthersEmpty size slot at) where
  abbrev here : List ℕ
  here = content size slot at

  still : Holds size after at here
  still =
      let h = content_holds size slot at others in record {
        few = h.few;
        filled = λ j l. let f = h.filled j l in (
          same ((at + j) % size) (place_below size (at + j) (omega arith)) ∙
              f.0,
          f.1,
        );
        empty = λ j l k. same ((at + j) % size) (place_below size (at + j) (omega arith)) ∙ h.empty j l k;
      }

  same_content : content size after at ≡ here
  same_content = holds_content size after at here still

  same_others : OthersEmpty size after at
  same_others = holds_others size after at here still

  same_place : (next : ℕ) → NextPlace size slot at next → NextPlace size after at next
  same_place next p = ap (λ (l : List ℕ). (at + length l) % size) same_content ∙ p

pub ring_stays : (n : Numbers) (words after : List ℕ) (server taker next : ℕ) (names : List Name) (done : Bool)
    → SameNotices n words after server → RingTells n words server taker next names done
    → RingTells n after server taker next names done
ring_stays n words after server taker next names done same r =
    let slot : ℕ → ℕ = notice_slots n words server in
    let slot' : ℕ → ℕ = notice_slots n after server in record {
      taker_below = r.taker_below;
      next_below = r.next_below;
      others = same_others n.ring slot slot' taker r.taker_below same r.others;
      place = same_place n.ring slot slot' taker r.taker_below same r.others next r.place;
      holds = same_content n.ring slot slot' taker r.taker_below same r.others ∙ r.holds;
      fit = r.fit;
    }

pub sending_stays : SendingStays
sending_stays n words after server taker next sent carried done same s = record {
  names = s.names;
  sent_is = s.sent_is;
  ring = ring_stays n words after server taker next s.names done same s.ring;
  last = s.last;
}

-- ---- stores at a slot

other_slot : (server j k : ℕ) → j ≢ k → notice server j ≢ notice server k
other_slot server j k d e = let same : j ≡ k = cc in d same

slot_written : (n : Numbers) (words : List ℕ) (server slot v : ℕ) → length words ≡ total n → server < n.servers
    → slot < n.ring → SlotWritten n.ring (notice_slots n words server)
    (notice_slots n (set words (index n (notice server slot)) v) server) slot v
slot_written n words server slot v size known low = (
  word_same n words (notice server slot) v size (known, low),
  λ j l d. word_other n words (notice server slot) (notice server j) v (known, low) (known, l)
      (other_slot server j slot d),
)

behind_place : (size at : ℕ) → at < size → after_place size at % size ≡ (at + 1) % size
behind_place size at low =
    by_eq (λ b. (if b then 0 else at + 1) % size ≡ (at + 1) % size) (at + 1) size
    (λ e. let z : 0 < size = omega arith in
    mod-eq_of_lt z ∙ sym (ap (λ (k : ℕ). k % size) e ∙ self_mod size z)) (λ d. refl)
  where
    self_mod : (size : ℕ) → 0 < size → size % size ≡ 0
    self_mod size z = let e : 0 + size ≡ size = omega arith in subst (λ (k : ℕ). k % size ≡ 0) e (full_turn size 0 z)

-- the server puts a word behind what the ring holds
module _ (n : Numbers) (words : List ℕ) (server taker next : ℕ) (names : List Name) (size : length words ≡ total n)
    (known : server < n.servers) (r : RingTells n words server taker next names false)
    (free : word_at n words (notice server next) ≡ 0) where
  abbrev put_words : ℕ → List ℕ
  put_words v = set words (index n (notice server next)) v

  module _ (v : ℕ) (some : v ≢ 0) where
    put : (content n.ring (notice_slots n (put_words v) server) taker ≡ content n.ring (notice_slots n words server)
        taker ++ v ∷ [])
        × OthersEmpty n.ring (notice_slots n (put_words v) server) taker
        × NextPlace n.ring (notice_slots n (put_words v) server) taker (next + 1)
    put =
        let here : next % n.ring ≡ next = mod-eq_of_lt r.next_below in
        put_appends n.ring (notice_slots n words server) (notice_slots n (put_words v) server) taker next v
        r.taker_below
        r.others r.place (ap (notice_slots n words server) here ∙ free) some
        (subst (λ k. SlotWritten n.ring (notice_slots n words server) (notice_slots n (put_words v) server) k v)
        (sym here)
        (slot_written n words server next v size known r.next_below))

    put_place : NextPlace n.ring (notice_slots n (put_words v) server) taker (after_place n.ring next)
    put_place = put.2 ∙ sym (behind_place n.ring next r.next_below)

    put_holds : content n.ring (notice_slots n (put_words v) server) taker ≡ freed_words names ++ v ∷ []
    put_holds = put.0 ∙ ap (λ (l : List ℕ). l ++ v ∷ []) (r.holds ∙ append-nil (freed_words names))

  -- of a freed name
  pub name_put : (name : Name) → FitsName name
      → RingTells n (put_words (notice_word (Freed name))) server taker (after_place n.ring next)
      (names ++ name ∷ []) false
  name_put name fits =
      let v : ℕ = notice_word (Freed name) in
      let some : v ≢ 0 = (λ e. omega arith) in record {
        taker_below = r.taker_below;
        next_below = after_below n.ring next r.next_below;
        others = (put v some).1;
        place = put_place v some;
        holds = put_holds v some ∙ sym (append-nil (freed_words (names ++ name ∷ []))
            ∙ map-append (λ (x : Name). notice_word (Freed x)) names (name ∷ []));
        fit = λ x c. ⊎_elim (λ h. r.fit x h) (λ e. subst FitsName e fits) (Contains-push_cases names name x c);
      }

  -- or the end of the cycle
  pub end_put : RingTells n (put_words 1) server taker (after_place n.ring next) names true
  end_put =
      let some : notice_word Done ≢ 0 = (λ e. omega arith) in record {
        taker_below = r.taker_below;
        next_below = after_below n.ring next r.next_below;
        others = (put 1 some).1;
        place = put_place 1 some;
        holds = put_holds 1 some;
        fit = r.fit;
      }

-- ---- the collector takes the first word

module _ (n : Numbers) (words : List ℕ) (server taker next : ℕ) (size : length words ≡ total n)
    (known : server < n.servers) where
  abbrev pub taken_words : List ℕ
  taken_words = set words (index n (notice server taker)) 0

  module _ (names : List Name) (done : Bool) (r : RingTells n words server taker next names done)
      (some : word_at n words (notice server taker) ≢ 0) where
    took : (content n.ring (notice_slots n words server) taker
        ≡ word_at n words (notice server taker)
        ∷ content n.ring (notice_slots n taken_words server) (after_place n.ring taker))
        × OthersEmpty n.ring (notice_slots n taken_words server) (after_place n.ring taker)
        × NextPlace n.ring (notice_slots n taken_words server) (after_place n.ring taker) next
    took =
        take_removes_the_first n.ring (notice_slots n words server) (notice_slots n taken_words server) taker next
        r.taker_below r.others r.place some (slot_written n words server taker 0 size known r.taker_below)

    split : freed_words names ++ end_words done
        ≡ word_at n words (notice server taker) ∷ content n.ring (notice_slots n taken_words server)
        (after_place n.ring taker)
    split = sym r.holds ∙ took.0

    left : (rest : List Name) (end : Bool)
        → content n.ring (notice_slots n taken_words server) (after_place n.ring taker) ≡ freed_words rest ++
        end_words end
        → ((x : Name) → Contains rest x → FitsName x)
        → RingTells n taken_words server (after_place n.ring taker) next rest end
    left rest end holds fit = record {
      taker_below = after_below n.ring taker r.taker_below;
      next_below = r.next_below;
      others = took.1;
      place = took.2;
      holds = holds;
      fit = fit;
    }

  -- what it takes is the notice of the first name, or the end of the cycle where no name is left
  pub record Takes (names : List Name) (done : Bool) : Type 0 where
    pub first : Name
    pub rest : List Name
    pub names_are : names ≡ first ∷ rest
    pub word_is : word_at n words (notice server taker) ≡ notice_word (Freed first)
    pub fits : FitsName first
    pub ring : RingTells n taken_words server (after_place n.ring taker) next rest done

  pub record Ends (names : List Name) (done : Bool) : Type 0 where
    pub names_are : names ≡ []
    pub done_is : done ≡ true
    pub word_is : word_at n words (notice server taker) ≡ 1
    pub ring : RingTells n taken_words server (after_place n.ring taker) next [] false

  pub taken : (names : List Name) (done : Bool) → RingTells n words server taker next names done
      → word_at n words (notice server taker) ≢ 0 → Takes names done ⊎ Ends names done
  taken [] false r some = absurd (let e = split [] false r some in let b : ⊥ = cc in b)
  taken [] true r some =
      let e = split [] true r some in
      let word : 1 ≡ word_at n words (notice server taker) = cc in
      let rest : [] ≡ content n.ring (notice_slots n taken_words server) (after_place n.ring taker) = cc in
      inr (record {
        names_are = refl;
        done_is = refl;
        word_is = sym word;
        ring = left [] true r some [] false (sym rest) r.fit;
      })
  taken (x ∷ rest) done r some =
      let e = split (x ∷ rest) done r some in
      let word : notice_word (Freed x) ≡ word_at n words (notice server taker) = first_same e in
      let more : freed_words rest ++ end_words done
      ≡ content n.ring (notice_slots n taken_words server) (after_place n.ring taker) = rest_same e in
      inl (record {
        first = x;
        rest = rest;
        names_are = refl;
        word_is = sym word;
        fits = r.fit x (first_in x rest);
        ring = left (x ∷ rest) done r some rest done (sym more) (λ y c. r.fit y (later_in x rest y c));
      })
    where
      first_same : {x y : ℕ} {xs ys : List ℕ} → x ∷ xs ≡ y ∷ ys → x ≡ y
      first_same e = cc

      rest_same : {x y : ℕ} {xs ys : List ℕ} → x ∷ xs ≡ y ∷ ys → xs ≡ ys
      rest_same e = cc
