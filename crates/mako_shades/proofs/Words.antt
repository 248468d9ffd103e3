-- What tracing reads of the words, after one write.
use Rattle.std.proofs.Common.{◌≡◌, ◌≢◌, ℕ, ◌⊎◌, inl, inr, ⊎_elim, List, length, set, sym, ap, subst, ◌∙◌, arith}
use Rattle.std.proofs.lemmas.Bool.{cases_eq}
use Rattle.mako_words.specs.declared.name.Name.{Name}
use Rattle.mako_words.specs.Entries.{entry_at}
use Rattle.mako_words.specs.Names.{name_word, FitsName}
use Rattle.mako_words.proofs.ValueWords.{name_word_within, name_words}
use Rattle.mako_shape.specs.declared.numbers.Numbers.{Numbers}
use Rattle.mako_shape.specs.Places.{Place, barrier, work, ghost, entry, index, total, Within, word_at}
use Rattle.mako_shape.proofs.PlaceLaws.{one_place, word_same, word_other}
use Rattle.mako_ring.specs.Shades.{entry_of, IsMarked, IsShadeSlot, StandsInSlot}
use Rattle.mako_shades.specs.Holding.{IsTracePlace, AgreeOnTrace}

pub same_name : (x y : Name) → FitsName x → FitsName y → name_word x ≡ name_word y → x ≡ y
same_name x y fx fy e = name_words.differ x y fx fy e

pub no_zero_name : (x : Name) → FitsName x → 0 ≡ name_word x → ⊥
no_zero_name x fits e = let l = (name_word_within x fits).0 in omega arith

-- a slot is no entry
pub slot_no_entry : (p : Place) → IsShadeSlot p → (x : ℕ) → entry x ≢ p
slot_no_entry p slot x e = subst IsShadeSlot (sym e) slot

-- a mark is read of one word alone
pub marked_same : (n : Numbers) (words words' : List ℕ) (cycle : ℕ) (x : Name)
    → word_at n words' (entry x.entry) ≡ word_at n words (entry x.entry) → IsMarked n words cycle x
    → IsMarked n words' cycle x
marked_same n words words' cycle x same marked = record {
  in_range = marked.in_range;
  taken = ap (λ (k : ℕ). (entry_at k).taken) same ∙ marked.taken;
  generation = ap (λ (k : ℕ). (entry_at k).generation) same ∙ marked.generation;
  epoch = ap (λ (k : ℕ). (entry_at k).epoch) same ∙ marked.epoch;
}

module _ (n : Numbers) (words : List ℕ) (p : Place) (v : ℕ) (size : length words ≡ total n) (within : Within n p) where
  -- what stands at a place after a write
  pub written : (r : Place) → Within n r → ((r ≡ p) × (word_at n (set words (index n p) v) r ≡ v))
      ⊎ ((r ≢ p) × (word_at n (set words (index n p) v) r ≡ word_at n words r))
  written r in_r =
      ⊎_elim
      (λ e. let same : r ≡ p = one_place n r p in_r within e in
      inl (same, ap (word_at n (set words (index n p) v)) same ∙ word_same n words p v size within))
      (λ e. let other : r ≢ p = λ same. e (ap (index n) same) in inr (
        other,
        word_other n words p r v within in_r
            other,
      ))
      (cases_eq (index n r) (index n p))

  module _ (slot : IsShadeSlot p) where
    pub entries_same : (x : ℕ) → Within n (entry x) → word_at n (set words (index n p) v)
        (entry x) ≡ word_at n words (entry x)
    entries_same x in_x = word_other n words p (entry x) v within in_x (slot_no_entry p slot x)

  -- a slot that was empty is filled
  module _ (slot : IsShadeSlot p) (x : Name) (fits : FitsName x) (was : word_at n words p ≡ 0)
      (is : v ≡ name_word x) where
    pub filled_stay : (y : Name) → StandsInSlot n words y → StandsInSlot n (set words (index n p) v) y
    filled_stay y s =
        ⊎_elim (λ t. absurd (no_zero_name y s.fits (sym was ∙ ap (word_at n words) (sym t.0) ∙ s.word_is)))
        (λ t. record {
          place = s.place;
          is_slot = s.is_slot;
          within = s.within;
          fits = s.fits;
          word_is = t.1 ∙ s.word_is;
        })
        (written s.place s.within)

    pub filled_here : StandsInSlot n (set words (index n p) v) x
    filled_here = record {
      place = p;
      is_slot = slot;
      within = within;
      fits = fits;
      word_is = word_same n words p v size within ∙ is;
    }

    pub filled_was : (y : Name) → StandsInSlot n (set words (index n p) v) y → StandsInSlot n words y ⊎ (x ≡ y)
    filled_was y s =
        ⊎_elim (λ t. inr (same_name x y fits s.fits (sym is ∙ sym t.1 ∙ s.word_is)))
        (λ t. inl (record {
          place = s.place;
          is_slot = s.is_slot;
          within = s.within;
          fits = s.fits;
          word_is = sym t.1 ∙ s.word_is;
        }))
        (written s.place s.within)

  -- a slot is emptied
  module _ (x : Name) (fits : FitsName x) (was : word_at n words p ≡ name_word x) (is : v ≡ 0) where
    pub emptied_stay : (y : Name) → StandsInSlot n words y → StandsInSlot n (set words (index n p) v) y ⊎ (x ≡ y)
    emptied_stay y s =
        ⊎_elim (λ t. inr (same_name x y fits s.fits (sym was ∙ ap (word_at n words) (sym t.0) ∙ s.word_is)))
        (λ t. inl (record {
          place = s.place;
          is_slot = s.is_slot;
          within = s.within;
          fits = s.fits;
          word_is = t.1 ∙ s.word_is;
        }))
        (written s.place s.within)

    pub emptied_was : (y : Name) → StandsInSlot n (set words (index n p) v) y → StandsInSlot n words y
    emptied_was y s =
        ⊎_elim (λ t. absurd (no_zero_name y s.fits (sym is ∙ sym t.1 ∙ s.word_is)))
        (λ t. record {
          place = s.place;
          is_slot = s.is_slot;
          within = s.within;
          fits = s.fits;
          word_is = sym t.1 ∙ s.word_is;
        })
        (written s.place s.within)

-- ---- words that tracing does not read

pub slot_is_traced : (p : Place) → IsShadeSlot p → IsTracePlace p
slot_is_traced (barrier m slot) is = tt
slot_is_traced (work s slot) is = tt
slot_is_traced (ghost sender receiver slot) is = tt
slot_is_traced p is = absurd is

-- a write elsewhere
pub write_agrees : (n : Numbers) (words : List ℕ) (p : Place) (v : ℕ) → Within n p → (¬ IsTracePlace p)
    → AgreeOnTrace n words (set words (index n p) v)
write_agrees n words p v within untraced r traced in_r =
    word_other n words p r v within in_r (λ same. untraced (subst IsTracePlace same traced))

pub slot_agrees : (n : Numbers) (words words' : List ℕ) → AgreeOnTrace n words words' → (x : Name)
    → StandsInSlot n words x → StandsInSlot n words' x
slot_agrees n words words' agree x s = record {
  place = s.place;
  is_slot = s.is_slot;
  within = s.within;
  fits = s.fits;
  word_is = agree s.place (slot_is_traced s.place s.is_slot) s.within ∙ s.word_is;
}

pub slot_agreed : (n : Numbers) (words words' : List ℕ) → AgreeOnTrace n words words' → (x : Name)
    → StandsInSlot n words' x → StandsInSlot n words x
slot_agreed n words words' agree x s = record {
  place = s.place;
  is_slot = s.is_slot;
  within = s.within;
  fits = s.fits;
  word_is = sym (agree s.place (slot_is_traced s.place s.is_slot) s.within) ∙ s.word_is;
}

-- a write of an entry leaves the slots
module _ (n : Numbers) (words : List ℕ) (e v : ℕ) (within : Within n (entry e)) where
  slot_else : (p : Place) → IsShadeSlot p → Within n p
      → word_at n (set words (index n (entry e)) v) p ≡ word_at n words p
  slot_else p slot in_p = word_other n words (entry e) p v within in_p (λ same. slot_no_entry p slot e (sym same))

  pub slot_stays : (x : Name) → StandsInSlot n words x → StandsInSlot n (set words (index n (entry e)) v) x
  slot_stays x s = record {
    place = s.place;
    is_slot = s.is_slot;
    within = s.within;
    fits = s.fits;
    word_is = slot_else s.place s.is_slot s.within ∙ s.word_is;
  }

  pub slot_stayed : (x : Name) → StandsInSlot n (set words (index n (entry e)) v) x → StandsInSlot n words x
  slot_stayed x s = record {
    place = s.place;
    is_slot = s.is_slot;
    within = s.within;
    fits = s.fits;
    word_is = sym (slot_else s.place s.is_slot s.within) ∙ s.word_is;
  }

  -- an entry after the write is the one written, or another that is as before
  pub entry_written : length words ≡ total n → (x : ℕ) → Within n (entry x)
      → ((x ≡ e) × (entry_of n (set words (index n (entry e)) v) x ≡ entry_at v))
      ⊎ ((x ≢ e) × (word_at n (set words (index n (entry e)) v) (entry x) ≡ word_at n words (entry x)))
  entry_written size x in_x =
      ⊎_elim
      (λ t. let same : x ≡ e = cc (t.0) in inl (same, ap entry_at t.1))
      (λ t. inr ((λ same. t.0 (ap entry same)), t.1))
      (written n words (entry e) v size within (entry x) in_x)
