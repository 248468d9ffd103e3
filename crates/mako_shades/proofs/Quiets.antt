-- Which steps can end quiet, and completeness.
use Rattle.std.proofs.Common.{◌≡◌, ◌≢◌, ℕ, Bool, ⊎_elim, List, [], ◌∷◌, ◌++◌, Contains, length, set, slice_get, Some}
use Rattle.std.proofs.Common.{sym, subst, refl, ◌∙◌, arith}
use Rattle.std.proofs.lemmas.Option.{none-some}
use Rattle.std.proofs.lemmas.List.Elements.{Contains-push}
use Rattle.mako_words.specs.declared.name.Name.{Name}
use Rattle.mako_words.specs.declared.entry_word.EntryWord.{EntryWord}
use Rattle.mako_words.specs.Names.{name_word}
use Rattle.mako_shape.specs.declared.numbers.Numbers.{Numbers}
use Rattle.mako_shape.specs.Places.{Place, barrier, work, ghost, entry, index, total, Within, word_at}
use Rattle.mako_shape.proofs.PlaceLaws.{word_other}
use Rattle.mako_model.specs.Legal.{Facts}
use Rattle.mako_model.proofs.Lists.{get_set_cases}
use Rattle.mako_ring.specs.Shades.{IsQuiet, IsComplete}
use Rattle.mako_ring.specs.TraceFacets.{Hand, empty, considering, marking, pushing, Off, nothing, popped, located, Work}
use Rattle.mako_ring.specs.TraceFacets.{TraceFacet, apart, looking, storing, serving, collecting, IsIdle}
use Rattle.mako_shades.specs.Holding.{AgreeOnTrace}
use Rattle.mako_shades.specs.Steps.{TraceScene, IsIncoming, TraceStep, Unseen, Decides, Makes, Finds, Passes, GivesUp}
use Rattle.mako_shades.specs.Steps.{Shades, Stores, Forwards, Gathers, Takes, Dismisses, LooksUp, Marks, Pushes}
use Rattle.mako_shades.specs.Steps.{TakesOff, Locates, Skips, Begins, ScansOwn, ScansForeign, ScansOn, Sends}
use Rattle.mako_shades.specs.Steps.{IsGathering, IsShading}
use Rattle.mako_shades.proofs.Turns.{no_member}
use Rattle.mako_shades.proofs.Words.{no_zero_name}

pub no_hand : (h : Hand) (x : Name) → h ≡ empty → h ≡ considering x → ⊥
no_hand h x a b = cc

pub no_push : (h : Hand) (x : Name) → h ≡ empty → h ≡ pushing x → ⊥
no_push h x a b = cc

pub no_mark : (h : Hand) (x : Name) (e : EntryWord) → h ≡ empty → h ≡ marking x e → ⊥
no_mark h x e a b = cc

pub no_popped : (o : Off) (e : ℕ) → o ≡ nothing → o ≡ popped e → ⊥
no_popped o e a b = cc

pub no_located : (o : Off) (e address : ℕ) → o ≡ nothing → o ≡ located e address → ⊥
no_located o e address a b = cc

pub no_stack : (rest : List ℕ) (e : ℕ) (stack : List ℕ) → stack ≡ [] → stack ≡ rest ++ e ∷ [] → ⊥
no_stack rest e stack none is =
    no_member e (subst (λ (l : List ℕ). Contains l e) (sym is ∙ none) (Contains-push rest e))

module _ (n : Numbers) (s : TraceScene) (size : length s.words ≡ total n) (quiet : IsQuiet n s.words s.facets) where
  idle_at : (seat : ℕ) (job : Work) → slice_get s.facets seat ≡ Some (serving job) → IsIdle (serving job)
  idle_at seat job here = quiet.seats seat (serving job) here

  -- one facet changes, to an idle one, and the work and ghost slots stay
  quiet_on : (words : List ℕ) (seat : ℕ) (f : TraceFacet) → IsIdle f
      → ((p : Place) → IsIncoming p → Within n p → word_at n words p ≡ word_at n s.words p)
      → IsQuiet n words (set s.facets seat f)
  quiet_on words seat f idle same = record {
    works = λ k slot within. same (work k slot) tt within ∙ quiet.works k slot within;
    ghosts = λ a b slot within. same (ghost a b slot) tt within ∙ quiet.ghosts a b slot within;
    seats = λ other g at. ⊎_elim (λ c. subst IsIdle c.1 idle) (λ c. quiet.seats other g c.1)
        (get_set_cases s.facets seat other f g at);
  }

  quiet_rest : (words : List ℕ) → ((p : Place) → IsIncoming p → Within n p → word_at n words p ≡ word_at n s.words p)
      → IsQuiet n words s.facets
  quiet_rest words same = record {
    works = λ k slot within. same (work k slot) tt within ∙ quiet.works k slot within;
    ghosts = λ a b slot within. same (ghost a b slot) tt within ∙ quiet.ghosts a b slot within;
    seats = quiet.seats;
  }

  write_else : (p : Place) (v : ℕ) → Within n p → (¬ IsIncoming p) → (r : Place) → IsIncoming r → Within n r
      → word_at n (set s.words (index n p) v) r ≡ word_at n s.words r
  write_else p v within none r is in_r =
      word_other n s.words p r v within in_r (λ same. none (subst IsIncoming same is))

  agree_else : (words : List ℕ) → AgreeOnTrace n s.words words → (r : Place) → IsIncoming r → Within n r
      → word_at n words r ≡ word_at n s.words r
  agree_else words agree (work k slot) is within = agree (work k slot) tt within
  agree_else words agree (ghost a b slot) is within = agree (ghost a b slot) tt within
  agree_else words agree p is within = absurd is

  incoming_empty : (p : Place) → IsIncoming p → Within n p → word_at n s.words p ≡ 0
  incoming_empty (work k slot) is within = quiet.works k slot within
  incoming_empty (ghost a b slot) is within = quiet.ghosts a b slot within
  incoming_empty p is within = absurd is

  no_pending : (seat : ℕ) (x : Name) (rest : List Name) → slice_get s.facets seat ≡ Some (collecting (x ∷ rest)) → ⊥
  no_pending seat x rest here =
      no_member x (subst (λ (l : List Name). Contains l x) (quiet.seats seat (collecting (x ∷ rest)) here)
      (0, omega arith, refl))

  module _ (w : Facts) (cycle : ℕ) (after : TraceScene) where
    abbrev Still : TraceScene → Type 0
    Still a = IsQuiet n a.words a.facets

    -- a quiet heap stays quiet, but for the collector that takes a name out of a barrier slot
    pub quiet_stays : (step : TraceStep n w cycle s after) → (¬ IsGathering step) → IsQuiet n after.words after.facets
    quiet_stays (Unseen words agree e) not = subst Still (sym e) (quiet_rest words (agree_else words agree))
    quiet_stays (Decides words agree m c r lawful plain e) not =
        subst Still (sym e) (quiet_rest words (agree_else words agree))
    quiet_stays (Makes seat m root count x word here may e) not =
        subst Still (sym e) (quiet_rest (set s.words (index n (entry x.entry)) word)
        (write_else (entry x.entry) word may.within (λ none. none)))
    quiet_stays (Finds seat m root object fields field address old here may found e) not =
        subst Still (sym e) (quiet_on s.words seat (looking object field old) tt (λ p is within. refl))
    quiet_stays (Passes seat m root object fields field address here may none e) not =
        subst Still (sym e) (quiet_on s.words seat (storing object field) tt (λ p is within. refl))
    quiet_stays (GivesUp seat object field old here e) not =
        subst Still (sym e) (quiet_on s.words seat apart tt (λ p is within. refl))
    quiet_stays (Shades seat object field old m slot here within free e) not =
        subst Still (sym e) (quiet_on (set s.words (index n (barrier m slot)) (name_word old)) seat
        (storing object field) tt (write_else (barrier m slot) (name_word old) within (λ none. none)))
    quiet_stays (Stores seat m to from field object fields v words here refers inside root_is agree e) not =
        subst Still (sym e) (quiet_on words seat apart tt (agree_else words agree))
    quiet_stays (Forwards seat x rest server slot here within free e) not = absurd (no_pending seat x rest here)
    quiet_stays (Gathers seat names x m slot here within fits is e) not = absurd (not tt)
    quiet_stays (Takes seat job p x here hand incoming within fits found own e) not =
        absurd (no_zero_name x fits (sym (incoming_empty p incoming within) ∙ found))
    quiet_stays (Dismisses seat job x here hand epoch e) not =
        absurd (no_hand job.hand x (idle_at seat job here).0 hand)
    quiet_stays (LooksUp seat job x here hand other e) not = absurd (no_hand job.hand x (idle_at seat job here).0 hand)
    quiet_stays (Marks seat job x k word here hand is e) not =
        absurd (no_mark job.hand x k (idle_at seat job here).0 hand)
    quiet_stays (Pushes seat job x here hand e) not = absurd (no_push job.hand x (idle_at seat job here).0 hand)
    quiet_stays (TakesOff seat job rest k here stack none e) not =
        absurd (no_stack rest k job.stack (idle_at seat job here).2 stack)
    quiet_stays (Locates seat job k here off e) not = absurd (no_popped job.off k (idle_at seat job here).3 off)
    quiet_stays (Skips seat job k address here off none e) not =
        absurd (no_located job.off k address (idle_at seat job here).3 off)
    quiet_stays (Begins seat job k address here off none some e) not =
        absurd (no_located job.off k address (idle_at seat job here).3 off)
    quiet_stays (ScansOwn seat job scan x here scanning hand found own e) not =
        absurd (none-some scan (sym (idle_at seat job here).4 ∙ scanning))
    quiet_stays (ScansForeign seat job scan x here scanning none found e) not =
        absurd (none-some scan (sym (idle_at seat job here).4 ∙ scanning))
    quiet_stays (ScansOn seat job scan here scanning none e) not =
        absurd (none-some scan (sym (idle_at seat job here).4 ∙ scanning))
    quiet_stays (Sends seat job x sender receiver slot here out within free e) not =
        absurd (none-some x (sym (idle_at seat job here).1 ∙ out))

-- ---- completeness

module _ (n : Numbers) (s : TraceScene) (w : Facts) (cycle : ℕ) (after : TraceScene) (m slot : ℕ)
    (in_b : Within n (barrier m slot)) where
  abbrev SameBarrier : TraceScene → Type 0
  SameBarrier a = word_at n a.words (barrier m slot) ≡ word_at n s.words (barrier m slot)

  barrier_else : (p : Place) (v : ℕ) → Within n p → barrier m slot ≢ p → word_at n (set s.words (index n p) v)
      (barrier m slot) ≡ word_at n s.words (barrier m slot)
  barrier_else p v within other = word_other n s.words p (barrier m slot) v within in_b other

  incoming_else : (p : Place) → IsIncoming p → barrier m slot ≢ p
  incoming_else p is e = subst IsIncoming (sym e) is

  -- barrier slots stay, but for puts that fill them and the collector that empties them
  barriers_stay : (step : TraceStep n w cycle s after) → (¬ IsGathering step) → (¬ IsShading step)
      → ((x : Name) (e : EntryWord) (job : Work) (seat : ℕ) → slice_get s.facets seat ≡ Some (serving job)
      → job.hand ≡ marking x e → ⊥)
      → word_at n after.words (barrier m slot) ≡ word_at n s.words (barrier m slot)
  barriers_stay (Unseen words agree e) g h none_marks = subst SameBarrier (sym e) (agree (barrier m slot) tt in_b)
  barriers_stay (Decides words agree k c r lawful plain e) g h none_marks =
      subst SameBarrier (sym e) (agree (barrier m slot) tt in_b)
  barriers_stay (Makes seat k root count x word here may e) g h none_marks =
      subst SameBarrier (sym e) (barrier_else (entry x.entry) word may.within (λ same. cc))
  barriers_stay (Finds seat k root object fields field address old here may found e) g h none_marks =
      subst SameBarrier (sym e) refl
  barriers_stay (Passes seat k root object fields field address here may none e) g h none_marks =
      subst SameBarrier (sym e) refl
  barriers_stay (GivesUp seat object field old here e) g h none_marks = subst SameBarrier (sym e) refl
  barriers_stay (Shades seat object field old k place here within free e) g h none_marks = absurd (h tt)
  barriers_stay (Stores seat k to from field object fields v words here refers inside root_is agree e) g h none_marks =
      subst SameBarrier (sym e) (agree (barrier m slot) tt in_b)
  barriers_stay (Forwards seat x rest server place here within free e) g h none_marks =
      subst SameBarrier (sym e) (barrier_else (work server place) (name_word x) within (λ same. cc))
  barriers_stay (Gathers seat names x k place here within fits is e) g h none_marks = absurd (g tt)
  barriers_stay (Takes seat job p x here hand incoming within fits found own e) g h none_marks =
      subst SameBarrier (sym e) (barrier_else p 0 within (incoming_else p incoming))
  barriers_stay (Dismisses seat job x here hand epoch e) g h none_marks = subst SameBarrier (sym e) refl
  barriers_stay (LooksUp seat job x here hand other e) g h none_marks = subst SameBarrier (sym e) refl
  barriers_stay (Marks seat job x k word here hand is e) g h none_marks = absurd (none_marks x k job seat here hand)
  barriers_stay (Pushes seat job x here hand e) g h none_marks = subst SameBarrier (sym e) refl
  barriers_stay (TakesOff seat job rest k here stack none e) g h none_marks = subst SameBarrier (sym e) refl
  barriers_stay (Locates seat job k here off e) g h none_marks = subst SameBarrier (sym e) refl
  barriers_stay (Skips seat job k address here off none e) g h none_marks = subst SameBarrier (sym e) refl
  barriers_stay (Begins seat job k address here off none some e) g h none_marks = subst SameBarrier (sym e) refl
  barriers_stay (ScansOwn seat job scan x here scanning hand found own e) g h none_marks =
      subst SameBarrier (sym e) refl
  barriers_stay (ScansForeign seat job scan x here scanning none found e) g h none_marks =
      subst SameBarrier (sym e) refl
  barriers_stay (ScansOn seat job scan here scanning none e) g h none_marks = subst SameBarrier (sym e) refl
  barriers_stay (Sends seat job x sender receiver place here out within free e) g h none_marks =
      subst SameBarrier (sym e) (barrier_else (ghost sender receiver place) (name_word x) within (λ same. cc))

module _ (n : Numbers) (s : TraceScene) (w : Facts) (cycle : ℕ) (after : TraceScene) (size : length s.words ≡ total n)
    (admitted : ℕ → Bool) (complete : IsComplete n s.words s.facets admitted) where
  none_gathers : (step : TraceStep n w cycle s after) → IsGathering step → ⊥
  none_gathers (Gathers seat names x m slot here within fits is e) g =
      no_zero_name x fits (sym (complete.barriers m slot within) ∙ is)
  none_gathers step g = g

  none_marks : (x : Name) (e : EntryWord) (job : Work) (seat : ℕ) → slice_get s.facets seat ≡ Some (serving job)
      → job.hand ≡ marking x e → ⊥
  none_marks x e job seat here hand = no_mark job.hand x e (complete.quiet.seats seat (serving job) here).0 hand

  -- a complete heap stays complete, but for a put that fills its barrier slot
  pub complete_stays : (step : TraceStep n w cycle s after) → (¬ IsShading step)
      → IsComplete n after.words after.facets admitted
  complete_stays step not = record {
    quiet = quiet_stays n s size complete.quiet w cycle after step (none_gathers step);
    outside = complete.outside;
    barriers = λ m slot within. barriers_stay n s w cycle after m slot within step (none_gathers step) not none_marks
        ∙ complete.barriers m slot within;
  }
