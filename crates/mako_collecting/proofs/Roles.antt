-- The choice as the layout reads it, by what the collector keeps.
use Rattle.std.proofs.Common.{◌≡◌, ℕ, zero, suc, ◌<◌, inl, inr, Bool, List, [], ◌∷◌, length, get_or, sym, ap, subst}
use Rattle.std.proofs.Common.{refl, ◌∙◌, arith}
use Rattle.std.proofs.lemmas.Bool.{cases_eq}
use Rattle.mako_shape.specs.declared.numbers.Numbers.{Numbers}
use Rattle.mako_gate.specs.Sums.{counted}
use Rattle.mako_model.specs.Legal.{Facts}
use Rattle.mako_layout.specs.Facets.{Gift, gift_of as gift_in}
use Rattle.mako_layout.specs.Layouts.{regions_of}
use Rattle.mako_phases.specs.Lives.{AreOnce}
use Rattle.mako_joint.specs.Joints.{JointScene}
use Rattle.mako_pause.specs.Collecting.{Holdings, running, chosen_tablet, at}
use Rattle.mako_pause.specs.Regions.{is_spare}
use Rattle.mako_pause.specs.declared.stage.Gift.{Gift as Exchange}
use Rattle.mako_pause.specs.declared.stage.ChoiceStage.{ChoiceStage}
use Rattle.mako_pause.specs.declared.stage.ChoiceStage.TheVariants.{LoadingLive, LoadingTop, LoadingHome}
use Rattle.mako_pause.specs.declared.stage.ChoiceStage.TheVariants.{StoringLeaving, StoringHome, StoringTop}
use Rattle.mako_pause.specs.declared.stage.ChoiceStage.TheVariants.{StoringEvac, Opening as Reopening}
use Rattle.mako_pause.specs.declared.stage.CollectStage.TheVariants.{Choosing}
use Rattle.mako_collecting.specs.Choosing.{MayGive}
use Rattle.mako_collecting.specs.Findings.{StageFound}
use Rattle.mako_collecting.specs.Laws.{Stands}
use Rattle.mako_collecting.specs.Roles.{role_of, ChoiceOf, MayGiveAt, GiftsMayBeGiven}

-- ---- lists

same_default : (xs : List ℕ) (i a b : ℕ) → i < length xs → get_or xs i a ≡ get_or xs i b
same_default [] i a b low = absurd (omega arith)
same_default (x ∷ xs) zero a b low = refl
same_default (x ∷ xs) (suc i) a b low = same_default xs i a b (omega arith)

-- in a list in which nothing stands twice, places are apart
places_apart : (xs : List ℕ) → AreOnce xs → (i l : ℕ) → i < l → l < length xs → get_or xs i 0 ≡ get_or xs l 0 → ⊥
places_apart [] once i l less low e = omega arith
places_apart (x ∷ xs) once i zero less low e = omega arith
places_apart (x ∷ xs) once zero (suc l) less low e =
    once.0 (l, (omega arith), same_default xs l x 0 (omega arith) ∙ sym e)
places_apart (x ∷ xs) once (suc i) (suc l) less low e = places_apart xs once.1 i l (omega arith) (omega arith) e

-- ---- a gift

module _ (n : Numbers) (s : JointScene) (k : Holdings) (i : ℕ) (gift : Exchange) (given : List Gift) (spare : List ℕ)
    (is : ChoiceOf n s.words s.facets.choice k (Choosing (StoringLeaving i gift)) given spare) (once : AreOnce k.chosen)
    (inside : i < length k.chosen) (region : gift.region < regions_of n) where
  pub none_given : gift_in given (chosen_tablet k i) ≡ 0
  none_given = elim (cases_eq (gift_in given (chosen_tablet k i)) 0) [
    | inl none ↦ none
    | inr some ↦
        (let d = is.done (chosen_tablet k i) some in
        absurd (places_apart k.chosen once d.number i d.before inside d.is))
  ]

  pub may_give : MayGive n s (chosen_tablet k i) gift given spare
  may_give = record {
    former = is.gift.0;
    region = region;
    server = is.gift.1;
    first = none_given;
    spares = let a = is.spares gift.region region in
        let b : counted (is_spare (running k) (role_of k gift.region)) 1 ≡ 1 =
        ap (λ (x : Bool). counted x 1) is.gift.2 in omega arith;
  }

gifts_at : (w : Facts) (s : JointScene) (places : ℕ → ℕ) (k : Holdings) (stage : ChoiceStage)
    → Stands k.shape w s places (at k (Choosing stage)) → StageFound k.shape s.words k (Choosing stage)
    → (given : List Gift) (spare : List ℕ) → ChoiceOf k.shape s.words s.facets.choice k (Choosing stage) given spare
    → MayGiveAt k.shape s k stage given spare
gifts_at w s places k (StoringLeaving i gift) x once given spare is =
    may_give k.shape s k i gift given spare is once x.keeps.stage.1.0 x.keeps.stage.1.2
gifts_at w s places k (LoadingLive r place) x found given spare is = tt
gifts_at w s places k (LoadingTop r place number) x found given spare is = tt
gifts_at w s places k (LoadingHome i) x found given spare is = tt
gifts_at w s places k (StoringHome i gift) x found given spare is = tt
gifts_at w s places k (StoringTop i) x found given spare is = tt
gifts_at w s places k StoringEvac x found given spare is = tt
gifts_at w s places k (Reopening m) x found given spare is = tt

pub gifts_may_be_given : GiftsMayBeGiven
gifts_may_be_given n w s places k stage stands found given spare is =
    subst (λ m. Stands m w s places (at k (Choosing stage)) → StageFound m s.words k (Choosing stage)
    → ChoiceOf m s.words s.facets.choice k (Choosing stage) given spare → MayGiveAt m s k stage given spare)
    stands.seat.shape (λ x f o. gifts_at w s places k stage x f given spare o) stands found is
