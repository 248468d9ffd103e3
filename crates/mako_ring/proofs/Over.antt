-- A ring over time.
use Rattle.std.proofs.Common.{ℕ, List, [], ◌∷◌, ◌++◌, ap, sym, subst, ◌∙◌, arith}
use Rattle.std.proofs.lemmas.Bool.Decides.{nat_tests}
use Rattle.std.proofs.lemmas.List.{append_assoc}
use Rattle.mako_ring.specs.Contents.{content, after_place, Ringing, RingingStands, RingStep, Puts, Takes}
use Rattle.mako_ring.specs.Contents.{TakenIsAPrefix}
use Rattle.mako_ring.proofs.Contents.{put_appends, take_removes_the_first}

rings_on : (size : ℕ) (s t : Ringing) → RingingStands size s → RingStep size s t → RingingStands size t
rings_on size s t stands (Puts x slot free filled written e) =
    let p = put_appends size s.slot slot s.at s.next x stands.at_below stands.others stands.place free filled written in
    subst (RingingStands size) (sym e) (record {
      at_below = stands.at_below;
      others = p.1;
      place = p.2;
      sum = ap (λ (l : List ℕ). l ++ x ∷ []) stands.sum ∙ append_assoc s.taken (content size s.slot s.at) (x ∷ [])
          ∙ ap (λ (l : List ℕ). s.taken ++ l) (sym p.0);
    })
rings_on size s t stands (Takes slot filled written e) =
    let p = take_removes_the_first size s.slot slot s.at s.next stands.at_below stands.others stands.place filled
    written in
    let below = stands.at_below in
    subst (RingingStands size) (sym e) (record {
      at_below = grind (arith, nat_tests);
      others = p.1;
      place = p.2;
      sum = stands.sum ∙ ap (λ (l : List ℕ). s.taken ++ l) p.0
          ∙ sym (append_assoc s.taken (s.slot s.at ∷ []) (content size slot (after_place size s.at)));
    })

pub taken_is_a_prefix : TakenIsAPrefix
taken_is_a_prefix size s [] stands steps = stands
taken_is_a_prefix size s (t ∷ ts) stands steps = taken_is_a_prefix size t ts (rings_on size s t stands steps.0) steps.1
