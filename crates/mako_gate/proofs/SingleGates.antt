-- The law of one gate.
use Rattle.std.proofs.Common.{◌≡◌, ℕ, ◌<◌, ◌≤◌, ◌^◌, inl, inr, List, length, set, slice_get, sum_by, Some, sym, ap}
use Rattle.std.proofs.Common.{refl, subst, arith}
use Rattle.std.proofs.lemmas.List.{length-set}
use Rattle.std.proofs.lemmas.List.Sums.{sum_by-le-sum_by}
use Rattle.std.proofs.lemmas.Option.{slice_get_within}
use Rattle.mako_gate.specs.Bits.{shut_bit}
use Rattle.mako_gate.specs.Gates.{Gate}
use Rattle.mako_gate.specs.GateSteps.{Moves}
use Rattle.mako_gate.specs.SingleGates.{Presence, outside, rejected, present, Keeping, is_open, is_shutting, is_drained}
use Rattle.mako_gate.specs.SingleGates.{SingleGate, is_there, is_admitted, shut_of, drained_of, SingleAct, arrives}
use Rattle.mako_gate.specs.SingleGates.{is_refused, leaves, steps_back, shuts, drains, reopens, SingleReached, opens}
use Rattle.mako_gate.specs.SingleGates.{goes_on, SingleTells, SinglesTell}
use Rattle.mako_gate.proofs.Lists.{sum_at, le_sum, sum_seated, sum_none}
use Rattle.mako_gate.proofs.GatesKept.{gate_moved}
use Rattle.mako_gate.proofs.Found as found

-- the numbers of the gate
record Holds (g : SingleGate) : Type 0 where
  many : length g.views < 2 ^ 16
  gate : Gate (length g.views) g.word (sum_by is_there g.views) (sum_by is_admitted g.views) (shut_of g.keeping)
      (drained_of g.keeping)

there_one : (p : Presence) → is_there p ≤ 1
there_one outside = omega arith
there_one p = omega arith

admitted_there : (p : Presence) → is_admitted p ≤ is_there p
admitted_there outside = omega arith
admitted_there p = omega arith

drained_shut : (k : Keeping) → drained_of k ≤ shut_of k
drained_shut is_open = omega arith
drained_shut k = omega arith

there_few : (views : List Presence) → sum_by is_there views ≤ length views
there_few views = sum_seated is_there views (length views) there_one (λ i p e one. slice_get_within views i p e)

module _ (g : SingleGate) (o : Holds g) where
  below : g.word < 2 ^ 17
  below = found.below (length g.views) g.word _ _ _ _ o.many o.gate

  -- a view goes from p to q
  viewed : (i V : ℕ) (p q : Presence) → slice_get g.views i ≡ Some p →
      Moves g.word V (is_there p) (is_there q) (is_admitted p) (is_admitted q) 0 0 0 0 →
      Holds (record g { word = V; views = set g.views i q })
  viewed i V p q here m =
      let size = length-set g.views i q in
      record {
        many = omega (arith, size, o.many);
        gate = subst (λ z. Gate z V (sum_by is_there (set g.views i q)) (sum_by is_admitted (set g.views i q))
            (shut_of g.keeping) (drained_of g.keeping)) (sym size)
            (gate_moved (length g.views) g.word V _ _ _ _ _ _ _ _ _ _ _ _ 0 0 0 0 o.many o.gate m
            (sum_at is_there g.views i p q here) (sum_at is_admitted g.views i p q here) refl refl
            (sum_by-le-sum_by is_admitted is_there (set g.views i q) admitted_there) (drained_shut g.keeping)
            (omega (arith, size, there_few (set g.views i q)))
            (le_sum is_there g.views i p here) (le_sum is_admitted g.views i p here) (omega arith) (omega arith));
      }

  -- the seat that shuts the gate goes on to k
  kept : (V : ℕ) (k : Keeping)
      → Moves g.word V 0 0 0 0 (shut_of g.keeping) (shut_of k) (drained_of g.keeping) (drained_of k) →
      Holds (record g { word = V; keeping = k })
  kept V k m = record {
    many = o.many;
    gate = gate_moved (length g.views) g.word V _ _ _ _ _ _ _ _ 0 0 0 0 _ _ _ _ o.many o.gate m refl refl (omega arith)
        (omega arith)
        (sum_by-le-sum_by is_admitted is_there g.views admitted_there) (drained_shut k) (there_few g.views)
        (omega arith) (omega arith) (omega arith) (omega arith);
  }

  there : (i : ℕ) (p : Presence) → slice_get g.views i ≡ Some p → is_there p ≡ 1 → 1 ≤ g.word
  there i p here one = let a = le_sum is_there g.views i p here in omega (arith, o.gate.word_is)

  step : (h : SingleGate) → SingleAct g h → Holds h
  step _ (arrives i here e) =
      let open_ = found.clear g.word e in
      let one = found.one_more g.word below in
      viewed i _ outside present here (record {
        word = omega (arith, one);
        shut = inl (omega arith);
        admits = inr (open_, omega arith);
        drains = inl (omega arith);
      })
  step _ (is_refused i here e) =
      let one = found.one_more g.word below in
      viewed i _ outside rejected here (record {
        word = omega (arith, one);
        shut = inl (omega arith);
        admits = inl (omega arith);
        drains = inl (omega arith);
      })
  step _ (leaves i here) =
      let one = found.one_less g.word below (there i present here refl) in
      viewed i _ present outside here (record {
        word = omega (arith, one);
        shut = inl (omega arith);
        admits = inl (omega arith);
        drains = inl (omega arith);
      })
  step _ (steps_back i here) =
      let one = found.one_less g.word below (there i rejected here refl) in
      viewed i _ rejected outside here (record {
        word = omega (arith, one);
        shut = inl (omega arith);
        admits = inl (omega arith);
        drains = inl (omega arith);
      })
  step _ (shuts e) =
      let s = ap shut_of e in
      let d = ap drained_of e in
      let open_ : g.word < shut_bit = omega (arith, o.gate.word_is, o.gate.few, o.many) in
      let more = found.shut_more g.word open_ in
      kept _ is_shutting (record {
        word = omega (arith, more);
        shut = inr (open_, omega arith);
        admits = inl (omega arith);
        drains = inl (omega arith);
      })
  step _ (drains e none) =
      let s = ap shut_of e in
      let d = ap drained_of e in
      let empty : g.word ≡ shut_bit = omega (arith, o.gate.word_is, o.gate.few, o.many) in
      kept g.word is_drained (record {
        word = omega arith;
        shut = inl (omega arith);
        admits = inl (omega arith);
        drains = inr (empty, omega arith);
      })
  step _ (reopens s) =
      let less = found.shut_less g.word (omega (arith, o.gate.word_is)) below in
      kept _ is_open (record {
        word = omega (arith, less);
        shut = inl (omega arith);
        admits = inl (omega arith);
        drains = inl (omega arith);
      })

  tells : SingleTells g
  tells = record {
    count = omega (arith, o.gate.word_is, o.gate.few, o.many);
    most = omega (arith, o.gate.word_is, o.gate.few, o.many);
    is_kept = λ s. found.set_bit g.word (omega (arith, o.gate.word_is));
    nobody = λ e i p here. (let d = ap drained_of e in let z = o.gate.nobody (omega arith) in
        let a = le_sum is_admitted g.views i p here in omega arith);
  }

holds : (g : SingleGate) → SingleReached g → Holds g
holds _ (opens views many all) =
    let a = sum_none is_there views (λ i p e. ap is_there (all i p e)) in
    let b = sum_none is_admitted views (λ i p e. ap is_admitted (all i p e)) in
    record {
      many = many;
      gate = record {
        word_is = omega arith;
        few = omega arith;
        once = omega arith;
        within = omega arith;
        kept = omega arith;
        nobody = λ h. b;
      };
    }
holds _ (goes_on g h before act) = step g (holds g before) h act

pub singles_tell : SinglesTell
singles_tell g reached = tells g (holds g reached)
