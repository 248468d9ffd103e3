-- What the collector's trail shows stays as the trail grows.
use Rattle.std.proofs.Common.{◌≡◌, ◌≢◌, ℕ, ◌+◌, ◌<◌, ◌==◌, Bool, cond, List, [], ◌∷◌, ◌++◌, append_assoc, refl, ap, ◌∙◌}
use Rattle.std.proofs.Common.{below_more, arith}
use Rattle.std.proofs.lemmas.Bool.{eq-eqb, ne_eqb}
use Rattle.std.proofs.lemmas.List.Elements.{All-push, All-nil}
use Rattle.mako_words.specs.Gates.{count_of}
use Rattle.mako_words.specs.Words.{all_but}
use Rattle.mako_words.specs.declared.gate_word.TheConstants.GateWord.{SHUT}
use Rattle.mako_shape.specs.declared.numbers.Numbers.{Numbers}
use Rattle.mako_shape.specs.Places.{Place, area_of, index, phase, mutator_gate, flags}
use Rattle.mako_step.specs.Acts.{after_op}
use Rattle.mako_step.specs.declared.act.Act.{Act}
use Rattle.mako_step.specs.declared.act.Op.TheVariants.{Load, Store, Or, And}
use Rattle.mako_step.specs.Machines.{IsAct}
use Rattle.mako_step.specs.Trails.{Observation}
use Rattle.mako_step.proofs.Along.{did}
use Rattle.mako_ring.specs.FlagBits.{changed_bit}
use Rattle.mako_poll.specs.Polls as polls
use Rattle.mako_poll.specs.declared.poller.PollStage.{PollStage}
use Rattle.mako_poll.specs.declared.poller.PollStage.TheVariants.{Asking, Reading, Ended as Polled}
use Rattle.mako_cycles.specs.Phasing.{left_in}
use Rattle.mako_cycles.specs.Gating.{Stands, shuts, opens, at_gate, IsShut, IsDrained, IsOpen, EachBelow}
use Rattle.mako_cycles.specs.Telling.{Told}

-- an act with the word that it found
abbrev pub sees : Act → ℕ → Observation
sees act w = record { act = act; found = w }

-- ---- words
left_push : (word : ℕ) (trail : List Observation) (o : Observation) (x : ℕ) →
    left_in word (trail ++ o ∷ []) x ≡ cond (o.act.word == word) (after_op o.act.op (left_in word trail x))
    (left_in word trail x)
unfolding left_in
left_push word [] o x = refl
left_push word (p ∷ trail) o x = left_push word trail o (cond (p.act.word == word) (after_op p.act.op x) x)

pub left_other : (word : ℕ) (trail : List Observation) (o : Observation) (x : ℕ) → o.act.word ≢ word
    → left_in word (trail ++ o ∷ []) x ≡ left_in word trail x
left_other word trail o x other =
    left_push word trail o x
    ∙ ap (λ (b : Bool). cond b (after_op o.act.op (left_in word trail x)) (left_in word trail x))
    (ne_eqb o.act.word word other)

pub left_stored : (word : ℕ) (trail : List Observation) (y w x : ℕ)
    → left_in word (trail ++ sees (record { word = word; op = Store y }) w ∷ []) x ≡ y
left_stored word trail y w x = left_push word trail (sees (record { word = word; op = Store y }) w) x
    ∙ ap (λ (b : Bool). cond b y (left_in word trail x)) (eq-eqb word word refl)

-- every other place has another word than the phase
pub elsewhere : (n : Numbers) (p : Place) → 0 < area_of p → index n p ≢ index n phase
unfolding index
elsewhere n phase h e = omega arith
elsewhere n p h e = omega (arith, e)

-- ---- gates
pub stands_on : {Before : List Observation → Type 0} {act other : Act} {Found : ℕ
    → Type 0} {trail : List Observation} (o : Observation) → o.act ≢ other →
    Stands Before act Found other trail → Stands Before act Found other (trail ++ o ∷ [])
stands_on {Before} {act} {other} {Found} {trail} o plain h = record {
  front = h.front;
  found = h.found;
  since = h.since ++ o ∷ [];
  before = h.before;
  tells = h.tells;
  made = ap (λ (q : List Observation). q ++ o ∷ []) h.made ∙ append_assoc h.front (sees act h.found ∷ h.since) (o ∷ []);
  kept = All-push (λ p. p.act ≢ other) h.since o h.kept plain;
}

pub stands_now : (Before : List Observation → Type 0) (act other : Act) (Found : ℕ
    → Type 0) (trail : List Observation) (w : ℕ) → Before trail → Found w →
    Stands Before act Found other (trail ++ sees act w ∷ [])
stands_now Before act other Found trail w before tells = record {
  front = trail;
  found = w;
  since = [];
  before = before;
  tells = tells;
  made = refl;
  kept = All-nil (λ p. p.act ≢ other);
}

abbrev pub NeverOpens : Numbers → Act → Type 0
NeverOpens n act = (m : ℕ) → act ≢ opens n m

abbrev pub NeverShuts : Numbers → Act → Type 0
NeverShuts n act = (m : ℕ) → act ≢ shuts n m

pub never_opens : (n : Numbers) (act : Act) → act.op ≢ And (all_but SHUT) → NeverOpens n act
never_opens n act other m e = other (ap (λ (a : Act). a.op) e)

pub never_shuts : (n : Numbers) (act : Act) → act.op ≢ Or SHUT → NeverShuts n act
never_shuts n act other m e = other (ap (λ (a : Act). a.op) e)

-- the acts by which a gate is shut, looked at and opened
pub shut_is_no_opening : (n : Numbers) (m : ℕ) → NeverOpens n (shuts n m)
shut_is_no_opening n m = never_opens n (shuts n m) (λ (e : Or SHUT ≡ And (all_but SHUT)). cc)

pub opening_is_no_shut : (n : Numbers) (m : ℕ) → NeverShuts n (opens n m)
opening_is_no_shut n m = never_shuts n (opens n m) (λ (e : And (all_but SHUT) ≡ Or SHUT). cc)

-- the phase and the gates are left as they were
pub record IsPlain (n : Numbers) (act : Act) : Type 0 where
  pub elsewhere : act.word ≢ index n phase
  pub opens : NeverOpens n act
  pub shuts : NeverShuts n act

pub plain_load : (n : Numbers) (p : Place) → 0 < area_of p → IsPlain n (record { word = index n p; op = Load })
plain_load n p h = record {
  elsewhere = elsewhere n p h;
  opens = never_opens n _ (λ (e : Load ≡ And (all_but SHUT)). cc);
  shuts = never_shuts n _ (λ (e : Load ≡ Or SHUT). cc);
}

pub plain_store : (n : Numbers) (p : Place) (x : ℕ) → 0 < area_of p
    → IsPlain n (record { word = index n p; op = Store x })
plain_store n p x h = record {
  elsewhere = elsewhere n p h;
  opens = never_opens n _ (λ (e : Store x ≡ And (all_but SHUT)). cc);
  shuts = never_shuts n _ (λ (e : Store x ≡ Or SHUT). cc);
}

bits_differ : And (all_but changed_bit) ≢ And (all_but SHUT)
bits_differ e = let f : all_but changed_bit ≡ all_but SHUT = cc in absurd (omega arith)

-- so are they by the acts of a poll
pub plain_poll : (n : Numbers) (s : PollStage) → IsAct (polls.stage_next n s) → IsPlain n (did (polls.stage_next n s))
plain_poll n (Asking s) acts = record {
  elsewhere = elsewhere n (flags s) (omega arith);
  opens = never_opens n _ bits_differ;
  shuts = never_shuts n _ (λ (e : And (all_but changed_bit) ≡ Or SHUT). cc);
}
plain_poll n (Reading s) acts = plain_load n (flags s) (omega arith)
plain_poll n (Polled polled) acts = absurd acts

-- ---- what is known of all gates below one
pub shut_on : (n : Numbers) (count : ℕ) (trail : List Observation) (o : Observation) → NeverOpens n o.act
    → EachBelow IsShut n count trail → EachBelow IsShut n count (trail ++ o ∷ [])
shut_on n count trail o plain each m l = stands_on o (plain m) (each m l)

pub drained_on : (n : Numbers) (count : ℕ) (trail : List Observation) (o : Observation) → NeverOpens n o.act
    → EachBelow IsDrained n count trail → EachBelow IsDrained n count (trail ++ o ∷ [])
drained_on n count trail o plain each m l = stands_on o (plain m) (each m l)

pub open_on : (n : Numbers) (count : ℕ) (trail : List Observation) (o : Observation) → NeverShuts n o.act
    → EachBelow IsOpen n count trail → EachBelow IsOpen n count (trail ++ o ∷ [])
open_on n count trail o plain each m l = stands_on o (plain m) (each m l)

-- one gate more
pub shut_more : (n : Numbers) (m w : ℕ) (trail : List Observation) → EachBelow IsShut n m trail
    → EachBelow IsShut n (m + 1) (trail ++ sees (shuts n m) w ∷ [])
shut_more n m w trail each =
    below_more (λ j. IsShut n j (trail ++ sees (shuts n m) w ∷ [])) m
    (shut_on n m trail (sees (shuts n m) w) (shut_is_no_opening n m) each)
    (stands_now (λ _. Unit {0}) (shuts n m) (opens n m) (λ _. Unit {0}) trail w tt tt)

pub drained_more : (n : Numbers) (m w : ℕ) (trail : List Observation) → IsShut n m trail → count_of w ≡ 0
    → EachBelow IsDrained n m trail →
    EachBelow IsDrained n (m + 1) (trail ++ sees (at_gate n m Load) w ∷ [])
drained_more n m w trail shut empty each =
    below_more (λ j. IsDrained n j (trail ++ sees (at_gate n m Load) w ∷ [])) m
    (drained_on n m trail (sees (at_gate n m Load) w) (plain_load n (mutator_gate m) (omega arith)).opens each)
    (stands_now (IsShut n m) (at_gate n m Load) (opens n m) (λ v. count_of v ≡ 0) trail w shut empty)

pub open_more : (n : Numbers) (m w : ℕ) (trail : List Observation) → EachBelow IsOpen n m trail
    → EachBelow IsOpen n (m + 1) (trail ++ sees (opens n m) w ∷ [])
open_more n m w trail each =
    below_more (λ j. IsOpen n j (trail ++ sees (opens n m) w ∷ [])) m
    (open_on n m trail (sees (opens n m) w) (opening_is_no_shut n m) each)
    (stands_now (λ _. Unit {0}) (opens n m) (shuts n m) (λ _. Unit {0}) trail w tt tt)

-- ---- completion stays told
pub told_on : {n : Numbers} {cycle : ℕ} {Before : List Observation → Type 0} {Gate : Numbers → ℕ → List Observation
    → Type 0} {trail : List Observation} (o : Observation) →
    Told n cycle Before Gate trail → Told n cycle Before Gate (trail ++ o ∷ [])
told_on {n} {cycle} {Before} {Gate} {trail} o h = record {
  front = h.front;
  poll = h.poll;
  since = h.since ++ o ∷ [];
  before = h.before;
  traces = h.traces;
  gates = h.gates;
  polled = h.polled;
  made = ap (λ (q : List Observation). q ++ o ∷ []) h.made
      ∙ (append_assoc h.front (h.poll ++ h.since) (o ∷ [])
      ∙ ap (λ (q : List Observation). h.front ++ q) (append_assoc h.poll h.since (o ∷ [])));
}
