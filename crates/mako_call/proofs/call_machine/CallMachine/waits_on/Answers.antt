use Rattle.std.proofs.Common.{◌≡◌, ℕ, suc, Bool, true, false, nat_le, nat_lt, inl, inr, refl}
use Rattle.std.proofs.Common.{sym, ap, ◌∙◌, subst, arith}
use Rattle.std.proofs.lemmas.Bool.Decides.{leb_tells}
use Rattle.mako_words.specs.Phases.{phase_at}
use Rattle.mako_model.specs.declared.call.Call.{Call}
use Rattle.mako_model.specs.declared.call.Call.TheVariants.{New, Num, CopyRoot, DropRoot, Get, Put, Show, Collect}
use Rattle.mako_model.specs.declared.attempt.Pause.TheVariants.{Cycle as NotYet}
use Rattle.mako_call.specs.declared.caller.Caller.{Caller}
use Rattle.mako_call.specs.declared.call_stage.CallStage.{CallStage}
use Rattle.mako_call.specs.declared.call_stage.CallStage.TheVariants.{Asking}
use Rattle.mako_call.specs.declared.asking.AskStage.{AskStage}
use Rattle.mako_call.specs.declared.asking.AskStage.TheVariants.{LoadingPhase, RaisingDemand, Awaiting}
use Rattle.mako_call.specs.Agreeing.{StageOf}
use Rattle.mako_call.specs.Asking.{ask_waits, finished_cycles}
use Rattle.mako_call.specs.Calls.{Calling, ComesAgain}
use Rattle.mako_call.specs.Standings.{calling_in, stage_at}
use Rattle.mako_call.proofs.call_machine.CallMachine.waits_on.Goals as goal

-- a collect that waits is attempted again from where it waits
waits_at : (k : Caller) (call : Call) (last : Bool) (slot cycle w : ℕ) → StageOf k.shape call (Asking (Awaiting cycle))
    → nat_le cycle (finished_cycles (phase_at w)) ≡ false →
    ComesAgain (record { caller = k; call = call; last = last; slot = slot; stage = Asking (Awaiting cycle) }) w
waits_at k Collect last slot cycle w of late =
    record { pause = NotYet cycle w; outcome = rw late refl; event = rw late refl; same = refl }
waits_at k (New root fields) last slot cycle w of late = absurd of
waits_at k (Num root number) last slot cycle w of late = absurd of
waits_at k (CopyRoot to from) last slot cycle w of late = absurd of
waits_at k (DropRoot root) last slot cycle w of late = absurd of
waits_at k (Get to from field) last slot cycle w of late = absurd of
waits_at k (Put to field from) last slot cycle w of late = absurd of
waits_at k (Show root) last slot cycle w of late = absurd of

not_yet : (a b : ℕ) → nat_lt a b ≡ true → nat_le b a ≡ false
not_yet a b less = elim (leb_tells b a) [
  | inl t ↦ absurd (elim (leb_tells (suc a) b) [
    | inl u ↦ (let le = t.1 in let lt = u.1 in omega (arith, le, lt))
    | inr u ↦ (let e : true ≡ false = sym less ∙ u.0 in cc)
  ])
  | inr t ↦ t.0
]

asking : (k : Caller) (call : Call) (last : Bool) (slot : ℕ) (s : AskStage) (w : ℕ) → StageOf k.shape call (Asking s)
    → ask_waits s w ≡ true →
    ComesAgain (record { caller = k; call = call; last = last; slot = slot; stage = Asking s }) w
asking k call last slot LoadingPhase w of waits = absurd cc
asking k call last slot (RaisingDemand cycle) w of waits = absurd cc
asking k call last slot (Awaiting cycle) w of waits = waits_at k call last slot cycle w of (not_yet _ cycle waits)

waits : (v : Calling) (s : AskStage) (w : ℕ) → StageOf v.caller.shape v.call v.stage → v.stage ≡ Asking s
    → ask_waits s w ≡ true → ComesAgain v w
waits v s w of is less =
    let at : record v { stage = Asking s } ≡ v = ap (λ (t : CallStage). record v { stage = t }) (sym is) in
    subst (λ (q : Calling). ComesAgain q w) at
    (asking v.caller v.call v.last v.slot s w (subst (StageOf v.caller.shape v.call) is of) less)

pub returns-in-Asking-clause-again : goal.returns-in-Asking-clause-again
returns-in-Asking-clause-again c yes_ =
    let v : Calling = calling_in c.self.inside in
    subst (λ (q : Calling). ComesAgain q c.args.before) c.self.view_is
    (waits v c.in-Asking.stage c.args.before c.self.invariant.agrees (ap stage_at c.in-Asking.is)
    (sym c.waits_on.ensures ∙ yes_))
