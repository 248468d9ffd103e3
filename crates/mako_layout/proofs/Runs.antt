-- All that is reached from the opening meets the invariant.
use Rattle.std.proofs.Common.{ℕ, ◌+◌, ◌≤◌, List, [], ◌∷◌, ◌++◌, sym, ap, ◌∙◌, refl, subst, arith}
use Rattle.mako_shape.specs.declared.numbers.Numbers.{Numbers}
use Rattle.mako_shape.specs.Limits.{IsShape}
use Rattle.mako_layout.specs.Evacuations.{State, Evacuation}
use Rattle.mako_layout.specs.Runs.{Reaches, opens, goes_on, NewIsPublished, PutIsStored, OthersEnter}
use Rattle.mako_layout.proofs.EachStep.{each_step_keeps}
use Rattle.mako_layout.proofs.Opens.{opening_kept}
use Rattle.mako_layout.proofs.Outside.{new_published, put_stored, made_kept, made_more, one_more, outside_kept}
use Rattle.mako_layout.proofs.GateSteps.{only_look}
use Rattle.mako_model.specs.declared.point.Point.{Point}
use Rattle.mako_model.specs.declared.point.Point.TheVariants.{Did}
use Rattle.mako_model.specs.declared.call.Call.TheVariants.{Put}
use Rattle.mako_model.specs.declared.reply.Reply.TheVariants.{Done}
use Rattle.mako_model.specs.Heaps.{Heap, fields_of}
use Rattle.mako_model.specs.Lawful.{heap_after}
use Rattle.mako_model.specs.Legal.{state_of}
use Rattle.mako_model.specs.Starved.{words_made}

pub all_reached_hold : (n : Numbers) → IsShape n → (board : ℕ) → board + 1 ≤ n.words → (s : State) →
    Reaches n board s → Evacuation n s
all_reached_hold n shape board fits s opens = opening_kept n shape board fits
all_reached_hold n shape board fits s (goes_on b who _ before step) = each_step_keeps n shape b who s
    (all_reached_hold n shape board fits b before) step

-- a new object's point enters the history
pub new_is_published : NewIsPublished
new_is_published n shape s e w same history is i g name r o fields m root V seat small sets =
    new_published n shape s e i g seat.gate w same history is.heap is.made name r o fields m root V seat.work small sets

-- and that of a stored field
pub put_is_stored : PutIsStored
put_is_stored n s e w history is i g x r o m to field from v V seat fields were less object value sets =
    let point : Point = Did m (Put to field from) Done in
    let after : List Point = history ++ point ∷ [] in
    made_kept n (record s { words = V; heap = state_of w after })
    (put_stored n s e i g seat.gate w history is.heap x r o m to field from v V seat.work fields were less object
    value sets)
    (λ t. words_made w t after) (λ t. let a = made_more w history point t in let b = is.made t in omega arith)

-- and any other
pub others_enter : OthersEnter
others_enter n s e w history is point objects none =
    let after : List Point = history ++ point ∷ [] in
    let h : Heap = heap_after (state_of w history) point in
    let kept : Evacuation n (record s { heap = h }) =
    outside_kept n s e s.words h (only_look n s.words)
    (record { tablets = λ _ _. refl; owns = λ _ _. refl; turns = λ _ _. refl })
    (λ name. objects name ∙ ap (λ q. fields_of q name) (sym is.heap)) in
    subst (λ q. Evacuation n (record s { heap = q; made = λ t. words_made w t after })) (sym (one_more w history point))
    (made_kept n (record s { heap = h }) kept (λ t. words_made w t after)
    (λ t. let a = made_more w history point t in let b = is.made t in let c = none t in omega arith))
