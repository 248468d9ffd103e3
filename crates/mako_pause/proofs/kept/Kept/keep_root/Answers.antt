use Rattle.std.proofs.Common.{rules, ◌≡◌, Bool, true, false, List, [], ◌∷◌, ◌++◌, All, if◌then◌else◌, sym, subst}
use Rattle.std.specs.Result.{is_ok}
use Rattle.std.proofs.lemmas.List.Elements.{All-nil, All-cons, All-append}
use Rattle.mako_words.specs.Values.{FitsValue}
use Rattle.mako_words.specs.declared.name.Name.{Name}
use Rattle.mako_words.specs.declared.value.Value.{Value}
use Rattle.mako_words.specs.declared.value.Value.TheVariants.{Ref}
use Rattle.mako_ring.specs.Tracing.{FieldFits}
use Rattle.mako_shape.specs.declared.numbers.Numbers.{Numbers}
use Rattle.mako_pause.specs.Collecting.{Holdings}
use Rattle.mako_pause.specs.Keeping.{IsKeptName}
use Rattle.mako_pause.proofs.kept.Kept.keep_root.Goals as goal

all_either : (P : Name → Type 0) (b : Bool) (xs ys : List Name) → All P xs → All P ys → All P (if b then xs else ys)
all_either P true xs ys f g = f
all_either P false xs ys f g = g

-- a value that is a name, of an entry that there is
kept_name : (n : Numbers) (value : Value) (name : Name) → value ≡ Ref name → FieldFits n value → FitsValue value
    → IsKeptName n name
kept_name n value name is fits packed =
    (subst (FieldFits n) is fits, subst FitsValue is packed)

pub invariant_of-self : goal.invariant_of-self
invariant_of-self c = record {
  known = record {
    shape = c.self.invariant.known.shape;
    cycle = c.self.invariant.known.cycle;
    pending = rw c.push_back.ensures.items
        (all_either (IsKeptName c.self.inside.shape) (is_ok c.push_back.result)
        (c.self.inside.pending.items ++ c.in-Ref.name ∷ []) c.self.inside.pending.items
        (All-append (IsKeptName c.self.inside.shape) c.self.inside.pending.items (c.in-Ref.name ∷ [])
        c.self.invariant.known.pending
        (All-cons (IsKeptName c.self.inside.shape) c.in-Ref.name []
        (kept_name c.self.inside.shape c.args.value c.in-Ref.name c.in-Ref.is
        (subst (λ (k : Holdings). FieldFits k.shape c.args.value) (sym c.self.view_is) c.requires.fits)
        c.requires.packed) (All-nil (IsKeptName c.self.inside.shape))))
        c.self.invariant.known.pending);
    windows_count = c.self.invariant.known.windows_count;
    windows = c.self.invariant.known.windows;
    barriers_count = c.self.invariant.known.barriers_count;
    barriers = c.self.invariant.known.barriers;
    notices_count = c.self.invariant.known.notices_count;
    notices = c.self.invariant.known.notices;
    poll_shape = c.self.invariant.known.poll_shape;
    poll = c.self.invariant.known.poll;
    chosen = c.self.invariant.known.chosen;
    roles = c.self.invariant.known.roles;
    lists = c.self.invariant.known.lists;
    lists_room = c.self.invariant.known.lists_room;
    names = c.self.invariant.known.names;
  };
  pending_room = search rules;
  used_room = c.self.invariant.used_room;
  chosen_room = c.self.invariant.chosen_room;
  freed_room = c.self.invariant.freed_room;
  chooser_room = c.self.invariant.chooser_room;
}
