-- Which calls may be answered how, and which snapshots may be taken, in an immortal heap, and what they change.
use Rattle.std.specs.Prelude.{ℕ, ◌≡◌, ◌+◌, ◌<◌, ◌≤◌, ◌⊎◌, List, [], length, slice_get, slice_set, replicate, Some, None}
use Rattle.std.specs.declared.option.Option.{Option}
use Rattle.std.specs.Option.{unwrap_or}
use Rattle.mako_words.specs.declared.name.Name.{Name}
use Rattle.mako_words.specs.declared.value.Value.{Value}
use Rattle.mako_words.specs.declared.value.Value.TheVariants as value
use Rattle.mako_model.specs.declared.call.Call.{Call}
use Rattle.mako_model.specs.declared.call.Call.TheVariants as call
use Rattle.mako_model.specs.declared.reply.Reply.{Reply}
use Rattle.mako_model.specs.declared.reply.Reply.TheVariants as reply
use Rattle.mako_model.specs.declared.point.Point.{Point}
use Rattle.mako_model.specs.declared.point.Point.TheVariants.{Did, Snap}
use Rattle.mako_model.specs.Heaps.{Heap, fields_of, root_of, with_root, with_fields}

-- the mutator has that root
abbrev pub HasRoot : Heap → ℕ → ℕ → Type 0
HasRoot h mutator root = (v : Value) × (root_of h mutator root ≡ Some v)

-- the root names an object, which has these fields
pub record RefersTo (h : Heap) (mutator root : ℕ) (name : Name) (fields : List Value) : Type 0 where
  pub root_is : root_of h mutator root ≡ Some (value.Ref name)
  pub fields_are : fields_of h name ≡ Some fields

-- null, or a number
abbrev pub IsNoRef : Value → Type 0
IsNoRef value.Null = Unit {0}
IsNoRef (value.Num x) = Unit {0}
IsNoRef (value.Ref name) = ⊥

-- the root holds null or a number
abbrev pub HoldsNoRef : Heap → ℕ → ℕ → Type 0
HoldsNoRef h mutator root = (v : Value) × (root_of h mutator root ≡ Some v) × IsNoRef v

-- the field of the object that the root names holds the value
abbrev pub HasField : Heap → ℕ → ℕ → ℕ → Value → Type 0
HasField h mutator root field v =
    (name : Name) × (fields : List Value) × RefersTo h mutator root name fields × (slice_get fields field ≡ Some v)

-- null or a number, or what stands in a root or in a field of an object that a root names
abbrev pub IsAtHand : Heap → Value → Type 0
IsAtHand h v = IsNoRef v ⊎ ((m : ℕ) × (q : ℕ) × (root_of h m q ≡ Some v))
    ⊎ ((m : ℕ) × (q : ℕ) × (i : ℕ) × HasField h m q i v)

-- the root names an object with more fields than that
abbrev pub HasMoreFields : Heap → ℕ → ℕ → ℕ → Type 0
HasMoreFields h mutator root field =
    (name : Name) × (fields : List Value) × RefersTo h mutator root name fields × (field < length fields)

-- the root names an object with at most that many fields
abbrev pub HasNoMoreFields : Heap → ℕ → ℕ → ℕ → Type 0
HasNoMoreFields h mutator root field =
    (name : Name) × (fields : List Value) × RefersTo h mutator root name fields × (length fields ≤ field)

-- the mutator may get this reply to this call: of each pair that has no case of its own it may not
abbrev pub IsLawfulReply : Heap → ℕ → Call → Reply → Type 0
IsLawfulReply h m (call.New root fields) (reply.Made name) = HasRoot h m root × (fields_of h name ≡ None)
IsLawfulReply h m (call.New root fields) reply.Full = HasRoot h m root
IsLawfulReply h m (call.Num root x) (reply.Value v) = HasRoot h m root × (v ≡ value.Num x)
IsLawfulReply h m (call.CopyRoot to from) (reply.Value v) = HasRoot h m to × (root_of h m from ≡ Some v)
IsLawfulReply h m (call.DropRoot root) reply.Done = HasRoot h m root
IsLawfulReply h m (call.Show root) (reply.Value v) = root_of h m root ≡ Some v
IsLawfulReply h m (call.Get to from field) (reply.Value v) = HasRoot h m to × HasField h m from field v
IsLawfulReply h m (call.Put to field from) reply.Done = HasRoot h m from × HasMoreFields h m to field
IsLawfulReply h m (call.Get to from field) reply.NoRef = HasRoot h m to × HoldsNoRef h m from
IsLawfulReply h m (call.Put to field from) reply.NoRef = HasRoot h m from × HoldsNoRef h m to
IsLawfulReply h m (call.Get to from field) reply.NoField = HasRoot h m to × HasNoMoreFields h m from field
IsLawfulReply h m (call.Put to field from) reply.NoField = HasRoot h m from × HasNoMoreFields h m to field
IsLawfulReply h m call.Collect (reply.Cycle k) = (m < length h.roots) × (1 ≤ k) × (k ≤ h.snaps)
IsLawfulReply h m call.Collect reply.Spent = (m < length h.roots) × (h.snaps ≡ h.cycles)
IsLawfulReply h m c r = ⊥

-- the point may come next: a lawful reply, or the next snapshot, where there may be one more
abbrev pub IsLawful : Heap → Point → Type 0
IsLawful h (Did m c r) = IsLawfulReply h m c r
IsLawful h (Snap cycle) = (cycle ≡ h.snaps + 1) × (cycle ≤ h.cycles)

-- the field of the object that the first value names becomes the second
abbrev pub with_field : Heap → Option Value → ℕ → Option Value → Heap
with_field h (Some (value.Ref name)) field (Some v) =
    with_fields h name (slice_set (unwrap_or (fields_of h name) []) field v)
with_field h object field v = h

-- what the call leaves, with this reply
abbrev pub heap_replied : Heap → ℕ → Call → Reply → Heap
heap_replied h m (call.New root fields) (reply.Made name) =
    with_root (with_fields h name (replicate fields value.Null)) m root (value.Ref name)
heap_replied h m (call.Num root x) (reply.Value v) = with_root h m root v
heap_replied h m (call.CopyRoot to from) (reply.Value v) = with_root h m to v
heap_replied h m (call.DropRoot root) reply.Done = with_root h m root value.Null
heap_replied h m (call.Get to from field) (reply.Value v) = with_root h m to v
heap_replied h m (call.Put to field from) reply.Done = with_field h (root_of h m to) field (root_of h m from)
heap_replied h m c r = h

-- what the point leaves
abbrev pub heap_after : Heap → Point → Heap
heap_after h (Did m c r) = heap_replied h m c r
heap_after h (Snap cycle) = record h { snaps = h.snaps + 1 }
