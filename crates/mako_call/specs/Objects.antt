-- Objects, and what a call is to do at them.
use Rattle.std.specs.Prelude.{ℕ, ◌<◌}
use Rattle.mako_words.specs.Names.{FitsName}
use Rattle.mako_words.specs.Values.{FitsValue}
use Rattle.mako_words.specs.declared.name.Name.{Name}
use Rattle.mako_words.specs.declared.value.Value.{Value}
use Rattle.mako_words.specs.declared.value.Value.TheVariants.{Null, Num, Ref}
use Rattle.mako_shape.specs.declared.numbers.Numbers.{Numbers}
use Rattle.mako_shape.specs.Limits.{all_entries}
use Rattle.mako_shape.specs.Belongings.{IsAddress, tablet_of_entry}
use Rattle.mako_call.specs.declared.object.Access.{Access}
use Rattle.mako_call.specs.declared.object.Access.TheVariants.{Get as Gets, Put as Puts}
use Rattle.mako_call.specs.declared.object.Errand.{Errand}
use Rattle.mako_call.specs.declared.object.Located.{Located}
use Rattle.mako_call.specs.declared.call_stage.CallStage.{CallStage}
use Rattle.mako_call.specs.declared.call_stage.CallStage.TheVariants.{Entering, Getting, Putting}
use Rattle.mako_call.specs.declared.entering.EnterStage.TheVariants.{Arriving}
use Rattle.mako_call.specs.declared.getting.GetStage.TheVariants.{LoadingHeader as GetHeader}
use Rattle.mako_call.specs.declared.putting.PutStage.TheVariants.{LoadingHeader as PutHeader}

-- the tablet of an object
abbrev pub tablet_of : Numbers → Name → ℕ
tablet_of n object = tablet_of_entry n object.entry

-- it goes to the object
abbrev pub begun_at : Name → Access → CallStage
begun_at object access = Entering (record { object = object; access = access }) Arriving

-- it is at the object's record, which has this address
abbrev pub at_record : Located → Access → CallStage
at_record located (Gets get) = Getting located get GetHeader
at_record located (Puts put) = Putting located put PutHeader

abbrev pub at_object : Errand → ℕ → CallStage
at_object e address = at_record (record { object = e.object; address = address }) e.access

-- a name of an entry that there is
abbrev pub ObjectIsKnown : Numbers → Name → Type 0
ObjectIsKnown n object = FitsName object × (object.entry < all_entries n)

-- a value that is a name is one of an entry that there is
abbrev pub ValueIsKnown : Numbers → Value → Type 0
ValueIsKnown n Null = Unit {0}
ValueIsKnown n (Num x) = Unit {0}
ValueIsKnown n (Ref name) = name.entry < all_entries n

abbrev pub AccessIsKnown : Numbers → Access → Type 0
AccessIsKnown n (Gets get) = get.to < n.roots
AccessIsKnown n (Puts put) = FitsValue put.value

abbrev pub ErrandIsKnown : Numbers → Errand → Type 0
ErrandIsKnown n e = ObjectIsKnown n e.object × AccessIsKnown n e.access

abbrev pub LocatedIsKnown : Numbers → Located → Type 0
LocatedIsKnown n located = ObjectIsKnown n located.object × IsAddress n located.address
