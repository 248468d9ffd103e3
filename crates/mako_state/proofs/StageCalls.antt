-- Of which calls the stages of an attempt are.
use Rattle.std.proofs.Common.{◌≡◌, ℕ, sym, ap}
use Rattle.mako_words.specs.declared.name.Name.{Name}
use Rattle.mako_words.specs.declared.value.Value.{Value}
use Rattle.mako_model.specs.declared.call.Call.{Call}
use Rattle.mako_model.specs.declared.call.Call.TheVariants as call
use Rattle.mako_call.specs.declared.object.Access.TheVariants.{Get as Gets, Put as Puts}
use Rattle.mako_call.specs.declared.object.Get.{Get as GetArgs}
use Rattle.mako_call.specs.declared.object.Put.{Put as PutArgs}
use Rattle.mako_call.specs.declared.rooting.RootStage.TheVariants.{LoadingCopied, LoadingShown, LoadingSource}
use Rattle.mako_call.specs.declared.rooting.RootStage.TheVariants.{LoadingTarget, LoadingValue, LoadingPhase}
use Rattle.mako_call.specs.declared.rooting.RootStage.TheVariants.{StoringCopied, StoringNull, StoringNumber}
use Rattle.mako_call.specs.Agreeing.{RootStageOf, AccessOf}

-- ---- at roots

-- stages that answer at once
pub numbers : (c : Call) (q number : ℕ) → RootStageOf c (StoringNumber q number) → c ≡ call.Num q number
numbers (call.Num q0 n0) q number e = λ i. call.Num (sym e.0 i) (sym e.1 i)
numbers (call.New q0 fields) q number e = absurd e
numbers (call.CopyRoot to from) q number e = absurd e
numbers (call.DropRoot q0) q number e = absurd e
numbers (call.Get to from field) q number e = absurd e
numbers (call.Put to field from) q number e = absurd e
numbers (call.Show q0) q number e = absurd e
numbers call.Collect q number e = absurd e

pub drops : (c : Call) (q : ℕ) → RootStageOf c (StoringNull q) → c ≡ call.DropRoot q
drops (call.DropRoot q0) q e = ap call.DropRoot (sym e)
drops (call.New q0 fields) q e = absurd e
drops (call.Num q0 number) q e = absurd e
drops (call.CopyRoot to from) q e = absurd e
drops (call.Get to from field) q e = absurd e
drops (call.Put to field from) q e = absurd e
drops (call.Show q0) q e = absurd e
drops call.Collect q e = absurd e

pub shows : (c : Call) (q : ℕ) → RootStageOf c (LoadingShown q) → c ≡ call.Show q
shows (call.Show q0) q e = ap call.Show (sym e)
shows (call.New q0 fields) q e = absurd e
shows (call.Num q0 number) q e = absurd e
shows (call.DropRoot q0) q e = absurd e
shows (call.CopyRoot to from) q e = absurd e
shows (call.Get to from field) q e = absurd e
shows (call.Put to field from) q e = absurd e
shows call.Collect q e = absurd e

pub record CopiesInto (c : Call) (r : ℕ) : Type 0 where
  pub from : ℕ
  pub is : c ≡ call.CopyRoot r from

pub copies_into : (c : Call) (r : ℕ) (v : Value) → RootStageOf c (StoringCopied r v) → CopiesInto c r
copies_into (call.CopyRoot to from) r v e = record { from = from; is = λ i. call.CopyRoot (sym e i) from }
copies_into (call.New q0 fields) r v e = absurd e
copies_into (call.Num q0 number) r v e = absurd e
copies_into (call.DropRoot q0) r v e = absurd e
copies_into (call.Get to from field) r v e = absurd e
copies_into (call.Put to field from) r v e = absurd e
copies_into (call.Show q0) r v e = absurd e
copies_into call.Collect r v e = absurd e

-- and those that load a root
pub copies : (c : Call) (r q : ℕ) → RootStageOf c (LoadingCopied r q) → c ≡ call.CopyRoot r q
copies (call.CopyRoot to from) r q e = λ i. call.CopyRoot (sym e.0 i) (sym e.1 i)
copies (call.New r0 fields) r q e = absurd e
copies (call.Num r0 number) r q e = absurd e
copies (call.DropRoot r0) r q e = absurd e
copies (call.Get to from field) r q e = absurd e
copies (call.Put to field from) r q e = absurd e
copies (call.Show r0) r q e = absurd e
copies call.Collect r q e = absurd e

pub gets : (c : Call) (r q i : ℕ) → RootStageOf c (LoadingSource r q i) → c ≡ call.Get r q i
gets (call.Get to from field) r q i e = λ j. call.Get (sym e.0 j) (sym e.1 j) (sym e.2 j)
gets (call.CopyRoot to from) r q i e = absurd e
gets (call.New r0 fields) r q i e = absurd e
gets (call.Num r0 number) r q i e = absurd e
gets (call.DropRoot r0) r q i e = absurd e
gets (call.Put to field from) r q i e = absurd e
gets (call.Show r0) r q i e = absurd e
gets call.Collect r q i e = absurd e

pub puts : (c : Call) (r i q : ℕ) → RootStageOf c (LoadingTarget r i q) → c ≡ call.Put r i q
puts (call.Put to field from) r i q e = λ j. call.Put (sym e.0 j) (sym e.1 j) (sym e.2 j)
puts (call.Get to from field) r i q e = absurd e
puts (call.CopyRoot to from) r i q e = absurd e
puts (call.New r0 fields) r i q e = absurd e
puts (call.Num r0 number) r i q e = absurd e
puts (call.DropRoot r0) r i q e = absurd e
puts (call.Show r0) r i q e = absurd e
puts call.Collect r i q e = absurd e

pub record PutsValue (c : Call) (i q : ℕ) : Type 0 where
  pub to : ℕ
  pub is : c ≡ call.Put to i q

pub puts_value : (c : Call) (object : Name) (i q : ℕ) → RootStageOf c (LoadingValue object i q) → PutsValue c i q
puts_value (call.Put to field from) object i q e = record { to = to; is = λ j. call.Put to (sym e.0 j) (sym e.1 j) }
puts_value (call.Get to from field) object i q e = absurd e
puts_value (call.CopyRoot to from) object i q e = absurd e
puts_value (call.New r0 fields) object i q e = absurd e
puts_value (call.Num r0 number) object i q e = absurd e
puts_value (call.DropRoot r0) object i q e = absurd e
puts_value (call.Show r0) object i q e = absurd e
puts_value call.Collect object i q e = absurd e

pub record PutsAt (c : Call) (i : ℕ) : Type 0 where
  pub to : ℕ
  pub from : ℕ
  pub is : c ≡ call.Put to i from

pub puts_at : (c : Call) (object : Name) (i : ℕ) (v : Value) → RootStageOf c (LoadingPhase object i v) → PutsAt c i
puts_at (call.Put to field from) object i v e = record { to = to; from = from; is = λ j. call.Put to (sym e j) from }
puts_at (call.Get to from field) object i v e = absurd e
puts_at (call.CopyRoot to from) object i v e = absurd e
puts_at (call.New r0 fields) object i v e = absurd e
puts_at (call.Num r0 number) object i v e = absurd e
puts_at (call.DropRoot r0) object i v e = absurd e
puts_at (call.Show r0) object i v e = absurd e
puts_at call.Collect object i v e = absurd e

-- ---- at an object

pub record GetsInto (c : Call) (get : GetArgs) : Type 0 where
  pub from : ℕ
  pub is : c ≡ call.Get get.to from get.field

pub gets_into : (c : Call) (get : GetArgs) → AccessOf c (Gets get) → GetsInto c get
gets_into (call.Get to from field) get e = record { from = from; is = λ j. call.Get (sym e.0 j) from (sym e.1 j) }
gets_into (call.Put to field from) get e = absurd e
gets_into (call.CopyRoot to from) get e = absurd e
gets_into (call.New r fields) get e = absurd e
gets_into (call.Num r number) get e = absurd e
gets_into (call.DropRoot r) get e = absurd e
gets_into (call.Show r) get e = absurd e
gets_into call.Collect get e = absurd e

pub puts_into : (c : Call) (put : PutArgs) → AccessOf c (Puts put) → PutsAt c put.field
puts_into (call.Put to field from) put e = record { to = to; from = from; is = λ j. call.Put to (sym e j) from }
puts_into (call.Get to from field) put e = absurd e
puts_into (call.CopyRoot to from) put e = absurd e
puts_into (call.New r fields) put e = absurd e
puts_into (call.Num r number) put e = absurd e
puts_into (call.DropRoot r) put e = absurd e
puts_into (call.Show r) put e = absurd e
puts_into call.Collect put e = absurd e
