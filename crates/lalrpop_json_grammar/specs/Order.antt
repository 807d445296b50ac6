-- Reading order of two faults of one value.
use Rattle.std.specs.Prelude.{◌≡◌, ℕ, List, [], ◌∷◌, Bool, true, false, not}
use Rattle.std.specs.List.{AllByRecursion}
use Rattle.std.specs.Ordering.{nat_cmp, match_ordering, is_lt}
use Rattle.std.specs.declared.cmp.Ordering.{Ordering}
use Rattle.std.specs.declared.cmp.Ordering.TheVariants.{Less, Greater}
use Rattle.std.specs.Cmp.Lexicographic.{slice_cmp}
use Rattle.serde_json.specs.Data.{Data, null, boolean, number, string, array, object, Items, no_items, item, Members, no_members, member}
use Rattle.lalrpop_json_values.specs.declared.fault.Fault.{Fault}
use Rattle.lalrpop_json_values.specs.declared.fault.FaultKind.{FaultKind}
use Rattle.lalrpop_json_values.specs.declared.fault.FaultKind.TheVariants as fault
use Rattle.lalrpop_json_values.specs.declared.fault.Step.{Step}
use Rattle.lalrpop_json_values.specs.declared.fault.Step.TheVariants as step
use Rattle.lalrpop_json_values.specs.Key.{key_text}
use Rattle.lalrpop_json_values.specs.Objects.{names}

-- byte order of keys
abbrev pub text_order : List ℕ → List ℕ → Ordering
text_order s t = slice_cmp nat_cmp s t

-- a value has members or items, not both
abbrev pub order_of_steps : Step → Step → Ordering
order_of_steps (step.Key k) (step.Key l) = text_order (key_text k) (key_text l)
order_of_steps (step.Key k) (step.Index j) = Less
order_of_steps (step.Index i) (step.Key l) = Greater
order_of_steps (step.Index i) (step.Index j) = nat_cmp i j

-- what is told of a value behind what stands inside: of a span, whose numbers come first, the order of its ends
abbrev pub is_behind : FaultKind → Bool
is_behind fault.BadNumber = true
is_behind _ = false

-- Of one object the missing keys come first, then the unknown ones, each in byte order. Other kinds don't meet at one value, but
-- what is told behind what stands inside is told behind the rest.
abbrev pub kind_before : FaultKind → FaultKind → Bool
kind_before (fault.MissingKey k) (fault.MissingKey l) = is_lt (text_order (key_text k) (key_text l))
kind_before (fault.MissingKey k) other = true
kind_before (fault.UnknownKey k) (fault.MissingKey l) = false
kind_before (fault.UnknownKey k) (fault.UnknownKey l) = is_lt (text_order k l)
kind_before (fault.UnknownKey k) other = true
kind_before fault.WrongShape other = is_behind other
kind_before fault.BadName other = is_behind other
kind_before fault.BadNumber other = false

abbrev pub fault_before : List Step → FaultKind → List Step → FaultKind → Bool
fault_before [] kind [] other = kind_before kind other
fault_before [] kind (q ∷ qs) other = not (is_behind kind)
fault_before (p ∷ ps) kind [] other = is_behind other
fault_before (p ∷ ps) kind (q ∷ qs) other = match_ordering (order_of_steps p q) true (fault_before ps kind qs other) false

-- the first fault comes before the second
abbrev pub FaultComesBefore : Fault → Fault → Type 0
FaultComesBefore f g = fault_before f.path f.kind g.path g.kind ≡ true

-- each text in byte order behind those in front of it
abbrev pub AreRising : List (List ℕ) → Type 0
AreRising [] = Unit {0}
AreRising (l ∷ ls) = AllByRecursion (λ m. text_order l m ≡ Less) ls × AreRising ls

-- Each object in the value has each key once, in byte order, as all that is read of a text.
abbrev mutual
  pub HasKeysInOrder : Data → Type 0
  HasKeysInOrder null = Unit {0}
  HasKeysInOrder (boolean b) = Unit {0}
  HasKeysInOrder (number n) = Unit {0}
  HasKeysInOrder (string s) = Unit {0}
  HasKeysInOrder (array ds) = AreItemsInOrder ds
  HasKeysInOrder (object ms) = AreRising (names ms) × AreMembersInOrder ms

  pub AreItemsInOrder : Items → Type 0
  AreItemsInOrder no_items = Unit {0}
  AreItemsInOrder (item d ds) = HasKeysInOrder d × AreItemsInOrder ds

  pub AreMembersInOrder : Members → Type 0
  AreMembersInOrder no_members = Unit {0}
  AreMembersInOrder (member k d ms) = HasKeysInOrder d × AreMembersInOrder ms
