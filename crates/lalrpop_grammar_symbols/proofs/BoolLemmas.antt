-- Truth values, orderings and results: what a joined test says of its parts, and what follows from an answer.
use Rattle.std.proofs.Common.{◌≡◌, Bool, true, false, refl, sym}
use Rattle.std.specs.Prelude.{◌&&◌, ◌||◌, Result, Ok, Err, IfOk, OnOk}
use Rattle.std.specs.Ordering.{is_eq}
use Rattle.std.specs.declared.cmp.Ordering.{Ordering}
use Rattle.std.specs.declared.cmp.Ordering.TheVariants.{Less, Equal, Greater}

-- two tests that hold together are the same
pub same_bool : (a b : Bool) → (a ≡ true → b ≡ true) → (b ≡ true → a ≡ true) → a ≡ b
same_bool true true to from = refl
same_bool true false to from = sym (to refl)
same_bool false true to from = from refl
same_bool false false to from = refl

-- where `&&` holds, both sides do
pub and_both : (a b : Bool) → (a && b) ≡ true → (a ≡ true) × (b ≡ true)
and_both true b h = (refl, h)
and_both false b h = let z : ⊥ = cc in absurd z

-- `&&` with what fails fails
pub and_false : (b : Bool) → (b && false) ≡ false
and_false true = refl
and_false false = refl

-- `||` with what fails is the other side
pub or_false : (b : Bool) → (b || false) ≡ b
or_false true = refl
or_false false = refl

-- an ordering that tests as equal is equality
pub is_equal : (o : Ordering) → is_eq o ≡ true → o ≡ Equal
is_equal Less e = let z : ⊥ = cc in absurd z
is_equal Equal e = refl
is_equal Greater e = let z : ⊥ = cc in absurd z

-- what follows from a property of an answer that is no error holds of it too
pub ok_from : {T E : Type 0} (P Q : T → Type 0) (r : Result T E) → ((x : T) → P x → Q x) → IfOk r P → IfOk r Q
ok_from P Q (Ok x) to h = to x h
ok_from P Q (Err e) to h = h

-- what holds anyway holds where an answer is no error
pub holds_anyway : {T E : Type 0} (r : Result T E) (P : Type 0) → P → OnOk r P
holds_anyway (Ok x) P h = h
holds_anyway (Err e) P h = tt
