-- How far the first sets of symbols by numbers are made: for the sweeps over a grammar's rules.
use Rattle.std.specs.Prelude.{ℕ, zero, suc, ◌+◌, ◌<◌, ◌≤◌, ◌||◌, Bool, true, false, cond, List, [], ◌∷◌, length}
use Rattle.std.specs.Prelude.{nat_eq, ◌≡◌, Option, Some, slice_get}
use Rattle.lalrpop_grammar_symbols.specs.Symbols.{Text}
use Rattle.lalrpop_lr1_theory.specs.Productions.{Symbol, nonterminal, Production, Next}
use Rattle.lalrpop_lr1_theory.specs.FirstSets.{HoldsFirstSets}
use Rattle.lalrpop_sets.specs.AscendingLists.{has}
use Rattle.lalrpop_lr1_first.specs.Numbers.{RuleByNumbers, says, says_by, set_of_number}
use Rattle.lalrpop_lr1_first.specs.Walks.{place_in_walk}

-- a number of the nonterminal has a number of the next in its set
pub record HasNext (symbol_at : ℕ → Option Symbol) (next_at : ℕ → Next) (end : ℕ) (sets : List (List ℕ)) (A : Text)
    (x : Next) :
    Type 0 where
  pub symbol : ℕ
  pub number : ℕ
  pub symbol_is : symbol_at symbol ≡ Some (nonterminal A)
  pub next_is : next_at number ≡ x
  pub small : number ≤ end
  pub held : has (set_of_number sets symbol) number ≡ true

-- no number is past the end's
abbrev pub AreWithin : ℕ → List (List ℕ) → Type 0
AreWithin end sets = (s k : ℕ) → has (set_of_number sets s) k ≡ true → k ≤ end

-- each terminal's set is its number alone
abbrev pub HaveTerminals : ℕ → ℕ → List (List ℕ) → Type 0
HaveTerminals end names sets = (j k : ℕ) → j < end → has (set_of_number sets (names + j)) k ≡ nat_eq j k

-- each entry is a first set's
abbrev pub AreSound : (Production → Type 0) → (ℕ → Option Symbol) → (ℕ → Next) → ℕ → List (List ℕ) → Type 0
AreSound G symbol_at next_at end sets = HoldsFirstSets G (HasNext symbol_at next_at end sets)

-- the left sides of the rules at the first steps of a walk have what the right sides begin with
abbrev pub AreClosedTo : ℕ → List RuleByNumbers → Bool → ℕ → List (List ℕ) → Type 0
AreClosedTo end rules forward count sets =
    (step : ℕ) (rule : RuleByNumbers) (k : ℕ) → step < count → slice_get rules (place_in_walk forward (length rules) step) ≡ Some rule →
    says sets end rule.right k ≡ true →
    has (set_of_number sets rule.left) k ≡ true

-- the left sides of all rules have what their right sides begin with
abbrev pub AreClosed : ℕ → List RuleByNumbers → List (List ℕ) → Type 0
AreClosed end rules sets =
    (r : ℕ) (rule : RuleByNumbers) (k : ℕ) → slice_get rules r ≡ Some rule → says sets end rule.right k ≡ true →
    has (set_of_number sets rule.left) k ≡ true

-- how many of the numbers below n the list lacks
abbrev pub missing : ℕ → List ℕ → ℕ
missing zero xs = 0
missing (suc n) xs = cond (has xs n) 0 1 + missing n xs

abbrev pub missing_in : ℕ → List (List ℕ) → ℕ
missing_in n [] = 0
missing_in n (xs ∷ sets) = missing n xs + missing_in n sets

-- a sweep over the rules at the first steps of a walk
pub record SweepsTo (G : Production → Type 0) (symbol_at : ℕ → Option Symbol) (next_at : ℕ → Next) (end names : ℕ)
    (rules : List RuleByNumbers) (forward : Bool) (count : ℕ) (old new : List (List ℕ)) (changed : Bool) : Type 0 where
  pub len : length new ≡ length old
  pub within : AreWithin end new
  pub terminals : HaveTerminals end names new
  pub sound : AreSound G symbol_at next_at end old → AreSound G symbol_at next_at end new
  pub same : changed ≡ false → new ≡ old
  pub closed : changed ≡ false → AreClosedTo end rules forward count new
  pub less : changed ≡ true → missing_in (end + 1) new < missing_in (end + 1) old

-- what was gathered of the symbols, where these are left: no end, and with what the others say all that is said
pub record IsGathered {X : Type 0} (set_of : X → List ℕ) (end : ℕ) (symbols left : List X) (gathered : List ℕ) : Type 0 where
  pub rest : (k : ℕ) → (has gathered k || says_by set_of end left k) ≡ says_by set_of end symbols k
  pub no_end : has gathered end ≡ false
