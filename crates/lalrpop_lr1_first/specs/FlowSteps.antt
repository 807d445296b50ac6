-- How far marks have flowed: for the sweeps over edges.
use Rattle.std.specs.Prelude.{ℕ, ◌+◌, ◌<◌, Bool, true, false, ◌||◌, ◌&&◌, List, length, nat_eq, ◌≡◌, Some, slice_get}
use Rattle.lalrpop_sets.specs.AscendingLists.{has}
use Rattle.lalrpop_lr1_first.specs.Numbers.{set_of_number}
use Rattle.lalrpop_lr1_first.specs.FirstSteps.{missing_in}
use Rattle.lalrpop_lr1_first.specs.Flows.{AreBelow, FlowEdge, Flows, comes}
use Rattle.lalrpop_lr1_first.specs.Walks.{place_in_walk}

-- what an edge adds to a table of marks
abbrev pub adds : Bool → ℕ → FlowEdge → List (List ℕ) → ℕ → Bool
adds firsts end e sets k =
    has (set_of_number sets e.from) (end + 2) && (nat_eq (end + 2) k || comes firsts end e.first (set_of_number sets e.from) k)

-- what the edges at the first steps of a walk add is there
abbrev pub HasFlowedAlong : Bool → ℕ → List FlowEdge → Bool → ℕ → List (List ℕ) → Type 0
HasFlowedAlong firsts end edges forward count sets =
    (step : ℕ) (e : FlowEdge) (k : ℕ) → step < count → slice_get edges (place_in_walk forward (length edges) step) ≡ Some e →
    adds firsts end e sets k ≡ true → has (set_of_number sets e.to) k ≡ true

-- a sweep over the edges at the first steps of a walk
pub record FlowsTo (firsts : Bool) (end : ℕ) (edges : List FlowEdge) (forward : Bool) (count : ℕ) (old new : List (List ℕ))
    (changed : Bool) : Type 0 where
  pub below : AreBelow (end + 3) new
  pub kept : (s k : ℕ) → has (set_of_number old s) k ≡ true → has (set_of_number new s) k ≡ true
  pub sound : (seed : List (List ℕ)) → ((s k : ℕ) → has (set_of_number old s) k ≡ true → Flows firsts end edges seed s k) →
      (s k : ℕ) → has (set_of_number new s) k ≡ true → Flows firsts end edges seed s k
  pub same : changed ≡ false → new ≡ old
  pub closed : changed ≡ false → HasFlowedAlong firsts end edges forward count new
  pub less : changed ≡ true → missing_in (end + 3) new < missing_in (end + 3) old

-- what the sweeps one after another keep
pub record IsFlowing (firsts : Bool) (end : ℕ) (edges : List FlowEdge) (seed sets : List (List ℕ)) (changed : Bool) : Type 0 where
  pub below : AreBelow (end + 3) sets
  pub kept : (s k : ℕ) → has (set_of_number seed s) k ≡ true → has (set_of_number sets s) k ≡ true
  pub sound : (s k : ℕ) → has (set_of_number sets s) k ≡ true → Flows firsts end edges seed s k
  pub closed : changed ≡ false → (r : ℕ) (e : FlowEdge) (k : ℕ) → slice_get edges r ≡ Some e →
      adds firsts end e sets k ≡ true →
      has (set_of_number sets e.to) k ≡ true
