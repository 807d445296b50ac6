-- Which steps are made of the items of states: for the code that makes them.
use Rattle.std.specs.Prelude.{ℕ, ◌<◌, ◌≤◌, List, map, ◌≡◌, ◌⊎◌, Some, Contains, slice_get}
use Rattle.lalrpop_grammar_symbols.specs.declared.names.NonterminalString.{NonterminalString}
use Rattle.lalrpop_grammar_repr.specs.declared.production.Symbol.TheVariants as symbols
use Rattle.lalrpop_lr1_theory.specs.Productions as theory
use Rattle.lalrpop_lr1_core.specs.Dots.{at_dot, behind_cursor}
use Rattle.lalrpop_lr1_core.specs.Views.{production_symbol_view}
use Rattle.lalrpop_lr1_core.specs.declared.item.Item.{Item}
use Rattle.lalrpop_lr1_core.specs.declared.state.State.{State}
use Rattle.lalrpop_lr1_first.specs.FirstNumbers.{name_count}
use Rattle.lalrpop_lr1_least_trees.specs.GrammarTrees.{symbols_by}
use Rattle.lalrpop_lr1_theory.specs.PathTrees.{IsBack, LedBy}
use Rattle.lalrpop_lr1_least_trees.specs.RestForests.{AnyLeaves, HasRest}
use Rattle.lalrpop_lr1_paths.specs.PathTables.{last_steps}
use Rattle.lalrpop_lr1_paths.specs.declared.state_paths.state_paths.StatePaths.{StatePaths}
use Rattle.lalrpop_lr1_paths.specs.CompletionSteps.{IsCompletionNode, step_rest}
use Rattle.lalrpop_lr1_paths.specs.declared.completion_steps.steps_of_states.CompletionStep.{CompletionStep}

-- the node is that of the nonterminal in the state, by the grammar's table
abbrev pub IsNodeBy : StatePaths → ℕ → ℕ → NonterminalString → Type 0
IsNodeBy it node n name = IsCompletionNode (symbols_by it.trees.now.table) (name_count it.trees.now.table) node n name.0

-- the nonterminal has a number
abbrev pub HasNameNumber : StatePaths → NonterminalString → Type 0
HasNameNumber it name =
    (number : ℕ) × (number < name_count it.trees.now.table)
    × (symbols_by it.trees.now.table number ≡ Some (theory.nonterminal name.0))

-- the nonterminal has a node in state 0, among so many
abbrev pub HasNodeBelow : StatePaths → ℕ → NonterminalString → Type 0
HasNodeBelow it nodes name = HasNameNumber it name × (name_count it.trees.now.table ≤ nodes)

-- so many places back on the state's path stands the other
abbrev pub IsBackBy : StatePaths → ℕ → ℕ → ℕ → Type 0
IsBackBy it = IsBack (LedBy (last_steps it))

module _ (G : theory.Production → Type 0) (it : StatePaths) (count : ℕ) where
  -- The step is over one of these items, in the state with this number of so many.
  pub record IsToldStep {L : Type 0} (n : ℕ) (items : List (Item L)) (step : CompletionStep) : Type 0 where
    pub item : Item L
    pub has : Contains items item
    pub name : NonterminalString
    pub at : at_dot item ≡ Some (symbols.Nonterminal name)
    pub production_is : step.production ≡ item.production
    pub rest_is : step.rest.now ≡ behind_cursor item
    pub from : IsNodeBy it step.from n name
    pub before : ℕ
    pub before_is : (m : ℕ) → IsBackBy it item.index n m → before ≡ m
    pub below : before < count
    pub to : IsNodeBy it step.to before item.production.now.nonterminal
    pub rest : HasRest G (step_rest step) AnyLeaves

  -- some step is over the item
  pub record HasToldStep {L : Type 0} (steps : List CompletionStep) (n : ℕ) (item : Item L) (name : NonterminalString) (m : ℕ) : Type 0 where
    pub number : ℕ
    pub step : CompletionStep
    pub at_step : slice_get steps number ≡ Some step
    pub production_is : step.production ≡ item.production
    pub rest_is : step.rest.now ≡ behind_cursor item
    pub from : IsNodeBy it step.from n name
    pub to : IsNodeBy it step.to m item.production.now.nonterminal

  -- a step is made of the item: its dot stands before a nonterminal, behind which trees may come, and a state stands before it on the path
  pub record IsCompletionItem {L : Type 0} (n : ℕ) (item : Item L) (name : NonterminalString) (m : ℕ) : Type 0 where
    pub at : at_dot item ≡ Some (symbols.Nonterminal name)
    pub back : IsBackBy it item.index n m
    pub below : m < count
    pub numbered : HasNameNumber it name
    pub left_numbered : HasNameNumber it item.production.now.nonterminal
    pub rest : HasRest G (map production_symbol_view (behind_cursor item)) AnyLeaves

  -- the steps over these items were added, and no others
  pub record AddsCompletionSteps {L : Type 0} (n : ℕ) (items : List (Item L)) (old new : List CompletionStep) : Type 0 where
    pub kept : (k : ℕ) (step : CompletionStep) → slice_get old k ≡ Some step → slice_get new k ≡ Some step
    pub sound : (k : ℕ) (step : CompletionStep) → slice_get new k ≡ Some step → (slice_get old k ≡ Some step) ⊎ IsToldStep n items step
    pub all : (item : Item L) (name : NonterminalString) (m : ℕ) → Contains items item → IsCompletionItem n item name m →
        HasToldStep new n item name m

  -- the step is over an item of one of the states
  pub record IsStepOfStates {L : Type 0} (states : List (State L)) (step : CompletionStep) : Type 0 where
    pub number : ℕ
    pub state : State L
    pub at : slice_get states number ≡ Some state
    pub is : IsToldStep number state.items.vec step

  -- the steps are those over the items of the states
  pub record AreStepsOfStates {L : Type 0} (states : List (State L)) (steps : List CompletionStep) : Type 0 where
    pub sound : (k : ℕ) (step : CompletionStep) → slice_get steps k ≡ Some step → IsStepOfStates states step
    pub all : (n : ℕ) (state : State L) (item : Item L) (name : NonterminalString) (m : ℕ) → slice_get states n ≡ Some state →
        Contains state.items.vec item → IsCompletionItem n item name m → HasToldStep steps n item name m
