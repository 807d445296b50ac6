-- Goals at the steps with whose trees a terminal comes, step by step: for the loop that makes them.
use Rattle.std.proofs.Common.{◌≡◌, ◌∙◌, ℕ, zero, suc, ◌+◌, ◌<◌, ◌≤◌, List, [], ◌∷◌, ◌++◌}
use Rattle.std.proofs.Common.{length, Some, refl, sym, ap, subst, inl, inr, ◌⊎◌, arith}
use Rattle.std.proofs.Common.{length-append}
use Rattle.std.specs.Prelude.{slice_get}
use Rattle.std.proofs.lemmas.Bool.{cases_lt}
use Rattle.std.proofs.lemmas.Option.{slice_get_within}
use Rattle.std.specs.Borrow.{Bor}
use Rattle.lalrpop_grammar_symbols.specs.Symbols.{Terminal}
use Rattle.lalrpop_grammar_symbols.specs.Views.{terminal_view}
use Rattle.lalrpop_grammar_symbols.specs.declared.terminal.TerminalString.{TerminalString}
use Rattle.lalrpop_grammar_repr.specs.declared.grammar.Grammar.{Grammar}
use Rattle.lalrpop_lr1_theory.proofs.StepLemmas.{some_same}
use Rattle.lalrpop_lr1_first.specs.FirstSetsOf.{IsProductionOf}
use Rattle.lalrpop_lr1_first.specs.NumberedGrammars.{IsNumberTableOf}
use Rattle.lalrpop_lr1_first.specs.declared.numbered.Numbered.{Numbered}
use Rattle.lalrpop_lr1_least_trees.specs.BeginForests.{IsWanted}
use Rattle.lalrpop_lr1_least_trees.specs.BeginTables.{AreBeginTrees}
use Rattle.lalrpop_lr1_least_trees.specs.declared.begin_trees.begin_trees.BeginTrees.{BeginTrees}
use Rattle.lalrpop_lr1_paths.specs.declared.graph_paths.graph.Goal.{Goal}
use Rattle.lalrpop_lr1_least_trees.specs.GrammarTrees.{symbols_by}
use Rattle.lalrpop_lr1_least_trees.specs.declared.least_trees.LeastTrees.{LeastTrees}
use Rattle.lalrpop_lr1_least_trees.specs.RestForests.{BeginsWith, HasRest}
use Rattle.lalrpop_lr1_paths.specs.CompletionSteps.{step_rest}
use Rattle.lalrpop_lr1_paths.specs.declared.completion_steps.steps_of_states.CompletionStep.{CompletionStep}
use Rattle.lalrpop_lr1_paths.specs.CompletionSearches.{AreWantedSteps, HasAnyPath, IsAnyCompletion, IsBeginGoal}
use Rattle.lalrpop_lr1_paths.specs.WantedGoals.{AddsBegin, AreBeginGoals, AreGoalsOf}
use Rattle.lalrpop_lr1_paths.specs.declared.completions.any_completion.AnyCompletion.{AnyCompletion}
use Rattle.lalrpop_lr1_paths.specs.declared.completions.wanted_steps.BeginGoals.{BeginGoals}
use Rattle.lalrpop_lr1_theory.proofs.ListLemmas.{get_last}

-- an element of a longer list: of the first part, or the last
pub get_more : {X : Type 0} (xs : List X) (y : X) (k : ℕ) (x : X) → slice_get (xs ++ y ∷ []) k ≡ Some x →
    (slice_get xs k ≡ Some x) ⊎ ((k ≡ length xs) × (y ≡ x))
get_more [] y zero x e = inr (refl, some_same y x e)
get_more [] y (suc k) x e = let z : ⊥ = cc in absurd z
get_more (a ∷ xs) y zero x e = inl e
get_more (a ∷ xs) y (suc k) x e = go (get_more xs y k x e)
  where
    go : (slice_get xs k ≡ Some x) ⊎ ((k ≡ length xs) × (y ≡ x)) →
        (slice_get (a ∷ xs) (suc k) ≡ Some x) ⊎ ((suc k ≡ length (a ∷ xs)) × (y ≡ x))
    go (inl h) = inl h
    go (inr h) = inr (ap suc h.0, h.1)

pub get_kept : {X : Type 0} (xs ys : List X) (k : ℕ) (x : X) → slice_get xs k ≡ Some x → slice_get (xs ++ ys) k ≡ Some x
get_kept [] ys k x e = let z : ⊥ = cc in absurd z
get_kept (a ∷ xs) ys zero x e = e
get_kept (a ∷ xs) ys (suc k) x e = get_kept xs ys k x e

module _ (any : AnyCompletion) (table : Numbered) (t : Terminal) (all : List CompletionStep) where
  pub no_goals : AreGoalsOf any table t all [] [] 0
  no_goals =
      record {
        long = refl;
        sound = λ k goal e. let z : ⊥ = cc in absurd z;
        begins = λ g of k number step e at. let z : ⊥ = cc in absurd z;
        every = λ g of number step less at begins there. absurd (omega (arith, less));
      }

  abbrev Every : Grammar → List Goal → ℕ → CompletionStep → Type 0
  Every g goals number step =
      HasRest (IsProductionOf g) (step_rest step) (BeginsWith t) → HasAnyPath any step.to →
      (k : ℕ) × (goal : Goal) × (slice_get goals k ≡ Some goal) × (goal.node ≡ step.from)

  -- one step was looked at
  pub goal_reversed : (i : ℕ) (step : CompletionStep) → slice_get all i ≡ Some step → (old new : BeginGoals) →
      AreGoalsOf any table t all old.numbers.items old.goals.items i → AddsBegin any table t step i old new →
      AreGoalsOf any table t all new.numbers.items new.goals.items (i + 1)
  goal_reversed i step at old new are (inr passed) =
      subst (λ (f : BeginGoals). AreGoalsOf any table t all f.numbers.items f.goals.items (i + 1)) (sym passed.same)
      (record {
        long = are.long;
        sound = are.sound;
        begins = are.begins;
        every = λ g of number other less there begins onward.
            go g of number other less there begins onward (cases_lt number i);
      })
    where
      go : (g : Grammar) → IsNumberTableOf g table → (number : ℕ) (other : CompletionStep) → number < i + 1 →
          slice_get all number ≡ Some other →
          HasRest (IsProductionOf g) (step_rest other) (BeginsWith t) → HasAnyPath any other.to → (number < i) ⊎ (i ≤ number) →
          (k : ℕ) × (goal : Goal) × (slice_get old.goals.items k ≡ Some goal) × (goal.node ≡ other.from)
      go g of number other less there begins onward (inl h) = are.every g of number other h there begins onward
      go g of number other less there begins onward (inr h) =
          let same : number ≡ i = omega (arith, less, h) in
          let one : other ≡ step = some_same other step (sym there ∙ ap (slice_get all) same ∙ at) in
          absurd (passed.never g of (subst (λ (s : CompletionStep). HasAnyPath any s.to) one onward) begins.trees begins.over
          (begins.roots_are ∙ ap step_rest one) begins.wanted)
  goal_reversed i step at old new are (inl added) =
      record {
        long = ap length added.numbers ∙ length-append old.numbers.items (i ∷ []) ∙ ap (λ n. n + 1) are.long
            ∙ sym (length-append old.goals.items (added.goal ∷ [])) ∙ sym (ap length added.goals);
        sound = λ k goal e. told k goal
            (get_more old.goals.items added.goal k goal (subst (λ l. slice_get l k ≡ Some goal) added.goals e));
        begins = λ g of k number other e there. begun g of k number other there
            (get_more old.numbers.items i k number (subst (λ l. slice_get l k ≡ Some number) added.numbers e));
        every = λ g of number other less there begins onward.
            go g of number other less there begins onward (cases_lt number i);
      }
    where
      last : slice_get new.numbers.items (length old.goals.items) ≡ Some i
      last = subst (λ n. slice_get new.numbers.items n ≡ Some i) are.long
          (subst (λ l. slice_get l (length old.numbers.items) ≡ Some i) (sym added.numbers) (get_last old.numbers.items i))

      told : (k : ℕ) (goal : Goal) → (slice_get old.goals.items k ≡ Some goal)
          ⊎ ((k ≡ length old.goals.items) × (added.goal ≡ goal)) →
          IsBeginGoal any all new.numbers.items k goal
      told k goal (inl h) =
          let s = are.sound k goal h in
          record {
            number = s.number;
            step = s.step;
            listed = subst (λ l. slice_get l k ≡ Some s.number) (sym added.numbers)
                (get_kept old.numbers.items (i ∷ []) k s.number s.listed);
            at_step = s.at_step;
            node = s.node;
            onward = s.onward;
          }
      told k goal (inr h) =
          record {
            number = i;
            step = step;
            listed = subst (λ n. slice_get new.numbers.items n ≡ Some i) (sym h.0) last;
            at_step = at;
            node = ap (λ (x : Goal). x.node) (sym h.1) ∙ added.node;
            onward = added.onward;
          }

      begun : (g : Grammar) → IsNumberTableOf g table → (k number : ℕ) (other : CompletionStep) → slice_get all number ≡ Some other →
          (slice_get old.numbers.items k ≡ Some number) ⊎ ((k ≡ length old.numbers.items) × (i ≡ number)) →
          HasRest (IsProductionOf g) (step_rest other) (BeginsWith t)
      begun g of k number other there (inl h) = are.begins g of k number other h there
      begun g of k number other there (inr h) =
          let one : step ≡ other = some_same step other (sym at ∙ ap (slice_get all) h.1 ∙ there) in
          subst (λ s. HasRest (IsProductionOf g) (step_rest s) (BeginsWith t)) one (added.begins g of)

      go : (g : Grammar) → IsNumberTableOf g table → (number : ℕ) (other : CompletionStep) → number < i + 1 →
          slice_get all number ≡ Some other →
          HasRest (IsProductionOf g) (step_rest other) (BeginsWith t) → HasAnyPath any other.to → (number < i) ⊎ (i ≤ number) →
          (k : ℕ) × (goal : Goal) × (slice_get new.goals.items k ≡ Some goal) × (goal.node ≡ other.from)
      go g of number other less there begins onward (inl h) =
          let r = are.every g of number other h there begins onward in (
            r.0,
            r.1,
            subst (λ l. slice_get l r.0 ≡ Some r.1) (sym added.goals) (get_kept old.goals.items (added.goal ∷ []) r.0 r.1 r.2),
            r.3,
          )
      go g of number other less there begins onward (inr h) =
          let same : number ≡ i = omega (arith, less, h) in
          let one : step ≡ other = some_same step other (sym at ∙ ap (slice_get all) (sym same) ∙ there) in (
            length old.goals.items,
            added.goal,
            subst (λ l. slice_get l (length old.goals.items) ≡ Some added.goal) (sym added.goals) (get_last old.goals.items added.goal),
            added.node ∙ ap (λ (s : CompletionStep). s.from) one,
          )

-- what is made of them
pub steps_made : (any : Bor AnyCompletion) (terminal : TerminalString) (begins : BeginTrees) (found : BeginGoals) (trees : LeastTrees) →
    IsAnyCompletion any.now → AreBeginTrees begins → begins.trees.now ≡ trees → trees ≡ any.now.ways.now.paths.now.trees.now →
    IsWanted (symbols_by trees.table) (terminal_view terminal) begins.wanted →
    AreBeginGoals any.now begins.trees.now.table (terminal_view terminal) found →
    AreWantedSteps (record { any = any; terminal = terminal; begins = begins; numbers = found.numbers; goals = found.goals })
steps_made any terminal begins found trees is are begun theirs wanted goals =
    let table : begins.trees.now.table ≡ any.now.ways.now.paths.now.trees.now.table =
    ap (λ (t : LeastTrees). t.table) (begun ∙ theirs) in
    let all = subst (λ (t : Numbered). AreGoalsOf any.now t (terminal_view terminal) any.now.ways.now.steps.items found.numbers.items
    found.goals.items (length any.now.ways.now.steps.items)) table goals in
    record {
      any = is;
      begins = are;
      trees = begun ∙ theirs;
      wanted = subst (λ (t : LeastTrees). IsWanted (symbols_by t.table) (terminal_view terminal) begins.wanted) theirs wanted;
      goals = all.sound;
      begin = all.begins;
      all = λ g of number step at rest onward.
          all.every g of number step (slice_get_within any.now.ways.now.steps.items number step at) at rest onward;
    }
