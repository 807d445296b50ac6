-- Steps over items and states, one more at a time: for the code that makes steps.
use Rattle.std.proofs.Common.{◌≡◌, ◌∙◌, ◌<◌, ◌≤◌, ℕ, List, [], ◌∷◌, ◌++◌, length, Option, Some, None}
use Rattle.std.proofs.Common.{refl, sym, ap, subst, inl, inr, ⊎_elim, arith, Contains}
use Rattle.std.specs.Prelude.{option_map, slice_get}
use Rattle.std.proofs.lemmas.List.Elements.{Contains-append_cases, Contains-append_left, Contains-append_right}
use Rattle.lalrpop_grammar_symbols.specs.declared.names.NonterminalString.{NonterminalString}
use Rattle.lalrpop_grammar_repr.specs.declared.production.Symbol.{Symbol}
use Rattle.lalrpop_grammar_repr.specs.declared.production.Symbol.TheVariants as symbols
use Rattle.lalrpop_lr1_theory.specs.Productions as theory
use Rattle.lalrpop_lr1_theory.proofs.ListLemmas.{before_or_end, get_front}
use Rattle.lalrpop_lr1_theory.proofs.StepLemmas.{some_same}
use Rattle.lalrpop_lr1_core.specs.Dots.{at_dot, behind_cursor, symbol_and_rest}
use Rattle.lalrpop_lr1_core.specs.declared.item.Item.{Item}
use Rattle.lalrpop_lr1_core.specs.declared.state.State.{State}
use Rattle.lalrpop_lr1_first.specs.FirstNumbers.{name_count}
use Rattle.lalrpop_lr1_least_trees.specs.GrammarTrees.{symbols_by}
use Rattle.lalrpop_lr1_paths.specs.declared.state_paths.state_paths.StatePaths.{StatePaths}
use Rattle.lalrpop_lr1_paths.specs.CompletionSteps.{IsNodeIfSome, StepsAreBelow}
use Rattle.lalrpop_lr1_paths.specs.ToldSteps.{AddsCompletionSteps, AreStepsOfStates, HasNameNumber, HasToldStep, IsBackBy, IsNodeBy}
use Rattle.lalrpop_lr1_paths.specs.ToldSteps.{IsCompletionItem, IsStepOfStates, IsToldStep}
use Rattle.lalrpop_lr1_paths.specs.declared.completion_steps.steps_of_states.CompletionStep.{CompletionStep}
use Rattle.lalrpop_lr1_paths.proofs.ListLemmas.{alone, at_end}

-- the symbol behind a dot with those behind it
pub dot_parts : {L : Type 0} (item : Item L) (parts : Symbol × List Symbol) → Some parts ≡ symbol_and_rest item →
    (at_dot item ≡ Some parts.0) × (behind_cursor item ≡ parts.1)
dot_parts item parts e = go (at_dot item) refl e
  where
    go : (o : Option Symbol) → at_dot item ≡ o → Some parts ≡ option_map (λ x. (x, behind_cursor item)) o →
        (at_dot item ≡ Some parts.0) × (behind_cursor item ≡ parts.1)
    go None at f = let z : ⊥ = cc in absurd z
    go (Some x) at f =
        let other : Symbol × List Symbol = (x, behind_cursor item) in
        let same = some_same parts other f in
        (at ∙ ap (λ (q : Symbol × List Symbol). Some q.0) (sym same), ap (λ (q : Symbol × List Symbol). q.1) (sym same))

-- one more step between nodes below the count
pub below_more : (nodes : ℕ) (old new : List CompletionStep) (step : CompletionStep) → new ≡ old ++ step ∷ [] → step.from < nodes →
    step.to < nodes → StepsAreBelow nodes old → StepsAreBelow nodes new
below_more nodes old new step e from to below k other f =
    ⊎_elim (λ h. below k other h)
    (λ h. (omega (arith, from, ap (λ (s : CompletionStep). s.from) h.1), omega (arith, to, ap (λ (s : CompletionStep). s.to) h.1)))
    (before_or_end old step k other (subst (λ l. slice_get l k ≡ Some other) e f))

module _ (G : theory.Production → Type 0) (it : StatePaths) (count : ℕ) {L : Type 0} where
  abbrev Adds : ℕ → List (Item L) → List CompletionStep → List CompletionStep → Type 0
  Adds = AddsCompletionSteps G it count

  -- of items over which no step leads none is added
  pub adds_none : (n : ℕ) (items : List (Item L)) (steps : List CompletionStep) →
      ((item : Item L) (name : NonterminalString) (m : ℕ) → Contains items item → IsCompletionItem G it count n item name m → ⊥) →
      Adds n items steps steps
  adds_none n items steps none =
      record { kept = λ k step e. e; sound = λ k step e. inl e; all = λ item name m c out. absurd (none item name m c out) }

  -- the step over an item
  pub adds_one : (n : ℕ) (item : Item L) (old new : List CompletionStep) (step : CompletionStep) → new ≡ old ++ step ∷ [] →
      IsToldStep G it count n (item ∷ []) step → Adds n (item ∷ []) old new
  adds_one n item old new step e told =
      record {
        kept = λ k other f. subst (λ l. slice_get l k ≡ Some other) (sym e) (get_front old (step ∷ []) k other f);
        sound = λ k other f.
            ⊎_elim (λ h. inl h) (λ h. inr (subst (IsToldStep G it count n (item ∷ [])) h.1 told))
            (before_or_end old step k other (subst (λ l. slice_get l k ≡ Some other) e f));
        all = λ other name m c out. has other name m (sym (alone item told.item told.has) ∙ alone item other c) out;
      }
    where
      has : (other : Item L) (name : NonterminalString) (m : ℕ) → told.item ≡ other → IsCompletionItem G it count n other name m →
          HasToldStep G it count new n other name m
      has other name m same out =
          let dots : Some (symbols.Nonterminal told.name) ≡ Some (symbols.Nonterminal name) =
          sym told.at ∙ ap (λ (i : Item L). at_dot i) same ∙ out.at in
          let names : told.name ≡ name = cc in
          let before = told.before_is m (subst (λ (i : Item L). IsBackBy it i.index n m) (sym same) out.back) in
          record {
            number = length old;
            step = step;
            at_step = subst (λ l. slice_get l (length old) ≡ Some step) (sym e) (at_end old step);
            production_is = told.production_is ∙ ap (λ (i : Item L). i.production) same;
            rest_is = told.rest_is ∙ ap (λ (i : Item L). behind_cursor i) same;
            from = subst (IsNodeBy it step.from n) names told.from;
            to = subst (λ (i : Item L). IsNodeBy it step.to m i.production.now.nonterminal) same
                (subst (λ k. IsNodeBy it step.to k told.item.production.now.nonterminal) before told.to);
          }

  -- over an item before which so far back no state stands none leads
  pub adds_past : (n : ℕ) (item : Item L) (steps : List CompletionStep) (before : ℕ) →
      ((m : ℕ) → IsBackBy it item.index n m → before ≡ m) →
      count ≤ before → Adds n (item ∷ []) steps steps
  adds_past n item steps before before_is past =
      adds_none n (item ∷ []) steps (λ other name m there out.
      let back = subst (λ (i : Item L). IsBackBy it i.index n m) (sym (alone item other there)) out.back in
      omega (arith, before_is m back, out.below, past))

  -- nor over one whose production's nonterminal has no number
  pub adds_unnumbered : (n : ℕ) (item : Item L) (steps : List CompletionStep) →
      IsNodeIfSome (symbols_by it.trees.now.table) (name_count it.trees.now.table) n item.production.now.nonterminal.0 None →
      Adds n (item ∷ []) steps steps
  adds_unnumbered n item steps none =
      adds_none n (item ∷ []) steps (λ other name m there out.
      let number = subst (λ (i : Item L). HasNameNumber it i.production.now.nonterminal)
      (sym (alone item other there)) out.left_numbered in
      none number.0 number.1 number.2)

  -- the same step, over one of more items
  told_among : (n : ℕ) (items more : List (Item L)) → ((item : Item L) → Contains items item → Contains more item) →
      (step : CompletionStep) → IsToldStep G it count n items step → IsToldStep G it count n more step
  told_among n items more among step told =
      record {
        item = told.item;
        has = among told.item told.has;
        name = told.name;
        at = told.at;
        production_is = told.production_is;
        rest_is = told.rest_is;
        from = told.from;
        before = told.before;
        before_is = told.before_is;
        below = told.below;
        to = told.to;
        rest = told.rest;
      }

  -- a step stays where others are added
  still_there : (old new : List CompletionStep) → ((k : ℕ) (step : CompletionStep) → slice_get old k ≡ Some step →
      slice_get new k ≡ Some step) →
      (n : ℕ) (item : Item L) (name : NonterminalString) (m : ℕ) → HasToldStep G it count old n item name m →
      HasToldStep G it count new n item name m
  still_there old new kept n item name m has =
      record {
        number = has.number;
        step = has.step;
        at_step = kept has.number has.step has.at_step;
        production_is = has.production_is;
        rest_is = has.rest_is;
        from = has.from;
        to = has.to;
      }

  -- the steps over some items, then those over others
  pub adds_more : (n : ℕ) (items more : List (Item L)) (old mid new : List CompletionStep) → Adds n items old mid → Adds n more mid new →
      Adds n (items ++ more) old new
  adds_more n items more old mid new first then =
      record {
        kept = λ k step e. then.kept k step (first.kept k step e);
        sound = λ k step e.
            ⊎_elim (λ f. ⊎_elim (λ h. inl h)
            (λ told. inr (told_among n items (items ++ more) (Contains-append_left items more) step told)) (first.sound k step f))
            (λ told. inr (told_among n more (items ++ more) (Contains-append_right items more) step told)) (then.sound k step e);
        all = λ item name m c out.
            ⊎_elim (λ d. still_there mid new then.kept n item name m (first.all item name m d out))
            (λ d. then.all item name m d out) (Contains-append_cases items more item c);
      }

  -- the steps over the items of some states, then those over one more
  abbrev Are : List (State L) → List CompletionStep → Type 0
  Are = AreStepsOfStates G it count

  pub steps_of_more : (states : List (State L)) (state : State L) (old new : List CompletionStep) → Are states old →
      Adds (length states) state.items.vec old new → Are (states ++ state ∷ []) new
  steps_of_more states state old new are adds =
      record {
        sound = λ k step e.
            ⊎_elim (λ f. before k step (are.sound k step f))
            (λ told. record { number = length states; state = state; at = at_end states state; is = told }) (adds.sound k step e);
        all = λ n other item name m e c out.
            ⊎_elim (λ f. still_there old new adds.kept n item name m (are.all n other item name m f c out))
            (λ h. last n other item name m h.0 h.1 c out) (before_or_end states state n other e);
      }
    where
      before : (k : ℕ) (step : CompletionStep) → IsStepOfStates G it count states step →
          IsStepOfStates G it count (states ++ state ∷ []) step
      before k step is =
          record { number = is.number; state = is.state; at = get_front states (state ∷ []) is.number is.state is.at; is = is.is }

      last : (n : ℕ) (other : State L) (item : Item L) (name : NonterminalString) (m : ℕ) →
          n ≡ length states → state ≡ other →
          Contains other.items.vec item → IsCompletionItem G it count n item name m → HasToldStep G it count new n item name m
      last n other item name m at same c out =
          let there : Contains state.items.vec item = subst (λ (s : State L). Contains s.items.vec item) (sym same) c in
          subst (λ k. HasToldStep G it count new k item name m) (sym at)
          (adds.all item name m there (subst (λ k. IsCompletionItem G it count k item name m) at out))
