-- Edges of steps, one more at a time, and that they lead between nodes: for the graphs of steps.
use Rattle.std.proofs.Common.{◌≡◌, ◌∙◌, ◌+◌, ◌<◌, ◌≤◌, ℕ, List, [], ◌∷◌, ◌++◌, length}
use Rattle.std.proofs.Common.{Some, sym, ap, subst, inl, inr, ⊎_elim, arith}
use Rattle.std.specs.Prelude.{slice_get}
use Rattle.std.proofs.lemmas.List.{length_push}
use Rattle.std.proofs.lemmas.Option.{slice_get_within}
use Rattle.lalrpop_grammar_repr.specs.declared.grammar.Grammar.{Grammar}
use Rattle.lalrpop_lr1_theory.specs.Productions as theory
use Rattle.lalrpop_lr1_theory.proofs.ListLemmas.{before_or_end, get_front}
use Rattle.lalrpop_lr1_theory.proofs.StepLemmas.{some_same}
use Rattle.lalrpop_lr1_first.specs.FirstSetsOf.{IsProductionOf}
use Rattle.lalrpop_lr1_first.specs.NumberedGrammars.{IsNumberTableOf}
use Rattle.lalrpop_lr1_first.specs.declared.numbered.Numbered.{Numbered}
use Rattle.lalrpop_sets.proofs.AscendingListLemmas.{cases_eq}
use Rattle.lalrpop_lr1_paths.specs.GraphPaths.{EdgesAreBelow}
use Rattle.lalrpop_lr1_paths.specs.declared.graph_paths.graph.Edge.{Edge}
use Rattle.lalrpop_lr1_least_trees.specs.RestForests.{HasRest, NoLeaves}
use Rattle.lalrpop_lr1_paths.specs.CompletionSteps.{AreEmptyEdges, AreListedEdges, AreStepEdges, HasEdgeFor, IsListedEdge, IsStepEdge}
use Rattle.lalrpop_lr1_paths.specs.CompletionSteps.{LeadsAsStep, StepsAreBelow, step_rest}
use Rattle.lalrpop_lr1_paths.specs.EmptySteps.{ListsStep}
use Rattle.lalrpop_lr1_paths.specs.declared.completion_steps.steps_of_states.CompletionStep.{CompletionStep}
use Rattle.lalrpop_lr1_paths.specs.declared.completion_steps.completion_graphs.ListedSteps.{ListedSteps}
use Rattle.lalrpop_lr1_paths.proofs.ListLemmas.{at_end}

-- no edges of no steps
pub no_step_edges : AreStepEdges [] []
no_step_edges =
    record { sound = λ e edge f. let z : ⊥ = cc in absurd z; all = λ k step f. let z : ⊥ = cc in absurd z }

-- the edges of some steps, and that of one more
pub step_edges_more : (steps : List CompletionStep) (edges : List Edge) (step : CompletionStep) (edge : Edge) → length edges ≡ length steps →
    AreStepEdges steps edges → LeadsAsStep step edge → AreStepEdges (steps ++ step ∷ []) (edges ++ edge ∷ [])
step_edges_more steps edges step edge long are leads =
    record {
      sound = λ e other f.
          ⊎_elim (λ h. before e other (are.sound e other h)) (λ h. last e other h.0 h.1) (before_or_end edges edge e other f);
      all = λ k other f.
          ⊎_elim (λ h. kept k other (are.all k other h)) (λ h. new k other h.0 h.1) (before_or_end steps step k other f);
    }
  where
    before : (e : ℕ) (other : Edge) → IsStepEdge steps e other → IsStepEdge (steps ++ step ∷ []) e other
    before e other is = record { step = is.step; at_step = get_front steps (step ∷ []) e is.step is.at_step; leads = is.leads }

    last : (e : ℕ) (other : Edge) → e ≡ length edges → edge ≡ other → IsStepEdge (steps ++ step ∷ []) e other
    last e other at same =
        record {
          step = step;
          at_step = subst (λ k. slice_get (steps ++ step ∷ []) k ≡ Some step) (sym (at ∙ long)) (at_end steps step);
          leads = subst (LeadsAsStep step) same leads;
        }

    kept : (k : ℕ) (other : CompletionStep) → (there : Edge) × (slice_get edges k ≡ Some there) × LeadsAsStep other there →
        (there : Edge) × (slice_get (edges ++ edge ∷ []) k ≡ Some there) × LeadsAsStep other there
    kept k other r = (r.0, get_front edges (edge ∷ []) k r.0 r.1, r.2)

    new : (k : ℕ) (other : CompletionStep) → k ≡ length steps → step ≡ other →
        (there : Edge) × (slice_get (edges ++ edge ∷ []) k ≡ Some there) × LeadsAsStep other there
    new k other at same = (
      edge,
      subst (λ j. slice_get (edges ++ edge ∷ []) j ≡ Some edge) (long ∙ sym at) (at_end edges edge),
      subst (λ (s : CompletionStep). LeadsAsStep s edge) same leads,
    )

-- edges lead between nodes, as steps do
leads_below : (nodes : ℕ) (step : CompletionStep) (edge : Edge) → LeadsAsStep step edge → (step.from < nodes) × (step.to < nodes) →
    (edge.from < nodes) × (edge.to < nodes)
leads_below nodes step edge leads below = (omega (arith, leads.0, below.0), omega (arith, leads.1, below.1))

-- where steps lead between nodes below a count, so do their edges
pub step_edges_below : (nodes : ℕ) (steps : List CompletionStep) (edges : List Edge) → StepsAreBelow nodes steps →
    AreStepEdges steps edges → EdgesAreBelow nodes edges
step_edges_below nodes steps edges below are e edge f =
    let r = are.sound e edge f in leads_below nodes r.step edge r.leads (below e r.step r.at_step)

-- where steps lead between nodes below a count, so do the edges of those that are listed
pub listed_edges_below : (nodes : ℕ) (steps : List CompletionStep) (numbers : List ℕ) (edges : List Edge) → StepsAreBelow nodes steps →
    AreListedEdges steps numbers edges → EdgesAreBelow nodes edges
listed_edges_below nodes steps numbers edges below are e edge f =
    let r = (are e edge f).is in leads_below nodes r.step edge r.leads (below (are e edge f).number r.step r.at_step)

-- there are as many numbers as edges, and each edge is for the step whose number is listed at its place
pub record AreListedSteps (steps : List CompletionStep) (it : ListedSteps) : Type 0 where
  pub long : length it.numbers.items ≡ length it.edges.items
  pub each : AreListedEdges steps it.numbers.items it.edges.items

-- of the first steps, up to a number, those were listed behind whose nonterminals nothing may come
pub record AreFirstEmpty (G : theory.Production → Type 0) (steps : List CompletionStep) (n : ℕ) (it : ListedSteps) : Type 0 where
  pub sound : (e number : ℕ) (step : CompletionStep) → slice_get it.numbers.items e ≡ Some number →
      slice_get steps number ≡ Some step →
      HasRest G (step_rest step) NoLeaves
  pub all : (k : ℕ) (step : CompletionStep) → k < n → slice_get steps k ≡ Some step → HasRest G (step_rest step) NoLeaves →
      HasEdgeFor it.edges.items step

module _ (table : Numbered) (steps : List CompletionStep) (n : ℕ) (step : CompletionStep) (at : slice_get steps n ≡ Some step)
    (old new : ListedSteps) where
  -- one more step was listed or passed
  pub listed_more : ListsStep table step n old new → AreListedSteps steps old → AreListedSteps steps new
  listed_more (inr passed) are = subst (AreListedSteps steps) (sym passed.same) are
  listed_more (inl listed) are =
      record {
        long = ap length listed.numbers ∙ length_push old.numbers.items n
            ∙ ap (λ k. k + 1) are.long
            ∙ sym (length_push old.edges.items listed.edge) ∙ sym (ap length listed.edges);
        each = λ e edge f.
            ⊎_elim (λ h. before e edge (are.each e edge h)) (λ h. last e edge h.0 h.1)
            (before_or_end old.edges.items listed.edge e edge (subst (λ l. slice_get l e ≡ Some edge) listed.edges f));
      }
    where
      number_at : (e number : ℕ) → slice_get (old.numbers.items ++ n ∷ []) e ≡ Some number →
          slice_get new.numbers.items e ≡ Some number
      number_at e number f = subst (λ l. slice_get l e ≡ Some number) (sym listed.numbers) f

      before : (e : ℕ) (edge : Edge) → IsListedEdge steps old.numbers.items e edge → IsListedEdge steps new.numbers.items e edge
      before e edge is =
          record {
            number = is.number;
            listed = number_at e is.number (get_front old.numbers.items (n ∷ []) e is.number is.listed);
            is = is.is;
          }

      last : (e : ℕ) (edge : Edge) → e ≡ length old.edges.items → listed.edge ≡ edge →
          IsListedEdge steps new.numbers.items e edge
      last e edge place same =
          record {
            number = n;
            listed = number_at e n
                (subst (λ k. slice_get (old.numbers.items ++ n ∷ []) k ≡ Some n) (are.long ∙ sym place)
                (at_end old.numbers.items n));
            is = record { step = step; at_step = at; leads = subst (LeadsAsStep step) same listed.leads };
          }

  module _ (g : Grammar) (of : IsNumberTableOf g table) where
    -- the steps before the number have edges, as far as nothing may come there
    abbrev HaveEdges : List Edge → ℕ → Type 0
    HaveEdges edges m = (k : ℕ) (other : CompletionStep) → k < m → slice_get steps k ≡ Some other →
        HasRest (IsProductionOf g) (step_rest other) NoLeaves → HasEdgeFor edges other

    one_more : (edges : List Edge) → HaveEdges edges n →
        (HasRest (IsProductionOf g) (step_rest step) NoLeaves → HasEdgeFor edges step) → HaveEdges edges (n + 1)
    one_more edges all here k other below there rest = ⊎_elim same less (cases_eq k n)
      where
        same : k ≡ n → HasEdgeFor edges other
        same e =
            let one : step ≡ other = some_same step other (sym at ∙ ap (slice_get steps) (sym e) ∙ there) in
            subst (HasEdgeFor edges) one
            (here (subst (λ (s : CompletionStep). HasRest (IsProductionOf g) (step_rest s) NoLeaves) (sym one) rest))

        less : (k ≡ n → ⊥) → HasEdgeFor edges other
        less e = all k other (omega (arith, e, below)) there rest

    pub empty_more : ListsStep table step n old new → AreFirstEmpty (IsProductionOf g) steps n old →
        AreFirstEmpty (IsProductionOf g) steps (n + 1) new
    empty_more (inr passed) are =
        subst (AreFirstEmpty (IsProductionOf g) steps (n + 1)) (sym passed.same) (record {
          sound = are.sound;
          all = one_more old.edges.items are.all
              (λ rest. absurd (passed.never g of rest.trees rest.over rest.roots_are rest.wanted));
        })
    empty_more (inl listed) are =
        record {
          sound = λ e number other f there.
              ⊎_elim (λ h. are.sound e number other h there) (λ h. last number other h.1 there)
              (before_or_end old.numbers.items n e number (subst (λ l. slice_get l e ≡ Some number) listed.numbers f));
          all = one_more new.edges.items (λ k other below there rest. kept other (are.all k other below there rest))
              (λ rest. record {
                number = length old.edges.items;
                edge = listed.edge;
                at_edge = edge_at (length old.edges.items) listed.edge (at_end old.edges.items listed.edge);
                leads = listed.leads;
              });
        }
      where
        edge_at : (e : ℕ) (edge : Edge) → slice_get (old.edges.items ++ listed.edge ∷ []) e ≡ Some edge →
            slice_get new.edges.items e ≡ Some edge
        edge_at e edge f = subst (λ l. slice_get l e ≡ Some edge) (sym listed.edges) f

        kept : (other : CompletionStep) → HasEdgeFor old.edges.items other → HasEdgeFor new.edges.items other
        kept other has =
            record {
              number = has.number;
              edge = has.edge;
              at_edge = edge_at has.number has.edge (get_front old.edges.items (listed.edge ∷ []) has.number has.edge has.at_edge);
              leads = has.leads;
            }

        last : (number : ℕ) (other : CompletionStep) → n ≡ number → slice_get steps number ≡ Some other →
            HasRest (IsProductionOf g) (step_rest other) NoLeaves
        last number other e there =
            let one : step ≡ other = some_same step other (sym at ∙ ap (slice_get steps) e ∙ there) in
            subst (λ (s : CompletionStep). HasRest (IsProductionOf g) (step_rest s) NoLeaves) one (listed.empty g of)

-- all steps were gone through
pub all_empty : (G : theory.Production → Type 0) (steps : List CompletionStep) (n : ℕ) (it : ListedSteps) → length steps ≤ n →
    AreFirstEmpty G steps n it → AreEmptyEdges G steps it.numbers.items it.edges.items
all_empty G steps n it long are =
    record {
      sound = are.sound;
      all = λ k step there rest. are.all k step (omega (arith, slice_get_within steps k step there, long)) there rest;
    }
