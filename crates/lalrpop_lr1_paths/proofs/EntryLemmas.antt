-- Entries of goals and of edges, one after the other: for the functions that push them.
use Rattle.std.proofs.Common.{◌≡◌, ◌∙◌, ℕ, ◌+◌, ◌<◌, ◌≤◌, List, [], ◌∷◌, ◌++◌, length}
use Rattle.std.proofs.Common.{Contains, IsPermutation}
use Rattle.std.proofs.Common.{Some, inl, inr, ⊎_elim, sym, ap, subst, arith, slice_get, length-append}
use Rattle.std.proofs.lemmas.Bool.{cases_lt}
use Rattle.std.proofs.lemmas.List.Elements.{Contains-append_left, Contains-push, Contains-push_cases}
use Rattle.std.proofs.lemmas.Option.{slice_get_within}
use Rattle.std.specs.declared.cmp.Reverse.{Reverse}
use Rattle.lalrpop_lr1_paths.specs.declared.graph_paths.graph.Edge.{Edge}
use Rattle.lalrpop_lr1_paths.specs.declared.graph_paths.graph.Goal.{Goal}
use Rattle.lalrpop_lr1_paths.specs.declared.graph_paths.path_table.PathStep.TheVariants.{AtGoal, OverEdge}
use Rattle.lalrpop_lr1_paths.specs.declared.graph_paths.waiting.Entry.{Entry}
use Rattle.lalrpop_lr1_paths.specs.GraphPaths.{capped_sum, edge_weight, goal_weight}
use Rattle.lalrpop_lr1_paths.specs.PathSearches.{AddsEdges, AreGoalEntries, IsEdgeEntry, IsGoalEntry, IsWaitingFor}
use Rattle.lalrpop_lr1_paths.proofs.HeapLemmas.{pushed_from, pushed_kept, pushed_long, pushed_there}

-- what a list has at a place is one and the same, however it was found
pub same_there : {X : Type 0} (xs : List X) (k : ℕ) (x y : X) → slice_get xs k ≡ Some x → slice_get xs k ≡ Some y → x ≡ y
same_there xs k x y e f = cc

-- those that wait still wait
pub still_waits : (old new : List (Reverse Entry)) →
    ((entry : Reverse Entry) → Contains old entry → Contains new entry) → (n : ℕ) →
    IsWaitingFor old n → IsWaitingFor new n
still_waits old new kept n w = record { entry = w.entry; has = kept w.entry w.has; node = w.node }

-- the first goals have entries, and nothing else has
pub record AreFirstEntries (goals : List Goal) (count : ℕ) (waiting : List (Reverse Entry)) : Type 0 where
  pub all : (g : ℕ) (goal : Goal) → g < count → slice_get goals g ≡ Some goal → IsWaitingFor waiting goal.node
  pub only : (entry : Reverse Entry) → Contains waiting entry → IsGoalEntry goals entry.0

module _ (goals : List Goal) where
  pub goals_start : (waiting : List (Reverse Entry)) → waiting ≡ [] → AreFirstEntries goals 0 waiting
  goals_start waiting e = record {
    all = λ g goal h at. absurd (omega (arith, h));
    only = λ entry c. let d = subst (λ l. Contains l entry) e c in absurd (omega (arith, d.1));
  }

  pub goals_more : (count : ℕ) (goal : Goal) (entry : Reverse Entry) (old new : List (Reverse Entry)) →
      slice_get goals count ≡ Some goal → entry.0.node ≡ goal.node → entry.0.path.step ≡ AtGoal count →
      entry.0.path.weight ≡ goal.weight →
      IsPermutation (entry ∷ old) new → AreFirstEntries goals count old → AreFirstEntries goals (count + 1) new
  goals_more count goal entry old new at node step weight moved first = record {
    all = λ g other h there. ⊎_elim (λ l. still_waits old new (pushed_kept entry old new moved) other.node (first.all g other l there))
        (λ l. let e : g ≡ count = omega arith in
        let same = same_there goals count goal other at (ap (slice_get goals) (sym e) ∙ there) in
        record { entry = entry; has = pushed_there entry old new moved; node = node ∙ ap (λ (x : Goal). x.node) same })
        (cases_lt g count);
    only = λ other c. ⊎_elim (λ e. subst (λ (x : Reverse Entry). IsGoalEntry goals x.0) e
        (record {
          number = count;
          step = step;
          ends_at = record { goal = goal; at = at; node = sym node };
          weight = weight ∙ ap goal_weight (sym at);
        }))
        (λ d. first.only other d) (pushed_from entry old new moved other c);
  }

  pub goals_end : (count : ℕ) (waiting : List (Reverse Entry)) → length goals ≤ count → AreFirstEntries goals count waiting →
      AreGoalEntries goals waiting
  goals_end count waiting h first = record {
    all = λ g goal at. first.all g goal (omega (arith, h, slice_get_within goals g goal at)) at;
    only = first.only;
  }

module _ (edges : List Edge) (rest rest_weight : ℕ) (old : List (Reverse Entry)) where
  pub edges_start : AddsEdges edges [] rest rest_weight old old
  edges_start = record {
    kept = λ entry c. c;
    added = λ e edge c at. absurd (omega (arith, c.1));
    only = λ entry c. inl c;
    count = omega arith;
  }

  wider : (xs : List ℕ) (e : ℕ) (entry : Entry) → IsEdgeEntry edges xs rest rest_weight entry →
      IsEdgeEntry edges (xs ++ e ∷ []) rest rest_weight entry
  wider xs e entry is = record {
    number = is.number;
    edge = is.edge;
    has = Contains-append_left xs (e ∷ []) is.number is.has;
    at = is.at;
    step = is.step;
    from_it = is.from_it;
    weight = is.weight;
  }

  pub edges_more : (xs : List ℕ) (e : ℕ) (edge : Edge) (entry : Reverse Entry) (now new : List (Reverse Entry)) →
      slice_get edges e ≡ Some edge → entry.0.node ≡ edge.from → entry.0.path.step ≡ OverEdge e rest →
      entry.0.path.weight ≡ capped_sum rest_weight edge.weight →
      IsPermutation (entry ∷ now) new → AddsEdges edges xs rest rest_weight old now →
      AddsEdges edges (xs ++ e ∷ []) rest rest_weight old new
  edges_more xs e edge entry now new at node step weight moved adds = record {
    kept = λ other c. pushed_kept entry now new moved other (adds.kept other c);
    added = λ f other c there. ⊎_elim
        (λ d. still_waits now new (pushed_kept entry now new moved) other.from (adds.added f other d there))
        (λ s. let same = same_there edges e edge other at (ap (slice_get edges) s ∙ there) in
        record { entry = entry; has = pushed_there entry now new moved; node = node ∙ ap (λ (x : Edge). x.from) same })
        (Contains-push_cases xs e f c);
    only = λ other c. ⊎_elim (λ s. inr (subst (λ (x : Reverse Entry). IsEdgeEntry edges (xs ++ e ∷ []) rest rest_weight x.0) s
        (record {
          number = e;
          edge = edge;
          has = Contains-push xs e;
          at = at;
          step = step;
          from_it = sym node;
          weight = weight ∙ ap (λ o. capped_sum rest_weight (edge_weight o)) (sym at);
        })))
        (λ d. ⊎_elim (λ o. inl o) (λ is. inr (wider xs e other.0 is)) (adds.only other d))
        (pushed_from entry now new moved other c);
    count = omega (arith, pushed_long entry now new moved, adds.count, length-append xs (e ∷ []));
  }
