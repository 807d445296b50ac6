-- The search for paths, entry after entry: for its loop.
use Rattle.std.proofs.Common.{◌≡◌, ◌∙◌, ℕ, zero, suc, ◌≤◌, List, [], ◌∷◌, ◌++◌, length, Contains}
use Rattle.std.proofs.Common.{IsPermutation}
use Rattle.std.proofs.Common.{Option, Some, None, ◌⊎◌, inl, inr, ⊎_elim, refl, sym, ap, subst, arith, slice_get, length-append}
use Rattle.std.proofs.lemmas.List.Sorted.{Contains-permutation, IsPermutation-sym}
use Rattle.std.specs.declared.cmp.Reverse.{Reverse}
use Rattle.lalrpop_lr1_paths.specs.declared.graph_paths.graph.Edge.{Edge}
use Rattle.lalrpop_lr1_paths.specs.declared.graph_paths.graph.Goal.{Goal}
use Rattle.lalrpop_lr1_paths.specs.declared.graph_paths.path_table.LightPath.{LightPath}
use Rattle.lalrpop_lr1_paths.specs.declared.graph_paths.path_table.PathStep.{PathStep}
use Rattle.lalrpop_lr1_paths.specs.declared.graph_paths.path_table.PathStep.TheVariants.{AtGoal, OverEdge}
use Rattle.lalrpop_lr1_paths.specs.declared.graph_paths.waiting.Entry.{Entry}
use Rattle.lalrpop_lr1_paths.specs.PathSearches.{AddsEdges, AddsNumber, AreGoalEntries, BeginsPath, HasNumber, HasPathFrom}
use Rattle.lalrpop_lr1_paths.specs.PathSearches.{IsEdgeEntry, IsPathSearch, IsWeighed, IsWaitingFor}
use Rattle.lalrpop_lr1_paths.proofs.EnteringLemmas.{AreEntering}
use Rattle.lalrpop_lr1_paths.proofs.EntryLemmas.{same_there, still_waits}
use Rattle.lalrpop_lr1_paths.proofs.HeapLemmas.{first_or_other, first_there, others_there}
use Rattle.lalrpop_lr1_paths.proofs.NumberLemmas.{never_both, number_from, number_kept}

-- a path that was pushed is there, and the others are where they were
last_there : (paths : List LightPath) (path : LightPath) → slice_get (paths ++ path ∷ []) (length paths) ≡ Some path
last_there [] path = refl
last_there (x ∷ paths) path = last_there paths path

others_stay : (paths : List LightPath) (path : LightPath) (k : ℕ) (x : LightPath) → slice_get paths k ≡ Some x →
    slice_get (paths ++ path ∷ []) k ≡ Some x
others_stay [] path k x e = let w : ⊥ = cc in absurd w
others_stay (y ∷ paths) path zero x e = e
others_stay (y ∷ paths) path (suc k) x e = others_stay paths path k x e

module _ (edges : List Edge) (goals : List Goal) where
  -- where more nodes have paths, a path can begin as before
  begins_still : (old new : ℕ → Option ℕ) (low high : ℕ) → low ≤ high →
      ((m j : ℕ) → old m ≡ Some j → new m ≡ Some j) → (n : ℕ) (step : PathStep) →
      BeginsPath edges goals old n low step → BeginsPath edges goals new n high step
  begins_still old new low high h kept n (AtGoal g) b = b
  begins_still old new low high h kept n (OverEdge e rest) b = record {
    edge = b.edge;
    at = b.at;
    from_it = b.from_it;
    is = kept b.edge.to rest b.is;
    earlier = omega (arith, b.earlier, h);
  }

  -- where more paths were found, a path weighs as before
  weighed_still : (paths : List LightPath) (last : LightPath) (weight : ℕ) (step : PathStep) →
      IsWeighed edges goals paths weight step →
      IsWeighed edges goals (paths ++ last ∷ []) weight step
  weighed_still paths last weight (AtGoal g) w = w
  weighed_still paths last weight (OverEdge e rest) w = record {
    path = w.path;
    at = others_stay paths last rest w.path w.at;
    is = w.is;
  }

  pub search_starts : (numbers : ℕ → Option ℕ) (paths : List LightPath) (waiting : List (Reverse Entry)) →
      ((n : ℕ) → numbers n ≡ None) → AreGoalEntries goals waiting → IsPathSearch edges goals numbers paths waiting
  search_starts numbers paths waiting none are = record {
    found = λ n k is. absurd (never_both (numbers n) k (none n) is);
    waits = λ entry c. let is = are.only entry c in
        subst (λ s. BeginsPath edges goals numbers entry.0.node (length paths) s) (sym is.step) is.ends_at;
    waits_weighed = λ entry c. let is = are.only entry c in
        subst (λ s. IsWeighed edges goals paths entry.0.path.weight s) (sym is.step) is.weight;
    goals_met = λ g goal at. inr (are.all g goal at);
    edges_met = λ e edge at has. absurd (never_both (numbers edge.to) has.number (none edge.to) has.is);
  }

  -- the order of the entries is nothing to the search
  pub search_reordered : (numbers : ℕ → Option ℕ) (paths : List LightPath) (old new : List (Reverse Entry)) →
      IsPermutation old new → IsPathSearch edges goals numbers paths old → IsPathSearch edges goals numbers paths new
  search_reordered numbers paths old new moved search = record {
    found = search.found;
    waits = λ entry c. search.waits entry (back entry c);
    waits_weighed = λ entry c. search.waits_weighed entry (back entry c);
    goals_met = λ g goal at. ⊎_elim (λ h. inl h) (λ w. inr (still_waits old new there goal.node w)) (search.goals_met g goal at);
    edges_met = λ e edge at has. ⊎_elim (λ h. inl h) (λ w. inr (still_waits old new there edge.from w))
        (search.edges_met e edge at has);
  }
    where
      there : (entry : Reverse Entry) → Contains old entry → Contains new entry
      there entry c = Contains-permutation old new entry moved c

      back : (entry : Reverse Entry) → Contains new entry → Contains old entry
      back entry c = Contains-permutation new old entry (IsPermutation-sym old new moved) c

  -- one that waits is the first, or another
  waits_first : (entry : Reverse Entry) (waiting : List (Reverse Entry)) (n : ℕ) → IsWaitingFor (entry ∷ waiting) n →
      (entry.0.node ≡ n) ⊎ IsWaitingFor waiting n
  waits_first entry waiting n w = ⊎_elim (λ e. inl (ap (λ (x : Reverse Entry). x.0.node) e ∙ w.node))
      (λ c. inr (record { entry = w.entry; has = c; node = w.node })) (first_or_other entry w.entry waiting w.has)

  -- an entry whose node has a path is let go
  pub search_passes : (numbers : ℕ → Option ℕ) (paths : List LightPath) (entry : Reverse Entry)
      (waiting : List (Reverse Entry)) → IsPathSearch edges goals numbers paths (entry ∷ waiting) → HasNumber numbers entry.0.node →
      IsPathSearch edges goals numbers paths waiting
  search_passes numbers paths entry waiting search has = record {
    found = search.found;
    waits = λ other c. search.waits other (others_there entry other waiting c);
    waits_weighed = λ other c. search.waits_weighed other (others_there entry other waiting c);
    goals_met = λ g goal at. ⊎_elim (λ h. inl h) (λ w. met goal.node w) (search.goals_met g goal at);
    edges_met = λ e edge at h. ⊎_elim (λ h. inl h) (λ w. met edge.from w) (search.edges_met e edge at h);
  }
    where
      met : (n : ℕ) → IsWaitingFor (entry ∷ waiting) n → HasNumber numbers n ⊎ IsWaitingFor waiting n
      met n w = ⊎_elim (λ e. inl (subst (λ m. HasNumber numbers m) e has)) (λ c. inr c) (waits_first entry waiting n w)

  -- an entry's path becomes its node's
  module _ (entering : ℕ → List ℕ) (are : AreEntering edges entering) (old new : ℕ → Option ℕ)
      (paths more : List LightPath) (entry : Reverse Entry) (waited waiting : List (Reverse Entry))
      (search : IsPathSearch edges goals old paths (entry ∷ waited)) (fresh : old entry.0.node ≡ None)
      (number : AddsNumber old new entry.0.node (length paths))
      (paths_are : more ≡ paths ++ entry.0.path ∷ [])
      (adds : AddsEdges edges (entering entry.0.node) (length paths) entry.0.path.weight waited waiting) where
    kept : (m j : ℕ) → old m ≡ Some j → new m ≡ Some j
    kept m j is = number_kept old new entry.0.node (length paths) fresh number m j is

    longer : length more ≡ suc (length paths)
    longer = omega (arith, ap length paths_are, length-append paths (entry.0.path ∷ []))

    still : (weight : ℕ) (step : PathStep) → IsWeighed edges goals paths weight step → IsWeighed edges goals more weight step
    still weight step w = subst (λ l. IsWeighed edges goals l weight step) (sym paths_are)
        (weighed_still paths entry.0.path weight step w)

    found : (n k : ℕ) → new n ≡ Some k → HasPathFrom edges goals new more n k
    found n k is = ⊎_elim
        (λ e. subst (λ m. HasPathFrom edges goals new more m k) (sym e.0) (subst (λ j. HasPathFrom edges goals new more entry.0.node j)
        (sym e.1) (record {
          path = entry.0.path;
          at = ap (λ l. slice_get l (length paths)) paths_are ∙ last_there paths entry.0.path;
          begins = begins_still old new (length paths) (length paths) (omega arith) kept entry.0.node entry.0.path.step
              (search.waits entry (first_there entry waited));
          weighed = still entry.0.path.weight entry.0.path.step (search.waits_weighed entry (first_there entry waited));
        })))
        (λ was. let p = search.found n k was in record {
          path = p.path;
          at = ap (λ l. slice_get l k) paths_are ∙ others_stay paths entry.0.path k p.path p.at;
          begins = begins_still old new k k (omega arith) kept n p.path.step p.begins;
          weighed = still p.path.weight p.path.step p.weighed;
        })
        (number_from old new entry.0.node (length paths) fresh number n k is)

    weighs_here : (other : Entry) →
        IsEdgeEntry edges (entering entry.0.node) (length paths) entry.0.path.weight other →
        IsWeighed edges goals more other.path.weight other.path.step
    weighs_here other is = subst (λ s. IsWeighed edges goals more other.path.weight s) (sym is.step) (record {
      path = entry.0.path;
      at = ap (λ l. slice_get l (length paths)) paths_are ∙ last_there paths entry.0.path;
      is = is.weight;
    })

    goes_here : (other : Entry) →
        IsEdgeEntry edges (entering entry.0.node) (length paths) entry.0.path.weight other →
        BeginsPath edges goals new other.node (length more) other.path.step
    goes_here other is =
        let enters = are.only entry.0.node is.number is.has in
        let same = same_there edges is.number enters.edge is.edge enters.at is.at in
        let to_it : is.edge.to ≡ entry.0.node = sym (ap (λ (x : Edge). x.to) same) ∙ enters.to_it in
        subst (λ s. BeginsPath edges goals new other.node (length more) s) (sym is.step) (record {
          edge = is.edge;
          at = is.at;
          from_it = is.from_it;
          is = ap new to_it ∙ number.here;
          earlier = omega (arith, longer);
        })

    met : (n : ℕ) → HasNumber old n ⊎ IsWaitingFor (entry ∷ waited) n → HasNumber new n ⊎ IsWaitingFor waiting n
    met n (inl h) = inl (record { number = h.number; is = kept n h.number h.is })
    met n (inr w) = ⊎_elim (λ e. inl (record { number = length paths; is = ap new (sym e) ∙ number.here }))
        (λ c. inr (still_waits waited waiting adds.kept n c)) (waits_first entry waited n w)

    pub search_keeps : IsPathSearch edges goals new more waiting
    search_keeps = record {
      found = found;
      waits = λ other c. ⊎_elim
          (λ d. begins_still old new (length paths) (length more) (omega (arith, longer)) kept other.0.node other.0.path.step
          (search.waits other (others_there entry other waited d)))
          (λ is. goes_here other.0 is) (adds.only other c);
      waits_weighed = λ other c. ⊎_elim
          (λ d. still other.0.path.weight other.0.path.step (search.waits_weighed other (others_there entry other waited d)))
          (λ is. weighs_here other.0 is) (adds.only other c);
      goals_met = λ g goal at. met goal.node (search.goals_met g goal at);
      edges_met = λ e edge at has. ⊎_elim
          (λ h. inr (adds.added e edge (subst (λ m. Contains (entering m) e) h.0 (are.all e edge at)) at))
          (λ was. met edge.from (search.edges_met e edge at (record { number = has.number; is = was })))
          (number_from old new entry.0.node (length paths) fresh number edge.to has.number has.is);
    }
