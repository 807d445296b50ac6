-- What the symbols are that stand back along the path to a state, and that so few are there: for the symbols of paths.
use Rattle.std.proofs.Common.{◌≡◌, ◌∙◌, ◌⊎◌, ℕ, ◌<◌, Bool, true, false, List, [], ◌∷◌, ◌++◌}
use Rattle.std.proofs.Common.{length, reverse}
use Rattle.std.proofs.Common.{refl, sym, ap, subst, inl, inr, ⊎_elim, arith, length-append, append-nil, append_assoc, Option, Some, None}
use Rattle.std.specs.Cmp.{nat_eq_equiv}
use Rattle.std.specs.List.{IsDistinct, list_any}
use Rattle.std.specs.Prelude.{nat_eq}
use Rattle.std.proofs.lemmas.Bool.{eqb-true}
use Rattle.std.proofs.lemmas.List.{reverse-append}
use Rattle.std.proofs.lemmas.List.Elements.{Contains-append_cases}
use Rattle.std.proofs.lemmas.List.Folds.{list_any-append}
use Rattle.std.proofs.lemmas.Map.Keys.{IsDistinct-push}
use Rattle.std.proofs.lemmas.Map.Steps.{length-le_from_distinct_below}
use Rattle.std.proofs.lemmas.Option.{slice_get_within}
use Rattle.lalrpop_lr1_theory.specs.Automata.{Walk}
use Rattle.lalrpop_lr1_theory.specs.Productions.{Symbol}
use Rattle.lalrpop_lr1_theory.proofs.ListLemmas.{contains_split}
use Rattle.lalrpop_lr1_first.specs.Numbers.{SpellsSymbols}
use Rattle.lalrpop_lr1_first.proofs.ListLemmas.{or_cases}
use Rattle.lalrpop_lr1_least_trees.specs.GrammarTrees.{symbols_by}
use Rattle.lalrpop_lr1_paths.specs.declared.state_paths.path_edges.NumberEdge.{NumberEdge}
use Rattle.lalrpop_lr1_paths.specs.declared.state_paths.state_paths.StatePaths.{StatePaths}
use Rattle.lalrpop_lr1_paths.specs.PathTables.{AreStatePaths, HaveSymbols, last_edge_at}
use Rattle.lalrpop_lr1_paths.proofs.PathStepLemmas.{Led, edge_there, walk_ends, walk_over}

bool_cases : (b : Bool) → (b ≡ true) ⊎ (b ≡ false)
bool_cases true = inl refl
bool_cases false = inr refl

-- a number among one number
only_one : (q k : ℕ) → list_any (nat_eq q) (k ∷ []) ≡ true → q ≡ k
only_one q k e = ⊎_elim (λ h. eqb-true q k h) (λ h. let w : ⊥ = cc in absurd w) (or_cases (nat_eq q k) false e)

module _ (it : StatePaths) (are : AreStatePaths it) where
  abbrev steps : List (Option NumberEdge)
  steps = it.steps.items

  abbrev Path : List Symbol → ℕ → Type 0
  Path = Walk (Led it.trees.now.table steps)

  abbrev Spells : List ℕ → List Symbol → Type 0
  Spells = SpellsSymbols (symbols_by it.trees.now.table)

  -- the path is one to the place, and behind it the symbols with these numbers
  pub record IsFrontOf (syms : List Symbol) (place : ℕ) (ss : List ℕ) : Type 0 where
    pub front : List Symbol
    pub behind : List Symbol
    pub parts : syms ≡ front ++ behind
    pub walk : Path front place
    pub spelled : Spells ss behind

  -- These symbols were met back to the place, the last first: at as many states, each once, and each with a greater rank.
  pub record AreWalkedBack (state place : ℕ) (ss : List ℕ) : Type 0 where
    pub visited : List ℕ
    pub count : length visited ≡ length ss
    pub distinct : IsDistinct nat_eq visited
    pub below : (q : ℕ) → list_any (nat_eq q) visited ≡ true → q < length steps
    pub above : (q : ℕ) → list_any (nat_eq q) visited ≡ true → are.rank place < are.rank q
    pub symbols : HaveSymbols it.trees.now.table ss
    pub fronts : (syms : List Symbol) → Path syms state → IsFrontOf syms place (reverse ss)

  pub walk_begins : (state : ℕ) → AreWalkedBack state state []
  unfolding IsDistinct
  walk_begins state = record {
    visited = [];
    count = refl;
    distinct = tt;
    below = λ q e. let w : ⊥ = cc in absurd w;
    above = λ q e. let w : ⊥ = cc in absurd w;
    symbols = λ s c. absurd (omega (arith, c.1));
    fronts = λ syms w. record { front = syms; behind = []; parts = sym (append-nil syms); walk = w; spelled = tt };
  }

  module _ (state place : ℕ) (ss : List ℕ) (walked : AreWalkedBack state place ss) where
    -- where no edge leads to the place, the path has just these symbols
    pub walk_done : last_edge_at steps place ≡ None → (syms : List Symbol) → Path syms state → Spells (reverse ss) syms
    walk_done none syms w =
        let f = walked.fronts syms w in
        let empty : f.front ≡ [] = walk_ends it.trees.now.table steps f.front place none f.walk in
        subst (Spells (reverse ss)) (ap (λ l. l ++ f.behind) (sym empty) ∙ sym f.parts) f.spelled

    module _ (edge : NumberEdge) (is : last_edge_at steps place ≡ Some edge) where
      fresh : list_any (nat_eq place) walked.visited ≡ false
      fresh = ⊎_elim (λ h. absurd (omega (arith, walked.above place h))) (λ h. h) (bool_cases (list_any (nat_eq place) walked.visited))

      within : place < length steps
      within = slice_get_within steps place (Some edge) (edge_there steps place edge is)

      in_more : (q : ℕ) → list_any (nat_eq q) (walked.visited ++ place ∷ []) ≡ true →
          (list_any (nat_eq q) walked.visited ≡ true) ⊎ (q ≡ place)
      in_more q e =
          ⊎_elim (λ h. inl h) (λ h. inr (only_one q place h))
          (or_cases (list_any (nat_eq q) walked.visited) (list_any (nat_eq q) (place ∷ []))
          (sym (list_any-append (nat_eq q) walked.visited (place ∷ [])) ∙ e))

      more_distinct : IsDistinct nat_eq (walked.visited ++ place ∷ [])
      more_distinct = IsDistinct-push nat_eq_equiv walked.visited place walked.distinct fresh

      more_below : (q : ℕ) → list_any (nat_eq q) (walked.visited ++ place ∷ []) ≡ true → q < length steps
      more_below q e = ⊎_elim (λ h. walked.below q h) (λ h. omega (arith, h, within)) (in_more q e)

      -- fewer symbols than states were met
      pub few : length ss < length steps
      few = omega (
        arith,
        length-le_from_distinct_below (walked.visited ++ place ∷ []) (length steps) more_distinct more_below,
        length-append walked.visited (place ∷ []),
        walked.count,
      )

      more_fronts : (syms : List Symbol) → Path syms state → IsFrontOf syms edge.source (reverse (ss ++ edge.symbol ∷ []))
      more_fronts syms w =
          let f = walked.fronts syms w in
          let o = walk_over it.trees.now.table steps are.start f.front place edge is f.walk in
          record {
            front = o.front;
            behind = o.symbol ∷ f.behind;
            parts = f.parts ∙ ap (λ l. l ++ f.behind) o.parts ∙ append_assoc o.front (o.symbol ∷ []) f.behind;
            walk = o.walk;
            spelled = subst (λ l. Spells l (o.symbol ∷ f.behind)) (sym (reverse-append ss (edge.symbol ∷ []))) (o.is, f.spelled);
          }

      -- the symbol of the edge more
      pub walk_goes_on : AreWalkedBack state edge.source (ss ++ edge.symbol ∷ [])
      walk_goes_on = record {
        visited = walked.visited ++ place ∷ [];
        count = omega (
          arith,
          length-append walked.visited (place ∷ []),
          length-append ss (edge.symbol ∷ []),
          walked.count,
        );
        distinct = more_distinct;
        below = more_below;
        above = λ q e.
            let falls = are.falls place edge is in
            ⊎_elim (λ h. omega (arith, walked.above q h, falls))
            (λ h. subst (λ z. are.rank edge.source < are.rank z) (sym h) falls) (in_more q e);
        symbols = λ s c. ⊎_elim (λ d. walked.symbols s d)
            (λ d. ⊎_elim (λ h. subst (λ z. (x : Symbol) × (symbols_by it.trees.now.table z ≡ Some x)) h (are.symbols place edge is))
            (λ h. absurd (omega (arith, h.1))) (contains_split edge.symbol s [] d))
            (Contains-append_cases ss (edge.symbol ∷ []) s c);
        fronts = more_fronts;
      }
