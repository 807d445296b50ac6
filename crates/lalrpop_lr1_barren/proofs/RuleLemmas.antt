-- Names of right sides one by one, and where the clauses of rules lead: for making clauses.
use Rattle.std.proofs.Common.{◌≡◌, ◌∙◌, ℕ, Bool, true, false, List, [], ◌∷◌, ◌++◌, map, ap, refl}
use Rattle.std.proofs.Common.{subst, arith}
use Rattle.std.proofs.Common.{nat_lt, Contains}
use Rattle.std.specs.Prelude.{filter, flat_map, if◌then◌else◌}
use Rattle.std.proofs.lemmas.List.{append_assoc}
use Rattle.lalrpop_lr1_theory.proofs.ListLemmas.{contains_get, get_contains}
use Rattle.lalrpop_lr1_core.proofs.MemberLemmas.{in_filter, in_map, map_has}
use Rattle.lalrpop_lr1_first.specs.FirstNumbers.{name_count}
use Rattle.lalrpop_lr1_first.specs.NumberedGrammars.{IsNumberTable}
use Rattle.lalrpop_lr1_first.specs.declared.numbered.Numbered.{Numbered}
use Rattle.lalrpop_lr1_first.proofs.TableLemmas.{left_below}
use Rattle.std.proofs.lemmas.Bool.{ltb-true}
use Rattle.lalrpop_lr1_barren.specs.Clauses.{ClausesAreWithin, clause_view}
use Rattle.lalrpop_lr1_barren.specs.RuleClauses.{names_of_rule, reach_of_rule, tree_of_rule}
use Rattle.lalrpop_lr1_barren.specs.declared.reachable.clauses.Clause.{Clause}
use Rattle.lalrpop_lr1_core.proofs.GraphLemmas.{in_flat}

one_more : (p : ℕ → Bool) (s : ℕ) (rest : List ℕ) → filter p (s ∷ []) ++ filter p rest ≡ filter p (s ∷ rest)
one_more p s rest = go (p s)
  where
    go : (b : Bool) → (if b then s ∷ [] else []) ++ filter p rest ≡ (if b then s ∷ filter p rest else filter p rest)
    go true = refl
    go false = refl

-- one symbol more
pub names_step : (count : ℕ) (names new : List ℕ) (s : ℕ) (rest whole : List ℕ) →
    new ≡ names ++ filter (λ k. nat_lt k count) (s ∷ []) → names ++ filter (λ k. nat_lt k count) (s ∷ rest) ≡ whole →
    new ++ filter (λ k. nat_lt k count) rest ≡ whole
names_step count names new s rest whole e before =
    let p : ℕ → Bool = λ k. nat_lt k count in
    ap (λ l. l ++ filter p rest) e ∙ append_assoc names (filter p (s ∷ [])) (filter p rest)
    ∙ ap (λ l. names ++ l) (one_more p s rest) ∙ before

module _ (table : Numbered) (is : IsNumberTable table) (clauses : List Clause) where
  -- clauses of rules lead to names
  pub trees_within : map clause_view clauses ≡ map (tree_of_rule table) table.rules.items →
      ClausesAreWithin (name_count table) clauses
  trees_within e r c at =
      let d = subst (λ l. Contains l (clause_view c)) e (map_has clause_view clauses c (get_contains clauses r c at)) in
      let m = in_map (tree_of_rule table) table.rules.items (clause_view c) d in
      let k = contains_get table.rules.items m.0 m.1 in
      let gives : m.0.left ≡ c.gives = ap (λ q. q.1) m.2 in
      omega (arith, gives, left_below table is k.0 m.0 k.1)

  pub reaches_within : map clause_view clauses ≡ flat_map (reach_of_rule table) table.rules.items →
      ClausesAreWithin (name_count table) clauses
  reaches_within e r c at =
      let d = subst (λ l. Contains l (clause_view c)) e (map_has clause_view clauses c (get_contains clauses r c at)) in
      let m = in_flat (reach_of_rule table) table.rules.items (clause_view c) d in
      let k = in_map (λ s. (m.0.left ∷ [], s)) (names_of_rule table m.0) (clause_view c) m.2 in
      let f = in_filter (λ s. nat_lt s (name_count table)) _ k.0 k.1 in
      let gives : k.0 ≡ c.gives = ap (λ q. q.1) k.2 in
      omega (arith, gives, ltb-true k.0 (name_count table) f.0)
