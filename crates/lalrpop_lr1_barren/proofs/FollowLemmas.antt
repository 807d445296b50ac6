-- What follows from marks by clauses has a tree by their rules, and the other way round: for closing marks.
use Rattle.std.proofs.Common.{◌≡◌, ◌⊎◌, ◌↔◌, ℕ, zero, suc, ◌<◌, ◌≤◌, Bool, true, false, Some, None, Option}
use Rattle.std.proofs.Common.{List, [], ◌∷◌, ◌++◌, length, map, refl, sym, ap, subst, inl, inr, ⊎_elim, arith}
use Rattle.std.proofs.Common.{slice_get, Contains}
use Rattle.std.proofs.lemmas.Bool.{cases_lt}
use Rattle.std.specs.Option.{is_some}
use Rattle.std.specs.Prelude.{if◌then◌else◌}
use Rattle.lalrpop_lr1_theory.proofs.ListLemmas.{contains_get, contains_here, contains_later, contains_split, get_contains}
use Rattle.lalrpop_lr1_least_trees.specs.declared.least_counts.counts.LeastTree.{LeastTree}
use Rattle.lalrpop_lr1_least_trees.specs.declared.least_counts.rule.NumberMove.{NumberMove}
use Rattle.lalrpop_lr1_least_trees.specs.LeastTrees.{AreLeast}
use Rattle.lalrpop_lr1_least_trees.specs.NumberedTrees.{Builds, NumberRule, nothing, reduces, shifts}
use Rattle.lalrpop_lr1_least_trees.proofs.BuildLemmas.{builds-append}
use Rattle.lalrpop_lr1_core.proofs.MemberLemmas.{in_map, map_has}
use Rattle.lalrpop_lr1_barren.proofs.ClauseLemmas.{marked_within}
use Rattle.lalrpop_lr1_barren.specs.Clauses.{ClausesAreWithin, Follows, IsMarked, by_clause, clause_view, has_mark, marked}
use Rattle.lalrpop_lr1_barren.specs.ClauseRules.{marked_rules, rule_of_clause, seed_rule}
use Rattle.lalrpop_lr1_barren.specs.declared.reachable.clauses.Clause.{Clause}
use Rattle.lalrpop_lr1_theory.proofs.NameLemmas.{no_element}

in_append : {X : Type 0} (xs ys : List X) (x : X) → Contains (xs ++ ys) x → Contains xs x ⊎ Contains ys x
in_append [] ys x c = inr c
in_append (y ∷ xs) ys x c =
    ⊎_elim (λ e. inl (subst (Contains (y ∷ xs)) e (contains_here y xs)))
    (λ d. ⊎_elim (λ l. inl (contains_later y x xs l)) (λ r. inr r) (in_append xs ys x d)) (contains_split y x (xs ++ ys) c)

append_left : {X : Type 0} (xs ys : List X) (x : X) → Contains xs x → Contains (xs ++ ys) x
append_left [] ys x c = absurd (no_element x c)
append_left (y ∷ xs) ys x c =
    ⊎_elim (λ e. subst (Contains (y ∷ xs ++ ys)) e (contains_here y (xs ++ ys)))
    (λ d. contains_later y x (xs ++ ys) (append_left xs ys x d)) (contains_split y x xs c)

append_right : {X : Type 0} (xs ys : List X) (x : X) → Contains ys x → Contains (xs ++ ys) x
append_right [] ys x c = c
append_right (y ∷ xs) ys x c = contains_later y x (xs ++ ys) (append_right xs ys x c)

-- a number that is marked has its rule, and each such rule is of one
seed_kept : (b : Bool) (k : ℕ) → b ≡ true → Contains (if b then seed_rule k ∷ [] else []) (seed_rule k)
seed_kept true k e = contains_here (seed_rule k) []
seed_kept false k e = let w : ⊥ = cc in absurd w

seed_there : (marks : List Bool) (count n : ℕ) → n < count → IsMarked marks n → Contains (marked_rules marks count) (seed_rule n)
seed_there marks zero n h m = absurd (omega (arith, h))
seed_there marks (suc k) n h m =
    ⊎_elim (λ l. append_left (marked_rules marks k) _ (seed_rule n) (seed_there marks k n l m)) last (cases_lt n k)
  where
    last : k ≤ n → Contains (marked_rules marks (suc k)) (seed_rule n)
    last l =
        let here : n ≡ k = omega (arith, h, l) in
        subst (λ j. Contains (marked_rules marks (suc k)) (seed_rule j)) (sym here)
        (append_right (marked_rules marks k) _ (seed_rule k) (seed_kept (has_mark marks k) k (subst (IsMarked marks) here m)))

-- the rule of a number that is marked
record IsSeed (marks : List Bool) (count : ℕ) (rule : NumberRule) : Type 0 where
  number : ℕ
  within : number < count
  is_marked : IsMarked marks number
  is : rule ≡ seed_rule number

seed_of : (marks : List Bool) (count : ℕ) (rule : NumberRule) → Contains (marked_rules marks count) rule → IsSeed marks count rule
seed_of marks zero rule c = absurd (no_element rule c)
seed_of marks (suc k) rule c =
    ⊎_elim
    (λ d. let s = seed_of marks k rule d in
    record { number = s.number; within = omega (arith, s.within); is_marked = s.is_marked; is = s.is })
    (λ d. own (has_mark marks k) refl d) (in_append (marked_rules marks k) _ rule c)
  where
    own : (b : Bool) → has_mark marks k ≡ b → Contains (if b then seed_rule k ∷ [] else []) rule → IsSeed marks (suc k) rule
    own true e d =
        ⊎_elim (λ s. record { number = k; within = omega arith; is_marked = e; is = sym s }) (λ o. absurd (no_element rule o))
        (contains_split (seed_rule k) rule [] d)
    own false e d = absurd (no_element rule d)

-- the rules by which marks are closed
abbrev pub closing_rules : List Clause → List Bool → List NumberRule
closing_rules clauses marks = map rule_of_clause clauses ++ marked_rules marks (length marks)

module _ (clauses : List Clause) (marks : List Bool) where
  abbrev rules : List NumberRule
  rules = closing_rules clauses marks

  abbrev F : ℕ → Type 0
  F = Follows (map clause_view clauses) marks

  abbrev B : List ℕ → List NumberMove → Type 0
  B = Builds rules (length marks) false

  -- a rule is a clause's, or that of a number that is marked
  rule_from : (rule : NumberRule) → Contains rules rule →
      ((c : Clause) × Contains clauses c × (rule_of_clause c ≡ rule)) ⊎ IsSeed marks (length marks) rule
  rule_from rule d =
      ⊎_elim (λ l. inl (in_map rule_of_clause clauses rule l)) (λ r. inr (seed_of marks (length marks) rule r))
      (in_append (map rule_of_clause clauses) (marked_rules marks (length marks)) rule d)

  -- each is for one of the numbers
  pub rules_within : ClausesAreWithin (length marks) clauses → (r : ℕ) (rule : NumberRule) → slice_get rules r ≡ Some rule →
      rule.left < length marks
  rules_within within r rule at = ⊎_elim by_one by_seed (rule_from rule (get_contains rules r rule at))
    where
      by_one : (c : Clause) × Contains clauses c × (rule_of_clause c ≡ rule) → rule.left < length marks
      by_one d =
          let g = contains_get clauses d.0 d.1 in
          subst (λ (u : NumberRule). u.left < length marks) d.2 (within g.0 d.0 g.1)

      by_seed : IsSeed marks (length marks) rule → rule.left < length marks
      by_seed s = subst (λ (u : NumberRule). u.left < length marks) (sym s.is) s.within

  -- trees for several numbers, one after another
  build_all : (ns : List ℕ) → ((k : ℕ) → Contains ns k → (ms : List NumberMove) × B (k ∷ []) ms) →
      (ms : List NumberMove) × B ns ms
  build_all [] each = ([], nothing)
  build_all (k ∷ ns) each =
      let one = each k (contains_here k ns) in
      let rest = build_all ns (λ j d. each j (contains_later k j ns d)) in
      (one.0 ++ rest.0, builds-append rules (length marks) false one.1 ns rest.0 rest.1)

  build_by : (rule : NumberRule) → Contains rules rule → (ms : List NumberMove) → B rule.right ms →
      (ns : List NumberMove) × B (rule.left ∷ []) ns
  build_by rule d ms b = let g = contains_get rules rule d in (_, reduces g.0 rule g.1 b nothing)

  follows_built : {n : ℕ} → F n → (ms : List NumberMove) × B (n ∷ []) ms
  follows_built (marked n m) =
      build_by (seed_rule n)
      (append_right (map rule_of_clause clauses) _ (seed_rule n) (seed_there marks (length marks) n (marked_within marks n m) m)) []
      nothing
  follows_built (by_clause needs gives among f) =
      let c = in_map clause_view clauses (needs, gives) among in
      let all = build_all needs (λ k d. follows_built (f k d)) in
      let own = build_by (rule_of_clause c.0) (append_left (map rule_of_clause clauses) _ (rule_of_clause c.0)
      (map_has rule_of_clause clauses c.0 c.1)) all.0 (subst (λ l. B l all.0) (sym (ap (λ p. p.0) c.2)) all.1) in
      subst (λ g. (ms : List NumberMove) × B (g ∷ []) ms) (ap (λ p. p.1) c.2) own

  built_follows : {ss : List ℕ} {ms : List NumberMove} → B ss ms → (n : ℕ) → Contains ss n → F n
  built_follows nothing n d = absurd (no_element n d)
  built_follows (shifts s l h b) n d = let w : ⊥ = cc in absurd w
  built_follows (reduces r rule {ss = ss} at inner b) n d =
      ⊎_elim
      (λ e. subst F e (by_rule (built_follows inner) (rule_from rule (get_contains rules r rule at))))
      (λ o. built_follows b n o) (contains_split rule.left n ss d)
    where
      by_rule : ((k : ℕ) → Contains rule.right k → F k) →
          ((c : Clause) × Contains clauses c × (rule_of_clause c ≡ rule)) ⊎ IsSeed marks (length marks) rule → F rule.left
      by_rule all (inl c) =
          subst (λ (u : NumberRule). F u.left) c.2
          (by_clause c.0.needs.items c.0.gives (map_has clause_view clauses c.0 c.1)
          (λ k o. all k (subst (λ (u : NumberRule). Contains u.right k) c.2 o)))
      by_rule all (inr s) = subst (λ (u : NumberRule). F u.left) (sym s.is) (marked s.number s.is_marked)

  -- the entries of least trees say what follows
  pub closed_by : (table : List (Option LeastTree)) → AreLeast rules (length marks) false table →
      ClausesAreWithin (length marks) clauses → (n : ℕ) → IsMarked (map is_some table) n ↔ F n
  closed_by table least within n = (there, back)
    where
      entry_of : (t : List (Option LeastTree)) (k : ℕ) → IsMarked (map is_some t) k →
          (tree : LeastTree) × (slice_get t k ≡ Some (Some tree))
      entry_of [] k m = let w : ⊥ = cc in absurd w
      entry_of (None ∷ t) zero m = let w : ⊥ = cc in absurd w
      entry_of (Some tree ∷ t) zero m = (tree, refl)
      entry_of (e ∷ t) (suc k) m = entry_of t k m

      there : IsMarked (map is_some table) n → F n
      there m =
          let e = entry_of table n m in
          let built = (least.least n (Some e.0) e.1).built in
          subst F built.left
          (built_follows (reduces e.0.rule built.rule built.at built.builds nothing) built.rule.left (contains_here built.rule.left []))

      entry_at : (t : List (Option LeastTree)) (k : ℕ) → k < length t → (e : Option LeastTree) × (slice_get t k ≡ Some e)
      entry_at [] k h = absurd (omega (arith, h))
      entry_at (e ∷ t) zero h = (e, refl)
      entry_at (e ∷ t) (suc k) h = entry_at t k (omega (arith, h))

      some_marked : (t : List (Option LeastTree)) (k : ℕ) (tree : LeastTree) → slice_get t k ≡ Some (Some tree) →
          IsMarked (map is_some t) k
      some_marked [] k tree e = let w : ⊥ = cc in absurd w
      some_marked (None ∷ t) zero tree e = let w : ⊥ = cc in absurd w
      some_marked (Some u ∷ t) zero tree e = refl
      some_marked (u ∷ t) (suc k) tree e = some_marked t k tree e

      follows_within : {k : ℕ} → F k → k < length marks
      follows_within (marked k m) = marked_within marks k m
      follows_within (by_clause needs gives among f) =
          let c = in_map clause_view clauses (needs, gives) among in
          let g = contains_get clauses c.0 c.1 in
          subst (λ i. i < length marks) (ap (λ p. p.1) c.2) (within g.0 c.0 g.1)

      back : F n → IsMarked (map is_some table) n
      back f = go at.0 at.1
        where
          at : (e : Option LeastTree) × (slice_get table n ≡ Some e)
          at = entry_at table n (omega (arith, follows_within f, least.count))

          go : (e : Option LeastTree) → slice_get table n ≡ Some e → IsMarked (map is_some table) n
          go None e = let b = follows_built f in absurd (least.least n None e b.0 b.1)
          go (Some tree) e = some_marked table n tree e
