-- The search for least trees, rule after rule: for its loop.
use Rattle.std.proofs.Common.{◌≡◌, ◌∙◌, ℕ, suc, ◌+◌, ◌*◌, ◌^◌, ◌<◌, ◌≤◌, Bool, true, false}
use Rattle.std.proofs.Common.{List, [], ◌∷◌, ◌++◌, length}
use Rattle.std.proofs.Common.{refl, sym, ap, subst, arith, Option, Some, None, Contains, set, slice_get, ◌⊎◌, inl, inr, ⊎_elim}
use Rattle.std.proofs.Common.{length-append}
use Rattle.std.specs.Prelude.{if◌then◌else◌, slice_index_or}
use Rattle.std.proofs.lemmas.Bool.{cases_lt}
use Rattle.std.proofs.lemmas.Option.{get_or_from_slice_get, slice_get_within, slice_get-get_or}
use Rattle.lalrpop_lr1_theory.proofs.ListLemmas.{contains_split, none_some}
use Rattle.lalrpop_lr1_theory.proofs.StepLemmas.{some_same}
use Rattle.lalrpop_lr1_least_trees.specs.declared.least_counts.counts.LeastTree.{LeastTree}
use Rattle.lalrpop_lr1_least_trees.specs.declared.least_counts.rule.NumberMove.{NumberMove}
use Rattle.lalrpop_lr1_least_trees.specs.declared.least_counts.rule.NumberMove.TheVariants.{Shift, Reduce}
use Rattle.lalrpop_lr1_least_trees.specs.declared.least_counts.waiting.Worklist.{Worklist}
use Rattle.lalrpop_lr1_least_trees.specs.NumberedTrees.{Builds, NumberRule, nothing, reduces, shifts}
use Rattle.lalrpop_lr1_least_trees.specs.LeastTrees.{AreLeast, IsBuilt, IsLeast, capped_count}
use Rattle.lalrpop_lr1_least_trees.specs.Searches.{AreUses, IsFall, IsMet, IsMetBy, IsMore, IsQueue, IsTreeSearch, IsRuleTaken, IsTry}
use Rattle.lalrpop_lr1_least_trees.specs.Searches.{rules_again, count_of, entry_count, weight}
use Rattle.lalrpop_lr1_least_trees.proofs.BuildLemmas.{AreHad, IsClosed, closed_below, had_sum, sum_parts}
use Rattle.lalrpop_lr1_least_trees.proofs.CountLemmas.{count_other, count_there, entry_other, entry_there, leaf_count, name_count}
use Rattle.lalrpop_lr1_least_trees.proofs.MeasureLemmas.{falls, total}
use Rattle.lalrpop_lr1_least_trees.proofs.CountLemmas.{node_from, node_other, node_parts, table_long, weight_falls}
use Rattle.lalrpop_sets.proofs.AscendingListLemmas.{cases_eq}

has_or_not : (xs : List ℕ) (x : ℕ) → Contains xs x ⊎ (Contains xs x → ⊥)
has_or_not [] x = inr (λ c. omega (arith, c.1))
has_or_not (y ∷ xs) x = go (cases_eq y x) (has_or_not xs x)
  where
    go : (y ≡ x) ⊎ (y ≡ x → ⊥) → Contains xs x ⊎ (Contains xs x → ⊥) → Contains (y ∷ xs) x ⊎
        (Contains (y ∷ xs) x → ⊥)
    go (inl e) r = inl (0, omega arith, e)
    go (inr n) (inl c) = inl (suc c.0, omega (arith, c.1), c.2)
    go (inr n) (inr m) = inr (λ c. ⊎_elim n m (contains_split y x xs c))

module _ (rules : List NumberRule) (names : ℕ) (leaves : Bool) where
  -- the rules to be looked at again are rules
  pub again_within : (uses : List (List ℕ)) → AreUses rules names uses → (s : ℕ) (fell : Bool) (r : ℕ) →
      Contains (rules_again uses s fell) r → r < length rules
  again_within uses are s false r c = absurd (omega (arith, c.1))
  again_within uses are s true r c = are.within r s c

  -- what a table counts, some trees have
  module _ (table : List (Option LeastTree)) (count : length table ≡ names)
      (built : (s : ℕ) (tree : LeastTree) → slice_get table s ≡ Some (Some tree) → IsBuilt rules names leaves s tree) where
    pub had : AreHad rules names leaves (count_of leaves table)
    had s c e = go (cases_lt s (length table))
      where
        name : (o : Option LeastTree) → slice_index_or table s None ≡ o → s < length table → entry_count o ≡ Some c →
            (ms : List NumberMove) × Builds rules names leaves (s ∷ []) ms × (capped_count (length ms) ≡ c)
        name None at h f = absurd (none_some c f)
        name (Some tree) at h f =
            let b = built s tree (slice_get-get_or table s None h ∙ ap Some at) in (
              b.moves ++ Reduce tree.rule ∷ [],
              subst (λ l. Builds rules names leaves (l ∷ []) (b.moves ++ Reduce tree.rule ∷ [])) b.left
                  (reduces tree.rule b.rule b.at b.builds nothing),
              omega (arith, length-append b.moves (Reduce tree.rule ∷ []), b.count, some_same tree.count c f),
            )

        leaf : (b : Bool) → leaves ≡ b → length table ≤ s → (if b then Some 1 else None) ≡ Some c →
            (ms : List NumberMove) × Builds rules names leaves (s ∷ []) ms × (capped_count (length ms) ≡ c)
        leaf false l h f = absurd (none_some c f)
        leaf true l h f = (Shift s ∷ [], shifts s l (omega (arith, h, count)) nothing, omega (arith, some_same 1 c f))

        go : (s < length table) ⊎ (length table ≤ s) →
            (ms : List NumberMove) × Builds rules names leaves (s ∷ []) ms × (capped_count (length ms) ≡ c)
        go (inl h) = name (slice_index_or table s None) refl h (sym (name_count leaves table s h) ∙ e)
        go (inr h) = leaf leaves refl h (sym (leaf_count leaves table s h) ∙ e)

  -- at the end no rule waits
  pub search_ends : (table : List (Option LeastTree)) (waiting : Worklist) → IsTreeSearch rules names leaves table waiting →
      waiting.rules.items ≡ [] → AreLeast rules names leaves table
  search_ends table waiting search empty = record { count = search.count; least = λ s entry at. least s entry at }
    where
      met : (r : ℕ) (rule : NumberRule) → slice_get rules r ≡ Some rule → IsMet (count_of leaves table) rule
      met r rule at =
          ⊎_elim (λ c. let n = subst (λ l. Contains l r) empty c in absurd (omega (arith, n.1))) (λ m. m) (search.met r rule at)

      closed : IsClosed rules names leaves (count_of leaves table)
      closed = record {
        terminal = λ s l h. leaf_count leaves table s (omega (arith, h, search.count)) ∙ ap (λ b. if b then Some 1 else None) l;
        closed = λ r rule n at e.
            let m = met r rule at (capped_count (suc n)) (node_from (count_of leaves table) rule.right n e) in
            (m.count, m.is, omega (arith, m.within));
      }

      least : (s : ℕ) (entry : Option LeastTree) → slice_get table s ≡ Some entry → IsLeast rules names leaves s entry
      least s None at = λ ms b.
          let r = closed_below rules names leaves (count_of leaves table) closed b in
          let p = sum_parts (count_of leaves table s) (Some 0) r.0 r.1 in
          none_some p.one (sym (name_count leaves table s (slice_get_within table s None at)
          ∙ ap entry_count (get_or_from_slice_get table s None None at)) ∙ p.one_is)
      least s (Some tree) at = record {
        built = search.built s tree at;
        least = λ ms b.
            let r = closed_below rules names leaves (count_of leaves table) closed b in
            let p = sum_parts (count_of leaves table s) (Some 0) r.0 r.1 in
            let same = some_same tree.count p.one (sym (name_count leaves table s (slice_get_within table s (Some tree) at)
            ∙ ap entry_count (get_or_from_slice_get table s (Some tree) None at)) ∙ p.one_is) in
            omega (arith, p.sum, r.2, same);
      }

  -- at the start all rules wait
  pub search_starts : (table : List (Option LeastTree)) (waiting : Worklist) → length table ≡ names →
      ((s : ℕ) → slice_index_or table s None ≡ None) → IsQueue (length rules) waiting →
      ((r : ℕ) → r < length rules → Contains waiting.rules.items r) → IsTreeSearch rules names leaves table waiting
  search_starts table waiting count none queue all = record {
    count = count;
    built = λ s tree at. absurd (none_some tree (sym (none s) ∙ get_or_from_slice_get table s (Some tree) None at));
    queue = queue;
    met = λ r rule at. inl (all r (slice_get_within rules r rule at));
  }

  module _ (table new : List (Option LeastTree)) (waiting taken : Worklist) (r : ℕ) (rule : NumberRule)
      (at : slice_get rules r ≡ Some rule) (search : IsTreeSearch rules names leaves table waiting) (take : IsRuleTaken r waiting taken)
    where
      abbrev f : ℕ → Option ℕ
      f = count_of leaves table

      same_rule : (q : ℕ) (other : NumberRule) → q ≡ r → slice_get rules q ≡ Some other → rule ≡ other
      same_rule q other e there = some_same rule other (sym at ∙ ap (slice_get rules) (sym e) ∙ there)

      -- a rule that gives nothing smaller
      module _ (pushed : Worklist) (queued : IsQueue (length rules) pushed)
          (kept : (q : ℕ) → Contains taken.rules.items q → Contains pushed.rules.items q) where
        search_same : new ≡ table → IsMet f rule → IsTreeSearch rules names leaves new pushed
        search_same e own = subst (λ t. IsTreeSearch rules names leaves t pushed) (sym e) (record {
          count = search.count;
          built = search.built;
          queue = queued;
          met = λ q other there. ⊎_elim (λ c. go q other there (take.kept q c)) (λ m. inr m) (search.met q other there);
        })
          where
            go : (q : ℕ) (other : NumberRule) → slice_get rules q ≡ Some other → (q ≡ r) ⊎ Contains taken.rules.items q →
                Contains pushed.rules.items q ⊎ IsMet f other
            go q other there (inl h) = inr (subst (IsMet f) (same_rule q other h there) own)
            go q other there (inr c) = inl (kept q c)

      -- a rule that gives a smaller tree: the rules with its name on their right sides wait
      module _ (uses : List (List ℕ)) (are : AreUses rules names uses) (below : rule.left < names) (fall : IsFall leaves rule r table new)
          (pushed : Worklist) (queued : IsQueue (length rules) pushed)
          (kept : (q : ℕ) → Contains taken.rules.items q → Contains pushed.rules.items q)
          (added : (q : ℕ) → Contains (slice_index_or uses rule.left []) q → Contains pushed.rules.items q) where
        abbrev tree : LeastTree
        tree = record { count = fall.count; rule = r }

        abbrev after : List (Option LeastTree)
        after = set table rule.left (Some tree)

        inside : rule.left < length table
        inside = omega (arith, below, search.count)

        now : count_of leaves after rule.left ≡ Some fall.count
        now = count_there leaves table rule.left tree inside

        others : (t : ℕ) → (t ≡ rule.left → ⊥) → count_of leaves after t ≡ f t
        others t n = count_other leaves table rule.left (Some tree) t n

        built : (s : ℕ) (own : LeastTree) → slice_get after s ≡ Some (Some own) → IsBuilt rules names leaves s own
        built s own there = go (cases_eq s rule.left)
          where
            go : (s ≡ rule.left) ⊎ (s ≡ rule.left → ⊥) → IsBuilt rules names leaves s own
            go (inl e) =
                let read : Some tree ≡ Some own =
                sym (ap (λ k. slice_index_or after k None) e ∙ entry_there table rule.left (Some tree) inside)
                ∙ get_or_from_slice_get after s (Some own) None there in
                let p = node_parts f rule.right fall.count fall.is in
                let h = had_sum rules names leaves f (had table search.count search.built) rule.right p.sum p.is in
                subst (IsBuilt rules names leaves s) (some_same tree own read) (record {
                  rule = rule;
                  moves = h.0;
                  at = at;
                  left = sym e;
                  builds = h.1;
                  count = omega (arith, p.count, h.2);
                })
            go (inr n) =
                let long = slice_get_within after s (Some own) there in
                let read : slice_index_or table s None ≡ Some own =
                sym (entry_other table rule.left s (Some tree) n) ∙ get_or_from_slice_get after s (Some own) None there in
                search.built s own
                (slice_get-get_or table s None (omega (arith, long, table_long table rule.left (Some tree))) ∙ ap Some read)

        -- what was met still is, where the name isn't on the right side
        still : (other : NumberRule) → (Contains other.right rule.left → ⊥) → IsMet f other → IsMet (count_of leaves after) other
        still other out m n e = go (cases_eq other.left rule.left) (m n (sym (node_other f (count_of leaves after) rule.left others
            other.right out) ∙ e))
          where
            more : (o : Option LeastTree) → slice_index_or table rule.left None ≡ o → IsMore o fall.count → (c : ℕ) →
                entry_count o ≡ Some c → fall.count ≤ c
            more None h k c g = absurd (none_some c g)
            more (Some old) h k c g = omega (arith, k, some_same old.count c g)

            go : (other.left ≡ rule.left) ⊎ (other.left ≡ rule.left → ⊥) → IsMetBy f other.left n →
                IsMetBy (count_of leaves after) other.left n
            go (inl h) b = record {
              count = fall.count;
              is = ap (count_of leaves after) h ∙ now;
              within = let k = more (slice_index_or table rule.left None) refl fall.more b.count
                  (sym (name_count leaves table rule.left inside) ∙ ap f (sym h) ∙ b.is) in omega (arith, k, b.within);
            }
            go (inr h) b = record { count = b.count; is = others other.left h ∙ b.is; within = b.within }

        met : (q : ℕ) (other : NumberRule) → slice_get rules q ≡ Some other →
            Contains pushed.rules.items q ⊎ IsMet (count_of leaves after) other
        met q other there = go (has_or_not other.right rule.left) (search.met q other there)
          where
            own : (Contains rule.right rule.left → ⊥) → IsMet (count_of leaves after) rule
            own out n e = record {
              count = fall.count;
              is = now;
              within =
                  let same = some_same fall.count n (sym fall.is
                  ∙ sym (node_other f (count_of leaves after) rule.left others rule.right out) ∙ e) in omega (arith, same);
            }

            waits : (Contains other.right rule.left → ⊥) → (q ≡ r) ⊎ Contains taken.rules.items q →
                Contains pushed.rules.items q ⊎ IsMet (count_of leaves after) other
            waits out (inl h) =
                let same = same_rule q other h there in
                inr (subst (λ o. (Contains o.right rule.left → ⊥) → IsMet (count_of leaves after) o) same own out)
            waits out (inr c) = inl (kept q c)

            go : Contains other.right rule.left ⊎ (Contains other.right rule.left → ⊥) → Contains waiting.rules.items q ⊎ IsMet f
                other →
                Contains pushed.rules.items q ⊎ IsMet (count_of leaves after) other
            go (inl c) old = inl (added q (are.all q rule.left other there c below))
            go (inr out) (inl c) = waits out (take.kept q c)
            go (inr out) (inr m) = inr (still other out m)

        search_falls : IsTreeSearch rules names leaves new pushed
        search_falls = subst (λ t. IsTreeSearch rules names leaves t pushed) (sym fall.set_to) (record {
          count = table_long table rule.left (Some tree) ∙ search.count;
          built = built;
          queue = queued;
          met = met;
        })

        -- the table falls
        table_falls : weight new < weight table
        table_falls =
            let p = node_parts f rule.right fall.count fall.is in
            let small : fall.count < 2 ^ 64 = omega (arith, p.count) in
            subst (λ t. weight t < weight table) (sym fall.set_to) (weight_falls table rule.left tree inside small fall.more)

      -- any rule
      module _ (uses : List (List ℕ)) (are : AreUses rules names uses) (below : rule.left < names) (fell : Bool)
          (try : IsTry leaves rule r table new fell) (pushed : Worklist) (queued : IsQueue (length rules) pushed)
          (kept : (q : ℕ) → Contains taken.rules.items q → Contains pushed.rules.items q)
          (added : (q : ℕ) → Contains (rules_again uses rule.left fell) q → Contains pushed.rules.items q) where
        pub search_step : IsTreeSearch rules names leaves new pushed
        search_step = go fell refl
          where
            go : (b : Bool) → fell ≡ b → IsTreeSearch rules names leaves new pushed
            go true e =
                search_falls uses are below (try.falls e) pushed queued kept
                (subst (λ b. (q : ℕ) → Contains (rules_again uses rule.left b) q → Contains pushed.rules.items q) e added)
            go false e = search_same pushed queued kept (try.same e) (try.met e)

        pub step_smaller : length pushed.rules.items ≤ length taken.rules.items + length (rules_again uses rule.left fell) →
            suc (total uses) * weight new + length pushed.rules.items < suc (total uses) * weight table + length waiting.rules.items
        step_smaller more = go fell refl
          where
            go : (b : Bool) → fell ≡ b →
                suc (total uses) * weight new + length pushed.rules.items < suc (total uses) * weight table + length waiting.rules.items
            go true e =
                falls uses rule.left (weight table) (weight new) (length waiting.rules.items) (length taken.rules.items)
                (length pushed.rules.items)
                (table_falls uses are below (try.falls e) pushed queued kept
                (subst (λ b. (q : ℕ) → Contains (rules_again uses rule.left b) q → Contains pushed.rules.items q) e added))
                take.fewer (subst (λ b. length pushed.rules.items ≤ length taken.rules.items + length (rules_again uses rule.left b)) e
                more)
            go false e =
                let less = subst (λ b. length pushed.rules.items ≤ length taken.rules.items + length (rules_again uses rule.left b)) e
                more in
                let same = ap weight (try.same e) in
                let both : suc (total uses) * weight new ≡ suc (total uses) * weight table = ap (λ w. suc (total uses) * w) same in
                omega (arith, less, take.fewer, both)
