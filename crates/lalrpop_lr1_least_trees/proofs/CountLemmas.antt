-- Counts of symbols together, one symbol after another, and where one entry of the table changes: for counting and for the search.
use Rattle.std.proofs.Common.{◌≡◌, ◌∙◌, ℕ, zero, suc, ◌+◌, ◌-◌, ◌^◌, ◌<◌, ◌≤◌, Bool, true}
use Rattle.std.proofs.Common.{false, List, [], ◌∷◌, ◌++◌, length, min}
use Rattle.std.proofs.Common.{refl, sym, ap, arith, Option, Some, None, Contains, get_or, set, nat_lt, ◌⊎◌, inl, inr}
use Rattle.std.specs.Prelude.{if◌then◌else◌, slice_index_or}
use Rattle.std.specs.Option.{option_map}
use Rattle.std.proofs.lemmas.Bool.{cases_lt, lt-ltb, ltb-true}
use Rattle.lalrpop_lr1_theory.proofs.ListLemmas.{contains_here, contains_later, contains_split, none_some}
use Rattle.lalrpop_lr1_theory.proofs.StepLemmas.{some_same}
use Rattle.lalrpop_lr1_least_trees.specs.declared.least_counts.counts.LeastTree.{LeastTree}
use Rattle.lalrpop_lr1_least_trees.specs.LeastTrees.{capped_count}
use Rattle.lalrpop_lr1_least_trees.specs.Searches.{IsMore, add_counts, count_of, entry_count, node_count, sum_of, weight}
use Rattle.lalrpop_lr1_least_trees.proofs.BuildLemmas.{IsSumOf, sum_parts}

-- a node's count has the sum of its children
pub record IsNodeOf (f : ℕ → Option ℕ) (ss : List ℕ) (c : ℕ) : Type 0 where
  pub sum : ℕ
  pub is : sum_of f ss ≡ Some sum
  pub count : capped_count (suc sum) ≡ c

-- where a node has a count, its symbols have a sum, and the count is one more, up to the greatest number
pub node_parts : (f : ℕ → Option ℕ) (ss : List ℕ) (c : ℕ) → node_count f ss ≡ Some c → IsNodeOf f ss c
node_parts f ss c e = go (sum_of f ss) refl e
  where
    go : (o : Option ℕ) → sum_of f ss ≡ o → node_count f ss ≡ Some c → IsNodeOf f ss c
    go None h e = absurd (none_some c (sym (ap (option_map (λ n. capped_count (suc n))) h) ∙ e))
    go (Some n) h e =
        record {
          sum = n;
          is = h;
          count = some_same (capped_count (suc n)) c
              (sym (ap (option_map (λ n. capped_count (suc n))) h) ∙ e);
        }

-- where symbols have a sum, a node over them counts one more, up to the greatest number
pub node_from : (f : ℕ → Option ℕ) (ss : List ℕ) (n : ℕ) → sum_of f ss ≡ Some n → node_count f ss ≡ Some
    (capped_count (suc n))
node_from f ss n e = ap (option_map (λ n. capped_count (suc n))) e

-- one symbol more
pub sum_more : (f : ℕ → Option ℕ) (xs : List ℕ) (s n a : ℕ) → sum_of f xs ≡ Some n → f s ≡ Some a → sum_of f
    (xs ++ s ∷ []) ≡ Some (n + a)
sum_more f [] s n a e g =
    let z : 0 ≡ n = some_same 0 n e in ap (λ o. add_counts o (Some 0)) g ∙ ap Some (omega (arith, z))
sum_more f (x ∷ xs) s n a e g =
    let p = sum_parts (f x) (sum_of f xs) n e in
    let r = sum_more f xs s p.other a p.other_is g in
    ap (λ o. add_counts o (sum_of f (xs ++ s ∷ []))) p.one_is ∙ ap (add_counts (Some p.one)) r ∙ ap Some (omega (arith, p.sum))

-- with one symbol more a node counts that symbol's count more, up to the greatest number
pub node_more : (f : ℕ → Option ℕ) (xs : List ℕ) (s c a d : ℕ) → node_count f xs ≡ Some c → f s ≡ Some a →
    d ≡ min (c + a) (2 ^ 64 - 1) → node_count f (xs ++ s ∷ []) ≡ Some d
node_more f xs s c a d e g h =
    let p = node_parts f xs c e in
    node_from f (xs ++ s ∷ []) (p.sum + a) (sum_more f xs s p.sum a p.is g) ∙ ap Some (omega (arith, p.count, h))

-- a symbol without count leaves no sum
pub sum_missing : (f : ℕ → Option ℕ) (ss : List ℕ) (s n : ℕ) → Contains ss s → f s ≡ None → sum_of f ss ≡ Some n → ⊥
sum_missing f [] s n c g e = omega (arith, c.1)
sum_missing f (x ∷ ss) s n c g e =
    go (λ m d. sum_missing f ss s m d g) (contains_split x s ss c) (sum_parts (f x) (sum_of f ss) n e)
  where
    go : ((m : ℕ) → Contains ss s → sum_of f ss ≡ Some m → ⊥) → (x ≡ s) ⊎ Contains ss s → IsSumOf (f x) (sum_of f ss)
        n → ⊥
    go rest (inl h) p = none_some p.one (sym g ∙ ap f (sym h) ∙ p.one_is)
    go rest (inr d) p = rest p.other d p.other_is

-- a node over symbols of which one has no count has none
pub node_missing : (f : ℕ → Option ℕ) (ss : List ℕ) (s : ℕ) → Contains ss s → f s ≡ None → node_count f ss ≡ None
node_missing f ss s c g = go (node_count f ss) refl
  where
    go : (o : Option ℕ) → node_count f ss ≡ o → node_count f ss ≡ None
    go None h = h
    go (Some n) h = let p = node_parts f ss n h in absurd (sum_missing f ss s p.sum c g p.is)

-- counts that differ at one symbol have the same sum where that isn't
pub sum_other : (f g : ℕ → Option ℕ) (s : ℕ) → ((t : ℕ) → (t ≡ s → ⊥) → g t ≡ f t) → (ss : List ℕ) →
    (Contains ss s → ⊥) →
    sum_of g ss ≡ sum_of f ss
sum_other f g s same [] out = refl
sum_other f g s same (x ∷ ss) out =
    ap (λ o. add_counts o (sum_of g ss)) (same x (λ e. out (0, omega arith, e)))
    ∙ ap (add_counts (f x)) (sum_other f g s same ss (λ c. out (contains_later x s ss c)))

-- where counts change only at a symbol that isn't among those of a node, the node counts the same
pub node_other : (f g : ℕ → Option ℕ) (s : ℕ) → ((t : ℕ) → (t ≡ s → ⊥) → g t ≡ f t) → (ss : List ℕ) →
    (Contains ss s → ⊥) →
    node_count g ss ≡ node_count f ss
node_other f g s same ss out =
    ap (option_map (λ n. capped_count (suc n))) (sum_other f g s same ss out)

-- a symbol's count by its entry
pub name_count : (leaves : Bool) (table : List (Option LeastTree)) (s : ℕ) → s < length table →
    count_of leaves table s ≡ entry_count (slice_index_or table s None)
name_count leaves table s h = go (nat_lt s (length table)) (lt-ltb s (length table) h)
  where
    go : (b : Bool) → b ≡ true →
        (if b then entry_count (slice_index_or table s None) else (if leaves then Some 1 else None)) ≡ entry_count
        (slice_index_or table s None)
    go true e = refl
    go false e = let w : ⊥ = cc in absurd w

-- past the table stand terminals: each counts one where leaves are let, else it has no count
pub leaf_count : (leaves : Bool) (table : List (Option LeastTree)) (s : ℕ) → length table ≤ s →
    count_of leaves table s ≡ (if leaves then Some 1 else None)
leaf_count leaves table s h = go (nat_lt s (length table)) refl
  where
    go : (b : Bool) → nat_lt s (length table) ≡ b →
        (if b then entry_count (slice_index_or table s None) else (if leaves then Some 1 else None)) ≡ (if leaves then Some 1 else None)
    go true e = absurd (omega (arith, ltb-true s (length table) e, h))
    go false e = refl

-- one entry changed
pub entry_there : (table : List (Option LeastTree)) (s : ℕ) (e : Option LeastTree) → s < length table → slice_index_or
    (set table s e) s None ≡ e
entry_there [] s e h = absurd (omega arith)
entry_there (x ∷ table) zero e h = refl
entry_there (x ∷ table) (suc s) e h = entry_there table s e (omega arith)

-- where one entry of a table is set, those at other places stay
pub entry_other : (table : List (Option LeastTree)) (s t : ℕ) (e : Option LeastTree) → (t ≡ s → ⊥) →
    slice_index_or (set table s e) t None ≡ slice_index_or table t None
entry_other [] s t e h = refl
entry_other (x ∷ table) zero zero e h = absurd (h refl)
entry_other (x ∷ table) zero (suc t) e h = refl
entry_other (x ∷ table) (suc s) zero e h = refl
entry_other (x ∷ table) (suc s) (suc t) e h = entry_other table s t e (λ k. h (ap suc k))

-- where one entry of a table is set, the table stays as long as it was
pub table_long : (table : List (Option LeastTree)) (s : ℕ) (e : Option LeastTree) → length (set table s e) ≡ length table
table_long [] s e = refl
table_long (x ∷ table) zero e = refl
table_long (x ∷ table) (suc s) e = ap suc (table_long table s e)

-- where a tree is set for a symbol in the table, the symbol's count is that of the tree
pub count_there : (leaves : Bool) (table : List (Option LeastTree)) (s : ℕ) (tree : LeastTree) → s < length table →
    count_of leaves (set table s (Some tree)) s ≡ Some tree.count
count_there leaves table s tree h =
    name_count leaves (set table s (Some tree)) s (omega (arith, table_long table s (Some tree)))
    ∙ ap entry_count (entry_there table s (Some tree) h)

-- where one entry of a table is set, the counts of all other symbols stay
pub count_other : (leaves : Bool) (table : List (Option LeastTree)) (s : ℕ) (e : Option LeastTree) (t : ℕ) → (t ≡ s → ⊥) →
    count_of leaves (set table s e) t ≡ count_of leaves table t
count_other leaves table s e t h = go (cases_lt t (length table))
  where
    go : (t < length table) ⊎ (length table ≤ t) → count_of leaves (set table s e) t ≡ count_of leaves table t
    go (inl l) =
        name_count leaves (set table s e) t (omega (arith, table_long table s e, l)) ∙ ap entry_count (entry_other table s t e h)
        ∙ sym (name_count leaves table t l)
    go (inr l) =
        leaf_count leaves (set table s e) t (omega (arith, table_long table s e, l)) ∙ sym (leaf_count leaves table t l)

-- the table has less left to fall
pub weight_falls : (table : List (Option LeastTree)) (s : ℕ) (tree : LeastTree) → s < length table → tree.count < 2 ^ 64 →
    IsMore (slice_index_or table s None) tree.count → weight (set table s (Some tree)) < weight table
weight_falls [] s tree h small more = absurd (omega arith)
weight_falls (None ∷ table) zero tree h small more = omega arith
weight_falls (Some old ∷ table) zero tree h small more = omega arith
weight_falls (None ∷ table) (suc s) tree h small more = let r = weight_falls table s tree (omega arith) small more in omega arith
weight_falls (Some old ∷ table) (suc s) tree h small more = let r = weight_falls table s tree (omega arith) small more in omega arith

-- what is read inside a list is in it
pub read_there : (xs : List ℕ) (i : ℕ) → i < length xs → Contains xs (get_or xs i 0)
read_there [] i h = absurd (omega arith)
read_there (x ∷ xs) zero h = contains_here x xs
read_there (x ∷ xs) (suc i) h = contains_later x (get_or xs i 0) xs (read_there xs i (omega arith))
