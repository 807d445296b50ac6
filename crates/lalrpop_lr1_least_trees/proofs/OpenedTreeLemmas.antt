-- Least trees that are opened root by root: for their moves.
use Rattle.std.proofs.Common.{◌≡◌, ◌∙◌, ℕ, zero, suc, ◌+◌, ◌-◌, ◌^◌, ◌<◌, ◌≤◌, Bool, true}
use Rattle.std.proofs.Common.{false, List, [], ◌∷◌, ◌++◌, length}
use Rattle.std.proofs.Common.{refl, sym, ap, subst, arith, append_assoc, append-nil, length-append, Option, Some, None, slice_get}
use Rattle.std.proofs.Common.{◌⊎◌, inl, inr}
use Rattle.std.specs.Prelude.{MatchOption, if◌then◌else◌, reverse, slice_index_or}
use Rattle.std.proofs.lemmas.Bool.{cases_lt}
use Rattle.std.proofs.lemmas.List.{length-reverse, reverse-append}
use Rattle.std.proofs.lemmas.Option.{slice_get-get_or}
use Rattle.lalrpop_lr1_theory.proofs.StepLemmas.{some_same}
use Rattle.lalrpop_lr1_least_trees.specs.declared.least_counts.counts.LeastTree.{LeastTree}
use Rattle.lalrpop_lr1_least_trees.specs.declared.least_counts.rule.NumberMove.{NumberMove}
use Rattle.lalrpop_lr1_least_trees.specs.declared.least_counts.rule.NumberMove.TheVariants.{Shift, Reduce}
use Rattle.lalrpop_lr1_least_trees.specs.LeastTrees.{AreLeast, BuildLeast, IsLeast, IsLeastTree, capped_count}
use Rattle.lalrpop_lr1_least_trees.specs.NumberedTrees.{Builds, NamesAreBelow, NumberRule, nothing, reduces, shifts}
use Rattle.lalrpop_lr1_least_trees.specs.Openings.{AreOpening, HaveRules, IsOpened, IsOpenedBy, entry_at}
use Rattle.lalrpop_lr1_least_trees.specs.Searches.{add_counts, count_of, entry_count, node_count, sum_of}
use Rattle.lalrpop_lr1_least_trees.proofs.BuildLemmas.{AreHad, IsSumOf, builds-append, builds-split, had_sum, sum_parts}
use Rattle.lalrpop_lr1_least_trees.proofs.CountLemmas.{leaf_count, name_count, node_from}
use Rattle.lalrpop_lr1_least_trees.proofs.SearchLemmas.{had}
use Rattle.lalrpop_lr1_theory.proofs.ListLemmas.{none_some}

-- where nothing was popped, nothing is left
pub none_case : (o : Option ℕ) (P : Type 0) (Q : ℕ → Type 0) → MatchOption o P Q → ((x : ℕ) → o ≡ Some x → ⊥) → P
none_case None P Q m none = m
none_case (Some x) P Q m none = absurd (none x refl)

-- a list of numbers whose length is zero is empty
pub none_left : (xs : List ℕ) → length xs ≡ 0 → xs ≡ []
none_left [] e = refl
none_left (x ∷ xs) e = absurd (omega arith)

-- what symbols count, those in front and those behind
add-assoc : (a b c : Option ℕ) → add_counts (add_counts a b) c ≡ add_counts a (add_counts b c)
add-assoc None b c = refl
add-assoc (Some x) None c = refl
add-assoc (Some x) (Some y) None = refl
add-assoc (Some x) (Some y) (Some z) = ap Some (omega arith)

add_nothing : (a : Option ℕ) → add_counts (Some 0) a ≡ a
add_nothing None = refl
add_nothing (Some x) = ap Some (omega arith)

pub sum-append : (f : ℕ → Option ℕ) (xs ys : List ℕ) → sum_of f (xs ++ ys) ≡ add_counts (sum_of f xs) (sum_of f ys)
sum-append f [] ys = sym (add_nothing (sum_of f ys))
sum-append f (x ∷ xs) ys = ap (add_counts (f x)) (sum-append f xs ys) ∙ sym (add-assoc (f x) (sum_of f xs) (sum_of f ys))

-- what builds one tree is a shift, or ends by a reduction
module _ (rules : List NumberRule) (names : ℕ) (leaves : Bool) where
  leaf_or_name : (s : ℕ) {us : List ℕ} {ms : List NumberMove} → Builds rules names leaves us ms → us ≡ s ∷ [] →
      NamesAreBelow names rules →
      (s < names) ⊎ ((leaves ≡ true) × (1 ≤ length ms))
  leaf_or_name s nothing e below = let w : ⊥ = cc in absurd w
  leaf_or_name s (shifts t l h b) e below = inr (l, omega arith)
  leaf_or_name s (reduces r rule at b c) e below =
      let same : rule.left ≡ s = cc in inl (omega (arith, below r rule at, same))

  module _ (table : List (Option LeastTree)) (below : NamesAreBelow names rules) (are : AreLeast rules names leaves table) where
    abbrev f : ℕ → Option ℕ
    f = count_of leaves table

    entry_there : (s : ℕ) (o : Option LeastTree) → s < length table → entry_at table s ≡ o → slice_get table s ≡ Some o
    entry_there s o h e = slice_get-get_or table s None h ∙ ap Some e

    -- a table's entry is inside
    entry_within : (s : ℕ) (tree : LeastTree) → entry_at table s ≡ Some tree → s < length table
    entry_within s tree e = go table s e
      where
        go : (xs : List (Option LeastTree)) (k : ℕ) → slice_index_or xs k None ≡ Some tree → k < length xs
        go [] k h = absurd (none_some tree h)
        go (x ∷ xs) zero h = omega arith
        go (x ∷ xs) (suc k) h = omega (arith, go xs k h)

    pub least_at : (s : ℕ) (tree : LeastTree) → entry_at table s ≡ Some tree → IsLeastTree rules names leaves s tree
    least_at s tree e = are.least s (Some tree) (entry_there s (Some tree) (entry_within s tree e) e)

    pub have_rules : HaveRules rules table
    have_rules s tree e = let b = (least_at s tree e).built in (b.rule, b.at)

    all_had : AreHad rules names leaves f
    all_had = had rules names leaves table are.count (λ s tree at. (least_of s tree at).built)
      where
        least_of : (s : ℕ) (tree : LeastTree) → slice_get table s ≡ Some (Some tree) → IsLeastTree rules names leaves s tree
        least_of s tree at = are.least s (Some tree) at

    -- one symbol counts no more than what builds a tree of it
    one_below : (s : ℕ) (ms : List NumberMove) → Builds rules names leaves (s ∷ []) ms → (c : ℕ) × (f s ≡ Some c) ×
        (c ≤ length ms)
    one_below s ms b = go (cases_lt s (length table))
      where
        name : (o : Option LeastTree) → s < length table → entry_at table s ≡ o → IsLeast rules names leaves s o →
            (c : ℕ) × (f s ≡ Some c) × (c ≤ length ms)
        name None h e l = absurd (l ms b)
        name (Some tree) h e l = (tree.count, name_count leaves table s h ∙ ap entry_count e, l.least ms b)

        leaf : length table ≤ s → (s < names) ⊎ ((leaves ≡ true) × (1 ≤ length ms)) → (c : ℕ) × (f s ≡ Some c) ×
            (c ≤ length ms)
        leaf h (inl l) = absurd (omega (arith, h, l, are.count))
        leaf h (inr l) = (1, leaf_count leaves table s h ∙ ap (λ b. if b then Some 1 else None) l.0, l.1)

        go : (s < length table) ⊎ (length table ≤ s) → (c : ℕ) × (f s ≡ Some c) × (c ≤ length ms)
        go (inl h) = name (entry_at table s) h refl (are.least s (entry_at table s) (entry_there s (entry_at table s) h refl))
        go (inr h) = leaf h (leaf_or_name s b refl below)

    pub sum_below : (ss : List ℕ) (ms : List NumberMove) → Builds rules names leaves ss ms →
        (n : ℕ) × (sum_of f ss ≡ Some n) × (n ≤ length ms)
    sum_below [] ms b = (0, refl, omega arith)
    sum_below (s ∷ ss) ms b =
        let p = builds-split rules names leaves b (s ∷ []) ss refl in
        let one = one_below s p.front p.front_builds in
        let rest = sum_below ss p.back p.back_builds in (
          one.0 + rest.0,
          ap (λ o. add_counts o (sum_of f ss)) one.1 ∙ ap (add_counts (Some one.0)) rest.1,
          omega (arith, one.2, rest.2, ap length p.moves, length-append p.front p.back),
        )

    -- symbols without a count together have no trees together
    pub never_built : (ss : List ℕ) → node_count f ss ≡ None → (ms : List NumberMove) → Builds rules names leaves ss ms → ⊥
    never_built ss e ms b =
        let n = sum_below ss ms b in none_some (capped_count (suc n.0)) (sym e ∙ node_from f ss n.0 n.1)

    -- a name's count is one more than those on the right side of its rule, where it isn't the greatest number
    pub choice_sum : (s : ℕ) (tree : LeastTree) (rule : NumberRule) → entry_at table s ≡ Some tree → slice_get rules tree.rule ≡
        Some rule →
        tree.count < 2 ^ 64 - 1 → (n : ℕ) × (sum_of f rule.right ≡ Some n) × (suc n ≡ tree.count)
    choice_sum s tree rule e at small =
        let l = least_at s tree e in
        let b = l.built in
        let same : b.rule ≡ rule = some_same b.rule rule (sym b.at ∙ at) in
        let right : Builds rules names leaves rule.right b.moves =
        subst (λ (x : NumberRule). Builds rules names leaves x.right b.moves) same b.builds in
        let left : rule.left ≡ s = ap (λ (x : NumberRule). x.left) (sym same) ∙ b.left in
        let n = sum_below rule.right b.moves right in
        let h = had_sum rules names leaves f all_had rule.right n.0 n.1 in
        let whole : Builds rules names leaves (s ∷ []) (h.0 ++ Reduce tree.rule ∷ []) =
        subst (λ k. Builds rules names leaves (k ∷ []) (h.0 ++ Reduce tree.rule ∷ [])) left (reduces tree.rule rule at h.1 nothing)
        in (
          n.0,
          n.1,
          omega (
            arith,
            l.least (h.0 ++ Reduce tree.rule ∷ []) whole,
            n.2,
            h.2,
            b.count,
            small,
            length-append h.0 (Reduce tree.rule ∷ []),
          ),
        )

    module _ (symbols : List ℕ) (count : ℕ) where
      pub opening_starts : sum_of f symbols ≡ Some count → AreOpening rules names leaves table symbols count symbols []
      opening_starts e = record {
        left = count;
        is = e;
        count_is = omega arith;
        builds = λ rest b. subst (Builds rules names leaves symbols) (sym (append-nil rest)) b;
      }

      -- at the end the moves are those of least trees
      pub opening_ends : sum_of f symbols ≡ Some count → (moves : List NumberMove) →
          AreOpening rules names leaves table symbols count [] moves → BuildLeast rules names leaves symbols (reverse moves)
      opening_ends e moves o = record {
        builds = o.builds [] nothing;
        least = λ ms b.
            let n = sum_below symbols ms b in
            let same = some_same count n.0 (sym e ∙ n.1) in
            let none = some_same 0 o.left o.is in
            omega (arith, n.2, same, none, o.count_is, length-reverse moves);
      }

      -- one root more
      pub record IsStep (new : List ℕ) (more : List NumberMove) (was : ℕ) : Type 0 where
        pub next : AreOpening rules names leaves table symbols count new more
        pub fell : next.left < was

      module _ (old front new : List ℕ) (symbol : ℕ) (moves more : List NumberMove) (split : old ≡ front ++ symbol ∷ [])
          (o : AreOpening rules names leaves table symbols count old moves) where
        -- the symbol's count and those in front of it
        parts : IsSumOf (sum_of f front) (add_counts (f symbol) (Some 0)) o.left
        parts =
            sum_parts (sum_of f front) (add_counts (f symbol) (Some 0)) o.left
            (sym (ap (sum_of f) split ∙ sum-append f front (symbol ∷ [])) ∙ o.is)

        own : IsSumOf (f symbol) (Some 0) parts.other
        own = sum_parts (f symbol) (Some 0) parts.other parts.other_is

        together : o.left ≡ parts.one + own.one
        together = let z = some_same 0 own.other own.other_is in omega (arith, parts.sum, own.sum, z)

        -- what builds the tree of the symbol continues what builds those in front
        continued : (last : NumberMove) (front_moves own_moves : List NumberMove) → more ≡ moves ++ last ∷ [] →
            Builds rules names leaves front front_moves → Builds rules names leaves (symbol ∷ []) (own_moves ++ last ∷ []) →
            Builds rules names leaves symbols ((front_moves ++ own_moves) ++ reverse more)
        continued last front_moves own_moves pushed b c =
            let whole : Builds rules names leaves old (front_moves ++ (own_moves ++ last ∷ [])) =
            subst (λ l. Builds rules names leaves l (front_moves ++ (own_moves ++ last ∷ []))) (sym split)
            (builds-append rules names leaves b (symbol ∷ []) (own_moves ++ last ∷ []) c) in
            let back : reverse more ≡ last ∷ reverse moves = ap reverse pushed ∙ reverse-append moves (last ∷ []) in
            subst (Builds rules names leaves symbols)
            (ap (λ l. l ++ reverse moves) (sym (append_assoc front_moves own_moves (last ∷ [])))
            ∙ append_assoc (front_moves ++ own_moves) (last ∷ []) (reverse moves)
            ∙ ap (λ l. (front_moves ++ own_moves) ++ l) (sym back)) (o.builds (front_moves ++ (own_moves ++ last ∷ [])) whole)

        leaf_step : (t : ℕ) → IsOpened rules table symbol front (Shift t) new → more ≡ moves ++ Shift t ∷ [] → IsStep new more
            o.left
        leaf_step t opened pushed = go (cases_lt symbol (length table))
          where
            leaf : (b : Bool) → leaves ≡ b → length table ≤ symbol → (if b then Some 1 else None) ≡ Some own.one → IsStep
                new more o.left
            leaf false l h e = absurd (none_some own.one e)
            leaf true l h e =
                let one = some_same 1 own.one e in
                let shift : Builds rules names leaves (symbol ∷ []) ([] ++ Shift t ∷ []) =
                subst (λ s. Builds rules names leaves (symbol ∷ []) (Shift s ∷ [])) (sym opened.0)
                (shifts symbol l (omega (arith, h, are.count)) nothing) in
                record {
                  next = record {
                    left = parts.one;
                    is = ap (sum_of f) opened.2 ∙ parts.one_is;
                    count_is = omega (arith, together, one, o.count_is, ap length pushed, length-append moves (Shift t ∷ []));
                    builds = λ rest b.
                        subst (λ l. Builds rules names leaves symbols (l ++ reverse more)) (append-nil rest)
                        (continued (Shift t) rest [] pushed (subst (λ l. Builds rules names leaves l rest) opened.2 b) shift);
                  };
                  fell = omega (arith, together, one);
                }

            go : (symbol < length table) ⊎ (length table ≤ symbol) → IsStep new more o.left
            go (inl h) =
                absurd (none_some own.one (sym (name_count leaves table symbol h ∙ ap entry_count opened.1) ∙ own.one_is))
            go (inr h) = leaf leaves refl h (sym (leaf_count leaves table symbol h) ∙ own.one_is)

        name_step : (r : ℕ) → IsOpenedBy rules table symbol r front new → more ≡ moves ++ Reduce r ∷ [] → count < 2 ^ 64 - 1 →
            IsStep new more o.left
        name_step r opened pushed small =
            let inside = entry_within symbol opened.tree opened.entry in
            let counts = some_same opened.tree.count own.one
            (sym (name_count leaves table symbol inside ∙ ap entry_count opened.entry) ∙ own.one_is) in
            let at : slice_get rules opened.tree.rule ≡ Some opened.rule = ap (slice_get rules) opened.is ∙ opened.at in
            let n = choice_sum symbol opened.tree opened.rule opened.entry at (omega (arith, counts, together, o.count_is, small)) in
            let built = (least_at symbol opened.tree opened.entry).built in
            let left : opened.rule.left ≡ symbol =
            ap (λ (x : NumberRule). x.left) (some_same opened.rule built.rule (sym at ∙ built.at)) ∙ built.left in
            record {
              next = record {
                left = parts.one + n.0;
                is = ap (sum_of f) opened.opened ∙ sum-append f front opened.rule.right
                    ∙ ap (λ o. add_counts o (sum_of f opened.rule.right)) parts.one_is ∙ ap (add_counts (Some parts.one)) n.1;
                count_is = omega (arith, together, counts, n.2, o.count_is, ap length pushed, length-append moves (Reduce r ∷ []));
                builds = λ rest b.
                    let p = builds-split rules names leaves (subst (λ l. Builds rules names leaves l rest) opened.opened b) front
                    opened.rule.right refl in
                    let own_builds : Builds rules names leaves (symbol ∷ []) (p.back ++ Reduce r ∷ []) =
                    subst (λ s. Builds rules names leaves (s ∷ []) (p.back ++ Reduce r ∷ [])) left
                    (reduces r opened.rule opened.at p.back_builds nothing) in
                    subst (λ l. Builds rules names leaves symbols (l ++ reverse more)) (sym p.moves)
                    (continued (Reduce r) p.front p.back pushed p.front_builds own_builds);
              };
              fell = omega (arith, together, counts, n.2);
            }

        pub opening_step : (last : NumberMove) → IsOpened rules table symbol front last new → more ≡ moves ++ last ∷ [] →
            count < 2 ^ 64 - 1 → IsStep new more o.left
        opening_step (Shift t) opened pushed small = leaf_step t opened pushed
        opening_step (Reduce r) opened pushed small = name_step r opened pushed small
