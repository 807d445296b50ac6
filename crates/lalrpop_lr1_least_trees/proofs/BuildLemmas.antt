-- Moves that build trees, joined and taken apart, and counts of symbols beside them: for least trees.
use Rattle.std.proofs.Common.{◌≡◌, ◌∙◌, ℕ, suc, ◌+◌, ◌≤◌, Bool, true, List, [], ◌∷◌, ◌++◌, length}
use Rattle.std.proofs.Common.{refl, sym, ap, subst, arith, append_assoc, length-append, Option, Some, None, slice_get}
use Rattle.lalrpop_lr1_theory.proofs.StepLemmas.{some_same}
use Rattle.lalrpop_lr1_least_trees.specs.declared.least_counts.rule.NumberMove.{NumberMove}
use Rattle.lalrpop_lr1_least_trees.specs.declared.least_counts.rule.NumberMove.TheVariants.{Shift, Reduce}
use Rattle.lalrpop_lr1_least_trees.specs.NumberedTrees.{Builds, NumberRule, nothing, reduces, shifts}
use Rattle.lalrpop_lr1_least_trees.specs.LeastTrees.{capped_count}
use Rattle.lalrpop_lr1_least_trees.specs.Searches.{add_counts, sum_of}

-- a sum of counts has its parts
pub record IsSumOf (a b : Option ℕ) (n : ℕ) : Type 0 where
  pub one : ℕ
  pub other : ℕ
  pub one_is : a ≡ Some one
  pub other_is : b ≡ Some other
  pub sum : n ≡ one + other

-- where two counts have a sum, both are there, and it is their sum
pub sum_parts : (a b : Option ℕ) (n : ℕ) → add_counts a b ≡ Some n → IsSumOf a b n
sum_parts None b n e = let z : ⊥ = cc in absurd z
sum_parts (Some x) None n e = let z : ⊥ = cc in absurd z
sum_parts (Some x) (Some y) n e =
    record { one = x; other = y; one_is = refl; other_is = refl; sum = sym (some_same (x + y) n e) }

module _ (rules : List NumberRule) (names : ℕ) (leaves : Bool) where
  abbrev B : List ℕ → List NumberMove → Type 0
  B = Builds rules names leaves

  pub builds-append : {ss : List ℕ} {ms : List NumberMove} → B ss ms → (ts : List ℕ) (ns : List NumberMove) → B ts ns →
      B (ss ++ ts) (ms ++ ns)
  builds-append nothing ts ns b = b
  builds-append (shifts s {ss = ss} {ms = ms} l h a) ts ns b = shifts s l h (builds-append a ts ns b)
  builds-append (reduces r rule {ss = ss} {ms = ms} {ns = ks} at inner a) ts ns b =
      subst (B (rule.left ∷ ss ++ ts)) (sym (append_assoc ms (Reduce r ∷ ks) ns))
      (reduces r rule at inner (builds-append a ts ns b))

  -- what builds trees with some symbols in front of others builds both
  pub record IsSplit (ss ts : List ℕ) (ms : List NumberMove) : Type 0 where
    pub front : List NumberMove
    pub back : List NumberMove
    pub moves : ms ≡ front ++ back
    pub front_builds : B ss front
    pub back_builds : B ts back

  pub builds-split : {us : List ℕ} {ms : List NumberMove} → B us ms → (ss ts : List ℕ) → us ≡ ss ++ ts → IsSplit ss ts ms
  builds-split {us = us} {ms = ms} b [] ts e =
      record { front = []; back = ms; moves = refl; front_builds = nothing; back_builds = subst (λ l. B l ms) e b }
  builds-split nothing (x ∷ ss) ts e = let z : ⊥ = cc in absurd z
  builds-split (shifts s {ss = us} {ms = ms} l h a) (x ∷ ss) ts e =
      let same : s ≡ x = cc in
      let rest : us ≡ ss ++ ts = cc in
      let r = builds-split a ss ts rest in
      record {
        front = Shift s ∷ r.front;
        back = r.back;
        moves = ap (λ l. Shift s ∷ l) r.moves;
        front_builds = subst (λ y. B (y ∷ ss) (Shift s ∷ r.front)) same (shifts s l h r.front_builds);
        back_builds = r.back_builds;
      }
  builds-split (reduces k rule {ss = us} {ms = ms} {ns = ns} at inner a) (x ∷ ss) ts e =
      let same : rule.left ≡ x = cc in
      let rest : us ≡ ss ++ ts = cc in
      let r = builds-split a ss ts rest in
      record {
        front = ms ++ Reduce k ∷ r.front;
        back = r.back;
        moves = ap (λ l. ms ++ Reduce k ∷ l) r.moves ∙ sym (append_assoc ms (Reduce k ∷ r.front) r.back);
        front_builds = subst (λ y. B (y ∷ ss) (ms ++ Reduce k ∷ r.front)) same (reduces k rule at inner r.front_builds);
        back_builds = r.back_builds;
      }

  module _ (f : ℕ → Option ℕ) where
    -- counts that no rule makes smaller, with one for each terminal
    pub record IsClosed : Type 0 where
      pub terminal : (s : ℕ) → leaves ≡ true → names ≤ s → f s ≡ Some 1
      pub closed : (r : ℕ) (rule : NumberRule) (n : ℕ) → slice_get rules r ≡ Some rule → sum_of f rule.right ≡ Some n →
          (c : ℕ) × (f rule.left ≡ Some c) × (c ≤ suc n)

    -- are not above what any trees have
    pub closed_below : IsClosed → {ss : List ℕ} {ms : List NumberMove} → B ss ms → (n : ℕ) × (sum_of f ss ≡ Some n) ×
        (n ≤ length ms)
    closed_below c nothing = (0, refl, omega arith)
    closed_below c (shifts s {ss = ss} {ms = ms} l h a) =
        let r = closed_below c a in
        (1 + r.0, ap (λ x. add_counts x (sum_of f ss)) (c.terminal s l h) ∙ ap (add_counts (Some 1)) r.1, omega (arith, r.2))
    closed_below c (reduces k rule {ss = ss} {ms = ms} {ns = ns} at inner a) =
        let i = closed_below c inner in
        let r = closed_below c a in
        let d = c.closed k rule i.0 at i.1 in (
          d.0 + r.0,
          ap (λ x. add_counts x (sum_of f ss)) d.1 ∙ ap (add_counts (Some d.0)) r.1,
          omega (arith, i.2, r.2, d.2, length-append ms (Reduce k ∷ ns)),
        )

    -- counts each of which some tree has
    abbrev pub AreHad : Type 0
    AreHad = (s c : ℕ) → f s ≡ Some c → (ms : List NumberMove) × B (s ∷ []) ms × (capped_count (length ms) ≡ c)

    pub had_sum : AreHad → (ss : List ℕ) (n : ℕ) → sum_of f ss ≡ Some n →
        (ms : List NumberMove) × B ss ms × (capped_count (length ms) ≡ capped_count n)
    had_sum had [] n e = ([], nothing, ap capped_count (some_same 0 n e))
    had_sum had (s ∷ ss) n e =
        let p = sum_parts (f s) (sum_of f ss) n e in
        let one = had s p.one p.one_is in
        let rest = had_sum had ss p.other p.other_is in (
          one.0 ++ rest.0,
          builds-append one.1 ss rest.0 rest.1,
          omega (arith, length-append one.0 rest.0, one.2, rest.2, p.sum),
        )
