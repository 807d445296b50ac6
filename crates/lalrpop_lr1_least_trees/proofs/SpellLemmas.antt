-- Moves that build trees by rules over numbers are those of trees over the productions for which the rules stand, and the other way
-- round: for least trees of a grammar.
use Rattle.std.proofs.Common.{◌≡◌, ◌∙◌, ◌⊎◌, ℕ, zero, suc, ◌<◌, ◌≤◌, Bool, true, false, List, []}
use Rattle.std.proofs.Common.{◌∷◌, ◌++◌, length}
use Rattle.std.proofs.Common.{refl, sym, ap, subst, inl, inr, arith, Contains, Option, Some, slice_get}
use Rattle.std.proofs.lemmas.Option.{slice_get_within}
use Rattle.lalrpop_grammar_symbols.specs.Symbols.{Text, Terminal}
use Rattle.lalrpop_lr1_theory.specs.Productions.{Production, Symbol, nonterminal, terminal}
use Rattle.lalrpop_lr1_theory.specs.Trees.{AreOver, Forest, Move, leaf, moves, node, nodes, none, reduce, roots, shift, yield}
use Rattle.lalrpop_lr1_theory.proofs.ListLemmas.{contains_get, get_contains}
use Rattle.lalrpop_lr1_theory.proofs.StepLemmas.{some_same}
use Rattle.lalrpop_lr1_theory.proofs.TreeLemmas.{length-moves}
use Rattle.lalrpop_lr1_first.specs.Numbers.{SpellsSymbols}
use Rattle.lalrpop_lr1_least_trees.specs.declared.least_counts.rule.NumberMove.{NumberMove}
use Rattle.lalrpop_lr1_least_trees.specs.declared.least_counts.rule.NumberMove.TheVariants as numbered
use Rattle.lalrpop_lr1_least_trees.specs.NumberedTrees.{Builds, NumberRule, nothing, reduces, shifts}
use Rattle.lalrpop_lr1_least_trees.specs.MoveViews.{IsNumberedMove, SpellsMoves}
use Rattle.lalrpop_lr1_first.proofs.TableLemmas.{get_some}

-- the rules stand for the productions, each at its place; names are numbered below the count, each once, and terminals from it on
pub record StandFor (at : ℕ → Option Symbol) (names : ℕ) (rules : List NumberRule) (productions : List Production) : Type 0 where
  pub count : length rules ≡ length productions
  pub left : (r : ℕ) (rule : NumberRule) (p : Production) → slice_get rules r ≡ Some rule → slice_get productions r ≡ Some p →
      at rule.left ≡ Some (nonterminal p.left)
  pub right : (r : ℕ) (rule : NumberRule) (p : Production) → slice_get rules r ≡ Some rule → slice_get productions r ≡ Some p →
      SpellsSymbols at rule.right p.right
  pub name_below : (s : ℕ) (A : Text) → at s ≡ Some (nonterminal A) → s < names
  pub name_once : (s t : ℕ) (A : Text) → at s ≡ Some (nonterminal A) → at t ≡ Some (nonterminal A) → s ≡ t
  pub terminal_past : (s : ℕ) (t : Terminal) → at s ≡ Some (terminal t) → names ≤ s

module _ (at : ℕ → Option Symbol) (production_at : ℕ → Option Production) where
  abbrev Spells : List NumberMove → List Move → Type 0
  Spells = SpellsMoves at production_at

  pub spells-append : (ns : List NumberMove) (ms : List Move) (ks : List NumberMove) (ls : List Move) → Spells ns ms → Spells ks ls →
      Spells (ns ++ ks) (ms ++ ls)
  spells-append [] [] ks ls s t = t
  spells-append [] (m ∷ ms) ks ls s t = absurd s
  spells-append (n ∷ ns) [] ks ls s t = absurd s
  spells-append (n ∷ ns) (m ∷ ms) ks ls s t = (s.0, spells-append ns ms ks ls s.1 t)

  pub spells_long : (ns : List NumberMove) (ms : List Move) → Spells ns ms → length ns ≡ length ms
  spells_long [] [] s = refl
  spells_long [] (m ∷ ms) s = absurd s
  spells_long (n ∷ ns) [] s = absurd s
  spells_long (n ∷ ns) (m ∷ ms) s = ap suc (spells_long ns ms s.1)

  move_once : (n : NumberMove) (m k : Move) → IsNumberedMove at production_at n m → IsNumberedMove at production_at n k → m ≡ k
  move_once (numbered.Shift s) (shift t) (shift u) a b =
      let same : terminal t ≡ terminal u = some_same (terminal t) (terminal u) (sym a ∙ b) in cc
  move_once (numbered.Shift s) (shift t) (reduce q) a b = absurd b
  move_once (numbered.Shift s) (reduce p) k a b = absurd a
  move_once (numbered.Reduce r) (shift t) k a b = absurd a
  move_once (numbered.Reduce r) (reduce p) (shift u) a b = absurd b
  move_once (numbered.Reduce r) (reduce p) (reduce q) a b = ap reduce (some_same p q (sym a ∙ b))

  -- each of the numbers is some move's
  pub spelled_names : (ns : List NumberMove) (ms : List Move) → Spells ns ms → (k : ℕ) (n : NumberMove) → slice_get ns k ≡ Some
      n →
      (m : Move) × IsNumberedMove at production_at n m
  spelled_names [] ms s k n e = let w : ⊥ = cc in absurd w
  spelled_names (x ∷ ns) [] s k n e = absurd s
  spelled_names (x ∷ ns) (m ∷ ms) s zero n e = (m, subst (λ y. IsNumberedMove at production_at y m) (some_same x n e) s.0)
  spelled_names (x ∷ ns) (m ∷ ms) s (suc k) n e = spelled_names ns ms s.1 k n e

  -- numbers are those of one list of moves
  pub spells_once : (ns : List NumberMove) (ms ks : List Move) → Spells ns ms → Spells ns ks → ms ≡ ks
  spells_once [] [] [] s t = refl
  spells_once [] [] (k ∷ ks) s t = absurd t
  spells_once [] (m ∷ ms) ks s t = absurd s
  spells_once (n ∷ ns) [] ks s t = absurd s
  spells_once (n ∷ ns) (m ∷ ms) [] s t = absurd t
  spells_once (n ∷ ns) (m ∷ ms) (k ∷ ks) s t =
      let one = move_once n m k s.0 t.0 in
      let rest = spells_once ns ms ks s.1 t.1 in cc

module _ (at : ℕ → Option Symbol) (names : ℕ) (rules : List NumberRule) (productions : List Production)
    (stand : StandFor at names rules productions) (leaves : Bool) where
  abbrev G : Production → Type 0
  G = Contains productions

  -- trees over the productions, with these roots and moves
  pub record AreSpelled (ss : List Symbol) (ns : List NumberMove) : Type 0 where
    pub trees : Forest
    pub roots_are : roots trees ≡ ss
    pub over : AreOver G trees
    pub spelled : SpellsMoves at (slice_get productions) ns (moves trees)
    pub leafless : leaves ≡ false → yield trees ≡ []

  pub builds_trees : {xs : List ℕ} {ns : List NumberMove} → Builds rules names leaves xs ns → (ss : List Symbol) → SpellsSymbols
      at xs ss →
      AreSpelled ss ns
  builds_trees nothing [] sp = record { trees = none; roots_are = refl; over = tt; spelled = tt; leafless = λ e. refl }
  builds_trees nothing (y ∷ ys) sp = absurd sp
  builds_trees (shifts s l h b) [] sp = absurd sp
  builds_trees (shifts s {ss = xs} {ms = ns} l h b) (y ∷ ys) sp = go y sp.0 (builds_trees b ys sp.1)
    where
      go : (z : Symbol) → at s ≡ Some z → AreSpelled ys ns → AreSpelled (z ∷ ys) (numbered.Shift s ∷ ns)
      go (nonterminal A) e r = absurd (omega (arith, stand.name_below s A e, h))
      go (terminal t) e r = record {
        trees = leaf t r.trees;
        roots_are = ap (λ l. terminal t ∷ l) r.roots_are;
        over = r.over;
        spelled = (e, r.spelled);
        leafless = λ f. let both : true ≡ false = sym l ∙ f in let w : ⊥ = cc in absurd w;
      }
  builds_trees (reduces r rule at_rule inner b) [] sp = absurd sp
  builds_trees (reduces r rule {ss = xs} {ms = ms} {ns = ns} at_rule inner b) (y ∷ ys) sp =
      let p = get_some productions r (omega (arith, slice_get_within rules r rule at_rule, stand.count)) in
      let left = stand.left r rule p.0 at_rule p.1 in
      let same : nonterminal p.0.left ≡ y = some_same (nonterminal p.0.left) y (sym left ∙ sp.0) in
      let c = builds_trees inner p.0.right (stand.right r rule p.0 at_rule p.1) in
      let k = builds_trees b ys sp.1 in
      record {
        trees = node p.0 c.trees k.trees;
        roots_are = ap (λ l. nonterminal p.0.left ∷ l) k.roots_are ∙ ap (λ z. z ∷ ys) same;
        over = (get_contains productions r p.0 p.1, c.roots_are, c.over, k.over);
        spelled = spells-append at (slice_get productions) ms (moves c.trees) (numbered.Reduce r ∷ ns) (reduce p.0 ∷ moves k.trees)
            c.spelled
            (p.1, k.spelled);
        leafless = λ f. ap (λ l. l ++ yield k.trees) (c.leafless f) ∙ k.leafless f;
      }

  -- moves by numbers that are those of trees
  pub record AreBuilt (xs : List ℕ) (ts : Forest) : Type 0 where
    pub numbers : List NumberMove
    pub builds : Builds rules names leaves xs numbers
    pub spelled : SpellsMoves at (slice_get productions) numbers (moves ts)

  empty_parts : {X : Type 0} (xs ys : List X) → xs ++ ys ≡ [] → (xs ≡ []) × (ys ≡ [])
  empty_parts [] ys e = (refl, e)
  empty_parts (x ∷ xs) ys e = let w : ⊥ = cc in absurd w

  pub trees_built : (ts : Forest) → AreOver G ts → (leaves ≡ true) ⊎ (yield ts ≡ []) → (xs : List ℕ) → SpellsSymbols at xs
      (roots ts) →
      AreBuilt xs ts
  trees_built none over kind [] sp = record { numbers = []; builds = nothing; spelled = tt }
  trees_built none over kind (x ∷ xs) sp = absurd sp
  trees_built (leaf t ts) over kind [] sp = absurd sp
  trees_built (leaf t ts) over kind (x ∷ xs) sp = go kind (λ k. trees_built ts over k xs sp.1)
    where
      go : (leaves ≡ true) ⊎ (yield (leaf t ts) ≡ []) → ((leaves ≡ true) ⊎ (yield ts ≡ []) → AreBuilt xs ts) → AreBuilt
          (x ∷ xs) (leaf t ts)
      go (inr e) rest = let w : ⊥ = cc in absurd w
      go (inl l) rest =
          let r = rest (inl l) in
          record {
            numbers = numbered.Shift x ∷ r.numbers;
            builds = shifts x l (stand.terminal_past x t sp.0) r.builds;
            spelled = (sp.0, r.spelled);
          }
  trees_built (node p cs ts) over kind [] sp = absurd sp
  trees_built (node p cs ts) over kind (x ∷ xs) sp =
      let k = contains_get productions p over.0 in
      let rule = get_some rules k.0 (omega (arith, slice_get_within productions k.0 p k.1, stand.count)) in
      let same : x ≡ rule.0.left = stand.name_once x rule.0.left p.left sp.0 (stand.left k.0 rule.0 p rule.1 k.1) in
      let right : SpellsSymbols at rule.0.right (roots cs) =
      subst (SpellsSymbols at rule.0.right) (sym over.1) (stand.right k.0 rule.0 p rule.1 k.1) in
      let c = trees_built cs over.2 (first_kind kind) rule.0.right right in
      let r = trees_built ts over.3 (rest_kind kind) xs sp.1 in
      record {
        numbers = c.numbers ++ numbered.Reduce k.0 ∷ r.numbers;
        builds = subst (λ s. Builds rules names leaves (s ∷ xs) (c.numbers ++ numbered.Reduce k.0 ∷ r.numbers)) (sym same)
            (reduces k.0 rule.0 rule.1 c.builds r.builds);
        spelled = spells-append at (slice_get productions) c.numbers (moves cs) (numbered.Reduce k.0 ∷ r.numbers)
            (reduce p ∷ moves ts) c.spelled
            (k.1, r.spelled);
      }
    where
      first_kind : (leaves ≡ true) ⊎ (yield (node p cs ts) ≡ []) → (leaves ≡ true) ⊎ (yield cs ≡ [])
      first_kind (inl l) = inl l
      first_kind (inr e) = inr (empty_parts (yield cs) (yield ts) e).0

      rest_kind : (leaves ≡ true) ⊎ (yield (node p cs ts) ≡ []) → (leaves ≡ true) ⊎ (yield ts ≡ [])
      rest_kind (inl l) = inl l
      rest_kind (inr e) = inr (empty_parts (yield cs) (yield ts) e).1

  -- a tree has as many leaves and nodes as moves by number
  pub built_long : (ts : Forest) (ns : List NumberMove) → SpellsMoves at (slice_get productions) ns (moves ts) → length ns ≡ nodes ts
  built_long ts ns s = spells_long at (slice_get productions) ns (moves ts) s ∙ length-moves ts
