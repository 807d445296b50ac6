-- Valid moves: those at places in trees, and that an automaton without conflicts allows just them. For the laws on LR(1).
use Rattle.std.proofs.Common.{arith}
use Rattle.std.proofs.lemmas.Option.{slice_get_within}
use Rattle.std.proofs.Common.{List, [], ap, drop, length, refl, subst, sym, ◌++◌, ◌<◌, ◌∙◌, ◌∷◌, ◌≡◌}
use Rattle.std.proofs.Common.{ℕ}
use Rattle.lalrpop_grammar_symbols.specs.Symbols.{Text}
use Rattle.lalrpop_lr1_theory.specs.Productions.{Next, Production, Symbol, first}
use Rattle.lalrpop_lr1_theory.specs.Trees.{Forest, IsTreeOf, Move, moves, nodes, roots, yield, ◌and◌}
use Rattle.lalrpop_lr1_theory.specs.Places.{Way, lefts, plug, rights}
use Rattle.lalrpop_lr1_theory.specs.Automata.{IsLr1Automaton, Walk}
use Rattle.lalrpop_lr1_theory.specs.Runs.{Allows}
use Rattle.lalrpop_lr1_theory.specs.Answers.{IsLr1, IsValidMove}
use Rattle.lalrpop_lr1_theory.proofs.PlaceLemmas.{IsNext, Moment, forest-moment, next-moment, rest-moment}
use Rattle.lalrpop_lr1_theory.proofs.StepLemmas.{some_same}
use Rattle.lalrpop_lr1_theory.proofs.TreeLemmas.{length-moves}
use Rattle.lalrpop_lr1_theory.proofs.WalkLemmas.{allows-next, allows_one, walk_one}

-- a list without all of its symbols is empty
pub drop_all : (xs : List Symbol) → drop (length xs) xs ≡ []
drop_all [] = refl
drop_all (x ∷ xs) = drop_all xs

-- a place in a tree makes its next move valid
pub valid_at : (G : Production → Type 0) (s : Text) (c : Way) (l r : Forest) (m : Move) (f : Forest) (x : Next) → IsNext c r m →
    IsTreeOf G s (plug c (l and r)) → lefts c and l ≡ f → first (yield (r and rights c)) ≡ x → IsValidMove G s f x m
valid_at G s c l r m f x n t e h =
    let k = nodes (lefts c and l) in
    let mo : Moment (plug c (l and r)) k = record { way = c; done = l; rest = r; move = m; whole_is = refl; count = refl; next = n } in
    let fo = forest-moment (plug c (l and r)) k mo in
    record {
      tree = plug c (l and r);
      count = k;
      left = yield (r and rights c);
      is_tree = t;
      forest_is = fo ∙ e;
      move_is = next-moment (plug c (l and r)) k mo;
      leaves = rest-moment (plug c (l and r)) k mo ∙ ap (λ v. yield v ++ yield (r and rights c)) (fo ∙ e);
      next = h;
    }

module _ (G : Production → Type 0) (s : Text) (Item : ℕ → Production → ℕ → Type 0)
    (Edge : ℕ → Symbol → ℕ → Type 0) (Reduce : ℕ → Production → Next → Type 0)
    (ok : IsLr1Automaton G s Item Edge Reduce) where
  valid_allowed : (f : Forest) (x : Next) (m : Move) → IsValidMove G s f x m →
      (n : ℕ) × Walk Edge (roots f) n × Allows Edge Reduce n x m
  valid_allowed f x m v =
      let ts = v.tree in let k = v.count in let w = v.left in
      let less : k < nodes ts = omega (arith, length-moves ts, slice_get_within (moves ts) k m v.move_is) in
      let d = allows-next G s Item Edge Reduce ok ts k w less v.is_tree (v.leaves ∙ ap (λ g. yield g ++ w) (sym v.forest_is)) in (
        d.state,
        subst (λ g. Walk Edge (roots g) d.state) v.forest_is d.walk,
        subst (λ y. Allows Edge Reduce d.state y m) v.next
            (subst (Allows Edge Reduce d.state (first w)) (some_same d.move m (sym d.move_is ∙ v.move_is)) d.allowed),
      )

  -- where such an automaton stands, the grammar is LR(1)
  pub lr1_from_automaton : IsLr1 G s
  lr1_from_automaton f x m n a b =
      let c = valid_allowed f x m a in let d = valid_allowed f x n b in
      let e = walk_one Edge ok.cover.one (roots f) d.0 c.0 d.1 c.1 in
      allows_one G s Item Edge Reduce ok c.0 x m n c.2 (subst (λ j. Allows Edge Reduce j x n) e d.2)
