-- Moves that are named one by one: for naming moves.
use Rattle.std.proofs.Common.{◌≡◌, ◌∙◌, ℕ, ◌+◌, ◌<◌, Option, List, [], ◌∷◌, ◌++◌, length, map}
use Rattle.std.proofs.Common.{take, get_or, sym, ap, subst}
use Rattle.std.proofs.lemmas.List.{map-append, take_more}
use Rattle.lalrpop_lr1_theory.specs.Productions as theory
use Rattle.lalrpop_lr1_least_trees.specs.declared.least_counts.rule.NumberMove.{NumberMove}
use Rattle.lalrpop_lr1_least_trees.specs.declared.tree_move.TreeMove.{TreeMove}
use Rattle.lalrpop_lr1_least_trees.specs.MoveViews.{IsNumberedMove, SpellsMoves, tree_move_view}
use Rattle.lalrpop_lr1_least_trees.proofs.SpellLemmas.{spells-append}

module _ (at : ℕ → Option theory.Symbol) (production_at : ℕ → Option theory.Production) where
  -- one move more
  pub named_more : (numbers : List NumberMove) (i : ℕ) (d : NumberMove) (old new : List TreeMove) (move : TreeMove) → i < length
      numbers →
      SpellsMoves at production_at (take i numbers) (map tree_move_view old) →
      IsNumberedMove at production_at (get_or numbers i d) (tree_move_view move) → new ≡ old ++ move ∷ [] →
      SpellsMoves at production_at (take (i + 1) numbers) (map tree_move_view new)
  named_more numbers i d old new move h sp own pushed =
      let front : take (i + 1) numbers ≡ take i numbers ++ get_or numbers i d ∷ [] = take_more numbers i d h in
      let back : map tree_move_view new ≡ map tree_move_view old ++ tree_move_view move ∷ [] =
      ap (map tree_move_view) pushed ∙ map-append tree_move_view old (move ∷ []) in
      subst (λ ns. SpellsMoves at production_at ns (map tree_move_view new)) (sym front)
      (subst (SpellsMoves at production_at (take i numbers ++ get_or numbers i d ∷ [])) (sym back)
      (spells-append at production_at (take i numbers) (map tree_move_view old) (get_or numbers i d ∷ []) (tree_move_view move ∷ []) sp
      (own, tt)))
