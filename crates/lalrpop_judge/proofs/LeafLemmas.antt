-- Tokens are taken from the front, tree by tree: for the comparison of tokens with leaves.
use Rattle.std.proofs.Common.{◌≡◌, ◌↔◌, ℕ, ◌+◌, ◌<◌, List, ◌∷◌, ◌++◌, ap, sym, ◌∙◌, map, drop, length}
use Rattle.std.proofs.Common.{get_or}
use Rattle.std.proofs.lemmas.List.{append_assoc, append_cancel_left, length-map, drop_more, get_or-map}
use Rattle.lalrpop_grammar.specs.Trees.{Token, leaves, leaves_of, trees}
use Rattle.lalrpop_grammar.specs.Views.{token_view, tree_view}
use Rattle.lalrpop_grammar.specs.declared.token.ScanToken.{ScanToken}
use Rattle.lalrpop_grammar.specs.declared.tree.WrittenTree.{WrittenTree}

module _ (tokens : List Token) (A : List Token → Type 0) (ts : List WrittenTree) (i : ℕ) (t : WrittenTree)
    (here : drop i ts ≡ t ∷ drop (i + 1) ts)
    (before : (r : List Token) → A r ↔ (tokens ≡ leaves_of (trees (map tree_view (drop i ts))) ++ r)) where
  abbrev back : List Token
  back = leaves_of (trees (map tree_view (drop (i + 1) ts)))

  opened : (r : List Token) → A r ↔ (tokens ≡ (leaves (tree_view t) ++ back) ++ r)
  opened r = rw here at (before r)

  -- what is said of all that is left is said of what stands behind the first tree
  pub behind_tree : (rest : List Token) → tokens ≡ leaves (tree_view t) ++ rest → (r : List Token) → A r ↔ (rest ≡ back ++ r)
  behind_tree rest e r = (
    λ a. append_cancel_left (leaves (tree_view t)) rest (back ++ r)
        (sym e ∙ (opened r).0 a ∙ append_assoc (leaves (tree_view t)) back r),
    λ q. (opened r).1 (e ∙ ap (λ l. leaves (tree_view t) ++ l) q ∙ sym (append_assoc (leaves (tree_view t)) back r)),
  )

-- the token at an index stands before those behind it
pub at_place : (ts : List ScanToken) (i : ℕ) (x : ScanToken) → i < length ts → x ≡ get_or ts i x
    → drop i (map token_view ts) ≡ token_view x ∷ drop (i + 1) (map token_view ts)
at_place ts i x within is =
    let within_seen : i < length (map token_view ts) = simp length-map within in
    drop_more (map token_view ts) i (token_view x) within_seen
    ∙ ap (λ y. y ∷ drop (i + 1) (map token_view ts)) (get_or-map token_view ts i x (token_view x) within ∙ ap token_view (sym is))
