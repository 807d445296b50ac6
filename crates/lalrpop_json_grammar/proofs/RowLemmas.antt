-- Rows of trees that are being printed: what is still to come of their text, and that it ends.
use Rattle.std.proofs.Common.{ap₂, ◌≡◌, ℕ, zero, suc, ◌<◌, List, [], ◌∷◌, ◌++◌, Some, refl, sym, ap}
use Rattle.std.proofs.Common.{◌∙◌, map, length, replicate, flat_map, append_assoc, append-nil, arith}
use Rattle.std.specs.Prelude.{codes}
use Rattle.std.specs.Borrow.{Bor}
use Rattle.std.proofs.lemmas.List.{map-append}
use Rattle.lalrpop_grammar.specs.declared.tree.WrittenTree.{WrittenTree}
use Rattle.lalrpop_json_grammar.specs.declared.printing.Row.{Row}
use Rattle.lalrpop_grammar_symbols.specs.Symbols.{Text}
use Rattle.lalrpop_grammar_symbols.specs.Texts.{symbol_text, join_texts}
use Rattle.lalrpop_grammar.specs.Trees.{Tree, Trees, trees}
use Rattle.lalrpop_grammar.specs.Views.{tree_view}
use Rattle.lalrpop_grammar.specs.Walks.{children}
use Rattle.lalrpop_grammar.specs.WalkViews.{list_view, lists_view}
use Rattle.lalrpop_json_grammar.specs.Printing.{head_text, row_text, tree_text, tree_texts}
use Rattle.lalrpop_json_grammar.specs.PrintedRows.{opening_text, closing_text, texts_from, row_to_come, rows_to_come, held_in, options_text}
use Rattle.lalrpop_grammar.proofs.WalkLemmas.{steps_through, inner-fewer, empty-fewer}

-- the trees of the rows on a stack
abbrev row_trees : List Row → List (Bor (List WrittenTree))
row_trees = map (λ r. r.trees)

-- how many steps are left with these rows on the stack
abbrev pub steps_left : List Row → ℕ
steps_left rows = steps_through (lists_view (row_trees rows))

row_trees-push : (all rest : List Row) (r : Row) → all ≡ rest ++ r ∷ [] → row_trees all ≡ row_trees rest ++ r.trees ∷ []
row_trees-push all rest r e = ap row_trees e ∙ map-append (λ (s : Row). s.trees) rest (r ∷ [])

to_come-last : (rest : List Row) (r : Row) → rows_to_come (rest ++ r ∷ []) ≡ row_to_come r ++ rows_to_come rest
to_come-last [] r = sym (append-nil (row_to_come r))
to_come-last (s ∷ rest) r =
    ap (λ t. t ++ row_to_come s) (to_come-last rest r) ∙ append_assoc (row_to_come r) (rows_to_come rest) (row_to_come s)

-- the innermost row comes first
to_come-push : (all rest : List Row) (r : Row) → all ≡ rest ++ r ∷ [] → rows_to_come all ≡ row_to_come r ++ rows_to_come rest
to_come-push all rest r e = ap rows_to_come e ∙ to_come-last rest r

from_first : (ts : List Text) → texts_from [] ts ≡ join_texts (codes ", ") ts
from_first [] = refl
from_first (t ∷ ts) = refl

from_next : (ts : List Text) → texts_from (codes ", ") ts ≡ flat_map (λ u. codes ", " ++ u) ts
from_next [] = refl
from_next (t ∷ ts) = refl

from_none : (before : Text) (xs : List WrittenTree) → length xs ≡ 0 → texts_from before (tree_texts (trees (map tree_view xs))) ≡ []
from_none before [] e = refl
from_none before (x ∷ xs) e = absurd (omega arith)

-- the text of a tree after its opening
abbrev rest_text : Tree → Text
rest_text t = texts_from [] (tree_texts (children t)) ++ closing_text t

bracketed : (opening closing : Text) (ts : Trees)
    → row_text opening closing (tree_texts ts) ≡ opening ++ (texts_from [] (tree_texts ts) ++ closing)
bracketed opening closing ts =
    ap (λ j. (opening ++ j) ++ closing) (sym (from_first (tree_texts ts)))
    ∙ append_assoc opening (texts_from [] (tree_texts ts)) closing

after_head : (head opening inner closing : Text) → head ++ ((opening ++ inner) ++ closing) ≡ (head ++ opening) ++ (inner ++ closing)
after_head head opening inner closing = simp append_assoc

-- a tree's text is its opening and what comes after
opened : (t : Tree) → tree_text t ≡ opening_text t ++ rest_text t
opened (Tree.rule name args place ts) =
    ap (λ j. head_text name (map symbol_text args) place ++ ((codes "(" ++ j) ++ codes ")")) (sym (from_first (tree_texts ts)))
    ∙ after_head (head_text name (map symbol_text args) place) (codes "(") (texts_from [] (tree_texts ts)) (codes ")")
opened (Tree.list ts) = bracketed (codes "[") (codes "]") ts
opened Tree.opt_none = refl
opened (Tree.opt_some t) =
    ap (λ j. (codes "?(" ++ j) ++ codes ")") (sym (append-nil (tree_text t)))
    ∙ append_assoc (codes "?(") (tree_text t ++ []) (codes ")")
opened (Tree.group ts) = bracketed (codes "(") (codes ")") ts
opened (Tree.terminal token) = sym (append-nil (opening_text (Tree.terminal token)))
opened Tree.look = refl

-- the row of the trees right below is what comes after a tree's opening
row-below : (r : Row) (t : Tree) → r.before.now ≡ [] → list_view r.trees ≡ children t → r.closing.now ≡ closing_text t
    → row_to_come r ≡ rest_text t
row-below r t before inner closing =
    ap (λ b. texts_from b (tree_texts (list_view r.trees)) ++ r.closing.now) before
    ∙ ap₂ (λ (ts : Trees) (c : Text). texts_from [] (tree_texts ts) ++ c) inner closing

regroup : (b o k u c r : Text) → (((b ++ (o ++ k)) ++ u) ++ c) ++ r ≡ (b ++ o) ++ (k ++ ((u ++ c) ++ r))
regroup b o k u c r = simp append_assoc

-- A turn over a stack `all`, whose innermost row is popped and leaves `rest`. The row has no trees left.
module _ (all rest : List Row) (row : Row) (pops : all ≡ rest ++ row ∷ []) (none : length row.trees.now ≡ 0) where
  -- its closing bracket comes first
  pub closes : rows_to_come all ≡ row.closing.now ++ rows_to_come rest
  closes = to_come-push all rest row pops ∙ ap (λ t. (t ++ row.closing.now) ++ rows_to_come rest)
      (from_none row.before.now row.trees.now none)

  pub closes-fewer : steps_left rest < steps_left all
  closes-fewer = empty-fewer (row_trees all) (row_trees rest) row.trees (row_trees-push all rest row pops) none

-- The row has a first tree: the row with the others goes back, and the row below the first on top of it.
module _ (all one two rest : List Row) (row after below : Row) (x : WrittenTree) (others : List WrittenTree)
    (pops : all ≡ rest ++ row ∷ []) (split : row.trees.now ≡ x ∷ others) (comma : after.before.now ≡ codes ", ")
    (left : after.trees.now ≡ others) (same : after.closing.now ≡ row.closing.now) (puts : one ≡ rest ++ after ∷ [])
    (opens : two ≡ one ++ below ∷ []) (starts : below.before.now ≡ []) (inner : list_view below.trees ≡ children (tree_view x))
    (closing : below.closing.now ≡ closing_text (tree_view x)) where
  parts : row.trees.now ≡ x ∷ after.trees.now
  parts = split ∙ ap (λ xs. x ∷ xs) (sym left)

  abbrev next : Text
  next = flat_map (λ u. codes ", " ++ u) (tree_texts (list_view after.trees))

  after-text : row_to_come after ≡ next ++ row.closing.now
  after-text =
      ap₂ (λ (b c : Text). texts_from b (tree_texts (list_view after.trees)) ++ c) comma same
      ∙ ap (λ t. t ++ row.closing.now) (from_next (tree_texts (list_view after.trees)))

  pushed : rows_to_come two ≡ rest_text (tree_view x) ++ ((next ++ row.closing.now) ++ rows_to_come rest)
  pushed =
      to_come-push two one below opens
      ∙ ap₂ ◌++◌ (row-below below (tree_view x) starts inner closing)
      (to_come-push one rest after puts ∙ ap (λ t. t ++ rows_to_come rest) after-text)

  -- the first tree's opening is the first to come
  pub opens-first : rows_to_come all ≡ (row.before.now ++ opening_text (tree_view x)) ++ rows_to_come two
  opens-first =
      to_come-push all rest row pops
      ∙ ap (λ (xs : List WrittenTree). (texts_from row.before.now
      (tree_texts (trees (map tree_view xs))) ++ row.closing.now) ++ rows_to_come rest) parts
      ∙ ap (λ t. (((row.before.now ++ t) ++ next) ++ row.closing.now) ++ rows_to_come rest) (opened (tree_view x))
      ∙ regroup row.before.now (opening_text (tree_view x)) (rest_text (tree_view x)) next row.closing.now (rows_to_come rest)
      ∙ ap (λ t. (row.before.now ++ opening_text (tree_view x)) ++ t) (sym pushed)

  pub opens-fewer : steps_left two < steps_left all
  opens-fewer =
      inner-fewer (row_trees all) (row_trees one) (row_trees rest) row.trees after.trees x (row_trees-push all rest row pops) parts
      (row_trees-push one rest after puts) (row_trees two) below.trees (row_trees-push two one below opens) inner

-- how many options are around one another
unfoldable pub options_in : Tree → ℕ
options_in (Tree.opt_some t) = suc (options_in t)
options_in (Tree.rule name args place ts) = 0
options_in (Tree.list ts) = 0
options_in Tree.opt_none = 0
options_in (Tree.group ts) = 0
options_in (Tree.terminal token) = 0
options_in Tree.look = 0

-- the openings of one option more are those of the others with one more behind them
pub options-snoc : (n : ℕ) → options_text (suc n) ≡ options_text n ++ codes "?("
options-snoc zero = refl
options-snoc (suc n) = ap (λ t. codes "?(" ++ t) (options-snoc n) ∙ sym (append_assoc (codes "?(") (options_text n) (codes "?("))

held-text : (t u : Tree) → held_in t ≡ Some u → tree_text t ≡ codes "?(" ++ tree_text u ++ codes ")"
held-text (Tree.opt_some t) u e = let same : t ≡ u = cc in ap (λ v. codes "?(" ++ tree_text v ++ codes ")") same
held-text (Tree.rule name args place ts) u e = cc
held-text (Tree.list ts) u e = cc
held-text Tree.opt_none u e = cc
held-text (Tree.group ts) u e = cc
held-text (Tree.terminal token) u e = cc
held-text Tree.look u e = cc

-- an option holds a tree with one option less
pub held-fewer : (t u : Tree) → held_in t ≡ Some u → options_in u < options_in t
unfolding options_in
held-fewer (Tree.opt_some t) u e = let same : t ≡ u = cc in let k = ap options_in same in omega arith
held-fewer (Tree.rule name args place ts) u e = cc
held-fewer (Tree.list ts) u e = cc
held-fewer Tree.opt_none u e = cc
held-fewer (Tree.group ts) u e = cc
held-fewer (Tree.terminal token) u e = cc
held-fewer Tree.look u e = cc

wraps : (os o t c cs : Text) → (os ++ o) ++ (t ++ (c ++ cs)) ≡ os ++ (((o ++ t) ++ c) ++ cs)
wraps os o t c cs = simp append_assoc

-- one more option around the whole
pub held-whole : (n : ℕ) (t u : Tree) → held_in t ≡ Some u
    → options_text (suc n) ++ (tree_text u ++ replicate (suc n) 41) ≡ options_text n ++ (tree_text t ++ replicate n 41)
held-whole n t u e =
    ap (λ v. v ++ (tree_text u ++ replicate (suc n) 41)) (options-snoc n)
    ∙ wraps (options_text n) (codes "?(") (tree_text u) (codes ")") (replicate n 41)
    ∙ ap (λ v. options_text n ++ (v ++ replicate n 41)) (sym (held-text t u e))
