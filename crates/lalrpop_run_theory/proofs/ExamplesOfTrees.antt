-- Computed examples of written trees that trees over productions stand for, and trees that they don't stand for.
use Prim.Native.String.{String}
use Rattle.std.proofs.Common.{◌≡◌, ◌≢◌, ℕ, List, [], ◌∷◌, refl, ap, inl, inr, length, arith, ◌+◌}
use Rattle.std.specs.Prelude.{Some, codes}
use Rattle.lalrpop_grammar_symbols.specs.Symbols.{TextSpan, Closed, Closeds, Terminal, Op}
use Rattle.lalrpop_grammar.specs.WrittenGrammar.{Origin}
use Rattle.lalrpop_grammar.specs.Trees.{Token, Tree, trees}
use Rattle.lalrpop_grammar_language.specs.Expansion.{Nonterminal}
use Rattle.lalrpop_grammar_language.specs.Derivations.{leaf_token}
use Rattle.lalrpop_grammar_language.proofs.WrittenTreeLemmas.{nd}
use Rattle.lalrpop_grammar_language.specs.Labels.{Label}
use Rattle.lalrpop_lr1_theory.specs.Spans.{SpannedForest, none_at, leaf_at, node_at}
use Rattle.lalrpop_run_theory.specs.ExpansionTrees.{IsForestOfTree, written_of_forest}
use Rattle.lalrpop_run_theory.proofs.ExamplesOfExpansions.{IsOneOf, L, end, inlined, kept, label_at, name, place, production, rule, word}
use Rattle.lalrpop_run_theory.proofs.ExamplesOfExpansions.{five, five_labels}

-- Short ways to write.

-- the token of a quoted literal, from one byte to the next
abbrev token : String → ℕ → Token
token s at = leaf_token (Terminal.quoted (codes s)) (at, at + 1)

abbrev tok : String → ℕ → Tree
tok s at = Tree.terminal (token s at)

abbrev leaf : String → ℕ → SpannedForest → SpannedForest
leaf s at rest = leaf_at (Terminal.quoted (codes s)) (at, at + 1) rest

-- two written trees of `a x`, each by a production of its own
abbrev ax : ℕ → SpannedForest
ax k = node_at (production "__S" (name "S" ∷ []) 0)
    (node_at (production "S" (word "a" ∷ word "x" ∷ []) k) (leaf "a" 0 (leaf "x" 1 none_at)) none_at) none_at

abbrev ax_tokens : List Token
ax_tokens = token "a" 0 ∷ token "x" 1 ∷ []

abbrev ax_tree : ℕ → Tree
ax_tree k = nd "S" 0 (nd "Op" k (tok "a" 0 ∷ []) ∷ tok "x" 1 ∷ [])

first_ax : IsForestOfTree five_labels (IsOneOf five) (codes "__S") (ax_tree 0) ax_tokens (ax 1)
first_ax = record {
  is_tree = (refl, (inl refl, refl, (inr (inl refl), refl, tt, tt), tt));
  stands = refl;
  terminals = refl;
  spans = refl;
}

second_ax : IsForestOfTree five_labels (IsOneOf five) (codes "__S") (ax_tree 1) ax_tokens (ax 2)
second_ax = record {
  is_tree = (refl, (inl refl, refl, (inr (inr (inl refl)), refl, tt, tt), tt));
  stands = refl;
  terminals = refl;
  spans = refl;
}

-- the first production doesn't stand for the other tree
not_other : IsForestOfTree five_labels (IsOneOf five) (codes "__S") (ax_tree 1) ax_tokens (ax 1) → ⊥
not_other h =
    let same : nd "Op" 0 (tok "a" 0 ∷ []) ≡ nd "Op" 1 (tok "a" 0 ∷ []) = inside h.stands in
    let places : ◌≡◌ {A = ℕ} 0 1 = cc in
    omega (arith, places)
  where
    inside : ax_tree 0 ≡ ax_tree 1 → nd "Op" 0 (tok "a" 0 ∷ []) ≡ nd "Op" 1 (tok "a" 0 ∷ [])
    inside e = cc

-- nor for the tree with the start's node
start_in_tree : IsForestOfTree five_labels (IsOneOf five) (codes "__S") (nd "__S" 0 (ax_tree 0 ∷ [])) ax_tokens (ax 1) → ⊥
start_in_tree h =
    let same : ax_tree 0 ≡ nd "__S" 0 (ax_tree 0 ∷ []) = h.stands in
    let names : codes "S" ≡ codes "__S" = cc in
    let lengths : length (codes "S") ≡ length (codes "__S") = ap length names in
    omega (arith, lengths)

-- nor over tokens elsewhere
tokens_elsewhere : IsForestOfTree five_labels (IsOneOf five) (codes "__S") (ax_tree 0) (token "a" 0 ∷ token "x" 2 ∷ []) (ax 1) → ⊥
tokens_elsewhere h =
    let second : ◌≡◌ {A = TextSpan} (1, 2) (2, 3) = cc in
    let places : ◌≡◌ {A = ℕ} 1 2 = ap (λ (s : TextSpan). s.0) second in
    omega (arith, places)

-- pub S = "x"? "y"*
abbrev quoted : String → Closed
quoted s = Closed.terminal (Terminal.quoted (codes s))

abbrev repeated : Op → String → Nonterminal
repeated op s = Nonterminal.closed (Closed.repeat op (quoted s))

abbrev by_two : L → L → L
by_two l k = Label.choose (rule "S") (place "S" 0) (inlined l (inlined k end))

abbrev maybe_labels : ℕ → L
maybe_labels = label_at (by_two (Label.choose (repeated Op.question "x") Origin.opt_none end)
    (Label.choose (repeated Op.star "y") Origin.star_none end))
    (by_two (Label.choose (repeated Op.question "x") Origin.opt_none end)
    (Label.choose (repeated Op.star "y") Origin.star_some (kept end))
    ∷ by_two (Label.choose (repeated Op.question "x") Origin.opt_some (kept end))
    (Label.choose (repeated Op.star "y") Origin.star_none end)
    ∷ Label.choose (repeated Op.plus "y") Origin.plus_one (kept end)
    ∷ Label.choose (repeated Op.plus "y") Origin.plus_more (kept (kept end)) ∷ [])

-- `y y`
abbrev yy : SpannedForest
yy = node_at (production "S" (name "\"y\"+" ∷ []) 0)
    (node_at (production "\"y\"+" (name "\"y\"+" ∷ word "y" ∷ []) 3)
    (node_at (production "\"y\"+" (word "y" ∷ []) 2) (leaf "y" 0 none_at) (leaf "y" 1 none_at)) none_at) none_at

written_yy : written_of_forest maybe_labels yy ≡ nd "S" 0 (Tree.opt_none ∷ Tree.list (trees (tok "y" 0 ∷ tok "y" 1 ∷ [])) ∷ [])
written_yy = refl

-- not with the newest element in front
newest_first : written_of_forest maybe_labels yy ≢ nd "S" 0 (Tree.opt_none ∷ Tree.list (trees (tok "y" 1 ∷ tok "y" 0 ∷ [])) ∷ [])
newest_first e =
    let first : tok "y" 0 ≡ tok "y" 1 = cc in
    let tokens : token "y" 0 ≡ token "y" 1 = cc in
    let places : ◌≡◌ {A = TextSpan} (0, 1) (1, 2) = ap (λ (k : Token). k.span) tokens in
    let starts : ◌≡◌ {A = ℕ} 0 1 = ap (λ (s : TextSpan). s.0) places in
    omega (arith, starts)

-- `x`, and no token
written_x : written_of_forest maybe_labels (node_at (production "S" (word "x" ∷ []) 1) (leaf "x" 0 none_at) none_at)
    ≡ nd "S" 0 (Tree.opt_some (tok "x" 0) ∷ Tree.list (trees []) ∷ [])
written_x = refl

written_nothing : written_of_forest maybe_labels (node_at (production "S" [] 9) none_at none_at)
    ≡ nd "S" 0 (Tree.opt_none ∷ Tree.list (trees []) ∷ [])
written_nothing = refl

-- pub S = "a"* "a": the tree of `a a`
abbrev trailing_labels : ℕ → L
trailing_labels = label_at (Label.choose (repeated Op.plus "a") Origin.plus_one (kept end))
    (Label.choose (rule "S") (place "S" 0) (inlined (Label.choose (repeated Op.star "a") Origin.star_none end) (kept end))
    ∷ Label.choose (rule "S") (place "S" 0) (inlined (Label.choose (repeated Op.star "a") Origin.star_some (kept end)) (kept end))
    ∷ [])

abbrev aa : SpannedForest
aa = node_at (production "S" (name "\"a\"+" ∷ word "a" ∷ []) 1)
    (node_at (production "\"a\"+" (word "a" ∷ []) 2) (leaf "a" 0 none_at) (leaf "a" 1 none_at)) none_at

written_aa : written_of_forest trailing_labels aa ≡ nd "S" 0 (Tree.list (trees (tok "a" 0 ∷ [])) ∷ tok "a" 1 ∷ [])
written_aa = refl

-- pub S = A "z"; #[inline] A = B "y"; #[inline] B = { "p", "q" }: one node for `q y z`
abbrev nested : L
nested = Label.choose (rule "S") (place "S" 0) (inlined (Label.choose (rule "A") (place "A" 0)
    (inlined (Label.choose (rule "B") (place "B" 1) (kept end)) (kept end))) (kept end))

abbrev qyz : SpannedForest
qyz = node_at (production "S" (word "q" ∷ word "y" ∷ word "z" ∷ []) 0) (leaf "q" 0 (leaf "y" 1 (leaf "z" 2 none_at))) none_at

written_qyz : written_of_forest (λ k. nested) qyz
    ≡ nd "S" 0 (nd "A" 0 (nd "B" 1 (tok "q" 0 ∷ []) ∷ tok "y" 1 ∷ []) ∷ tok "z" 2 ∷ [])
written_qyz = refl

-- without the inlined rules it isn't the written tree
inlined_left_out : written_of_forest (λ k. nested) qyz ≢ nd "S" 0 (tok "q" 0 ∷ tok "y" 1 ∷ tok "z" 2 ∷ [])
inlined_left_out e = cc

-- pub E = { L1 "n", L2 left E "+" E }: passing down leaves no trace
abbrev at_level : ℕ → Nonterminal
at_level l = Nonterminal.closed (Closed.call (codes "E") Closeds.none (Some l))

abbrev level_labels : ℕ → L
level_labels = label_at (Label.choose (at_level 1) (place "E" 0) (kept end))
    (Label.choose (at_level 2) (place "E" 1) (kept (kept (kept end))) ∷ Label.choose (at_level 2) Origin.pass_down (kept end) ∷ [])

abbrev an_n : ℕ → SpannedForest → SpannedForest
an_n at rest = node_at (production "E1" (word "n" ∷ []) 2) (leaf "n" at none_at) rest

abbrev sum : SpannedForest
sum = node_at (production "E" (name "E" ∷ word "+" ∷ name "E1" ∷ []) 0)
    (node_at (production "E" (name "E1" ∷ []) 1) (an_n 0 none_at) (leaf "+" 1 (an_n 2 none_at))) none_at

written_sum : written_of_forest level_labels sum
    ≡ nd "E" 1 (nd "E" 0 (tok "n" 0 ∷ []) ∷ tok "+" 1 ∷ nd "E" 0 (tok "n" 2 ∷ []) ∷ [])
written_sum = refl

-- a tree with a node for it isn't the written one
pass_down_left : written_of_forest level_labels sum
    ≢ nd "E" 1 (nd "E" 1 (nd "E" 0 (tok "n" 0 ∷ []) ∷ []) ∷ tok "+" 1 ∷ nd "E" 0 (tok "n" 2 ∷ []) ∷ [])
pass_down_left e =
    let first : nd "E" 0 (tok "n" 0 ∷ []) ≡ nd "E" 1 (nd "E" 0 (tok "n" 0 ∷ []) ∷ []) = cc in
    let places : ◌≡◌ {A = ℕ} 0 1 = cc in
    omega (arith, places)
