-- Computed examples of labels and expanded trees of written grammars, and near misses that are none.
use Prim.Native.String.{String}
use Rattle.std.proofs.Common.{◌≡◌, ◌≢◌, ℕ, List, [], ◌∷◌, ◌++◌, Bool, true, false, refl, subst, inl, inr, arith}
use Rattle.std.specs.Prelude.{None, codes}
use Rattle.lalrpop_grammar_symbols.specs.Symbols.{Closed, Closeds, Terminal, Op}
use Rattle.lalrpop_grammar.specs.WrittenGrammar.{Attr, Origin, Grammar}
use Rattle.lalrpop_grammar.specs.Trees.{Tree, trees}
use Rattle.lalrpop_grammar_language.specs.Enabled.{EnabledGrammar, EnabledRule, enabled_grammar, rules_named}
use Rattle.lalrpop_grammar_language.specs.Expansion.{GrammarSymbol, Nonterminal, RightSide, Produces}
use Rattle.lalrpop_grammar_language.proofs.LabelLemmas.{one_side}
use Rattle.lalrpop_grammar_language.proofs.PlaceLemmas.{places_told, places_apart}
use Rattle.lalrpop_grammar_language.proofs.WrittenTreeLemmas.{here, lit, id, many_of, maybe, alt, rule_of, rule_with, grammar, finds}
use Rattle.lalrpop_grammar_language.proofs.WrittenTreeLemmas.{nd}
use Rattle.lalrpop_grammar_language.specs.Labels.{Label, Inlinings}
use Rattle.lalrpop_grammar_language.specs.Inlining.{Inlines, InlinesAll}
use Rattle.lalrpop_grammar_language.specs.BaseTrees.{BaseTree, BaseTrees}
use Rattle.lalrpop_grammar_language.specs.ExpandedTrees.{ExpandedTree, ExpandedTrees, IsExpandedTreeOf, base_tree, expanded_tree}
use Rattle.lalrpop_grammar_language.specs.WrittenTrees.{tree_written}

-- Short ways to write.

-- the attribute that has a rule inlined
abbrev inline : Attr
inline = Attr.empty here (codes "inline")

abbrev inlines_rule : List EnabledRule → Bool
inlines_rule [] = false
inlines_rule (r ∷ []) = r.inlined
inlines_rule (r ∷ s ∷ rs) = false

-- rules with that attribute, `X*`, `X?`, groups and lookarounds are inlined
abbrev marked : EnabledGrammar → Nonterminal → Bool
marked g (Nonterminal.start s) = false
marked g (Nonterminal.closed (Closed.call s args level)) = inlines_rule (rules_named g s)
marked g (Nonterminal.closed (Closed.repeat Op.plus x)) = false
marked g (Nonterminal.closed (Closed.repeat Op.star x)) = true
marked g (Nonterminal.closed (Closed.repeat Op.question x)) = true
marked g (Nonterminal.closed (Closed.group xs)) = true
marked g (Nonterminal.closed (Closed.terminal t)) = false
marked g (Nonterminal.closed (Closed.choose x)) = false
marked g (Nonterminal.closed (Closed.name m s x)) = false
marked g (Nonterminal.closed Closed.lookahead) = true
marked g (Nonterminal.closed Closed.lookbehind) = true
marked g (Nonterminal.closed Closed.faulty) = false

abbrev IsMarked : EnabledGrammar → Nonterminal → Type 0
IsMarked g x = marked g x ≡ true

abbrev rule : String → Nonterminal
rule s = Nonterminal.closed (Closed.call (codes s) Closeds.none None)

abbrev of_a : Op → Nonterminal
of_a op = Nonterminal.closed (Closed.repeat op (Closed.terminal (Terminal.quoted (codes "a"))))

abbrev n : Nonterminal → GrammarSymbol Nonterminal
n x = GrammarSymbol.nonterminal x

abbrev t : String → GrammarSymbol Nonterminal
t s = GrammarSymbol.terminal (Terminal.quoted (codes s))

-- an alternative of a rule, by its place
abbrev place : String → ℕ → Origin
place s k = Origin.alternative (codes s) [] k

abbrev L : Type 0
L = Label Nonterminal Origin

abbrev I : Type 0
I = Inlinings Nonterminal Origin

abbrev kept : I → I
kept rest = Inlinings.kept rest

abbrev inlined : L → I → I
inlined l rest = Inlinings.inlined l rest

abbrev end : I
end = Inlinings.none

abbrev expanded : List (ExpandedTree Nonterminal Origin) → ExpandedTrees Nonterminal Origin
expanded [] = ExpandedTrees.none
expanded (e ∷ es) = ExpandedTrees.more e (expanded es)

abbrev base : List (BaseTree Nonterminal Origin) → BaseTrees Nonterminal Origin
base [] = BaseTrees.none
base (d ∷ ds) = BaseTrees.more d (base ds)

-- the leaf of a quoted literal, in an expanded tree, in a tree before inlining and in a written one
abbrev leaf : String → ExpandedTree Nonterminal Origin
leaf s = ExpandedTree.leaf (Terminal.quoted (codes s)) (0, 1)

abbrev base_leaf : String → BaseTree Nonterminal Origin
base_leaf s = BaseTree.leaf (Terminal.quoted (codes s)) (0, 1)

abbrev tok : String → Tree
tok s = Tree.terminal (record { terminal = Terminal.quoted (codes s); text = codes s; span = (0, 1) })

-- pub S = Op; #[inline] Op = { "a", "a" }
abbrev alike_written : Grammar
alike_written = grammar (rule_of "S" (alt (id "Op" ∷ []) ∷ [])
    ∷ rule_with (inline ∷ []) "Op" [] (alt (lit "a" ∷ []) ∷ alt (lit "a" ∷ []) ∷ []) ∷ [])

abbrev alike : EnabledGrammar
alike = enabled_grammar finds [] alike_written

abbrev op : ℕ → L
op k = Label.choose (rule "Op") (place "Op" k) (kept end)

abbrev by_op : ℕ → L
by_op k = Label.choose (rule "S") (place "S" 0) (inlined (op k) end)

S_alone : Produces alike (rule "S") (place "S" 0) (n (rule "Op") ∷ [])
S_alone = inl (record {
  rule = _;
  choice = _;
  fits = record { rule = refl; arguments = refl; written = inl refl; leveled = refl; holds = tt };
  level_is = refl;
  origin_is = refl;
  side_is = refl;
})

Op_first : Produces alike (rule "Op") (place "Op" 0) (t "a" ∷ [])
Op_first = inl (record {
  rule = _;
  choice = _;
  fits = record { rule = refl; arguments = refl; written = inl refl; leveled = refl; holds = tt };
  level_is = refl;
  origin_is = refl;
  side_is = refl;
})

Op_second : Produces alike (rule "Op") (place "Op" 1) (t "a" ∷ [])
Op_second = inl (record {
  rule = _;
  choice = _;
  fits = record { rule = refl; arguments = refl; written = inr (inl refl); leveled = refl; holds = tt };
  level_is = refl;
  origin_is = refl;
  side_is = refl;
})

-- two labels with equal symbols
by_either : (k : ℕ) → Produces alike (rule "Op") (place "Op" k) (t "a" ∷ []) →
    Inlines (Produces alike) (IsMarked alike) (rule "S") (by_op k) (t "a" ∷ [])
by_either k h = (
  refl,
  n (rule "Op") ∷ [],
  S_alone,
  (
    refl,
    record {
      front = t "a" ∷ [];
      rest = [];
      side_is = refl;
      is_front = (refl, t "a" ∷ [], h, (tt, [], refl, refl));
      is_rest = refl;
    },
  ),
)

by_first : Inlines (Produces alike) (IsMarked alike) (rule "S") (by_op 0) (t "a" ∷ [])
by_first = by_either 0 Op_first

by_second : Inlines (Produces alike) (IsMarked alike) (rule "S") (by_op 1) (t "a" ∷ [])
by_second = by_either 1 Op_second

-- not one label for both
labels_differ : by_op 0 ≢ by_op 1
labels_differ e =
    let inner : op 0 ≡ op 1 = cc in
    let origins : place "Op" 0 ≡ place "Op" 1 = cc in
    let places : ◌≡◌ {A = ℕ} 0 1 = cc in
    omega (arith, places)

-- and two trees of one token, for two written trees
abbrev tree_of_op : ℕ → ExpandedTree Nonterminal Origin
tree_of_op k = ExpandedTree.node (by_op k) (expanded (leaf "a" ∷ []))

trees_of_op : IsExpandedTreeOf (Produces alike) (IsMarked alike) (n (rule "S")) (tree_of_op 0)
    × IsExpandedTreeOf (Produces alike) (IsMarked alike) (n (rule "S")) (tree_of_op 1)
trees_of_op = ((t "a" ∷ [], by_first, (refl, tt)), (t "a" ∷ [], by_second, (refl, tt)))

written_by_op : (tree_written (tree_of_op 0) ≡ nd "S" 0 (nd "Op" 0 (tok "a" ∷ []) ∷ []))
    × (tree_written (tree_of_op 1) ≡ nd "S" 0 (nd "Op" 1 (tok "a" ∷ []) ∷ []))
written_by_op = (refl, refl)

-- the tree before inlining has a node for `Op`; inlined it has none, and the other way round
abbrev base_of_op : ℕ → BaseTree Nonterminal Origin
base_of_op k = BaseTree.node (rule "S") (place "S" 0) (base (BaseTree.node (rule "Op") (place "Op" k) (base (base_leaf "a" ∷ [])) ∷ []))

inlined_op : (expanded_tree (marked alike) (base_of_op 1) ≡ tree_of_op 1) × (base_tree (tree_of_op 1) ≡ base_of_op 1)
inlined_op = (refl, refl)

-- a production that keeps `Op` isn't there, and so no tree with a node for it below one of `S`
op_kept : (side : RightSide) →
    Inlines (Produces alike) (IsMarked alike) (rule "S") (Label.choose (rule "S") (place "S" 0) (kept end)) side → ⊥
op_kept side h =
    let before_is = one_side alike (places_told finds [] alike_written) (places_apart finds [] alike_written)
    (rule "S") (place "S" 0) h.1 (n (rule "Op") ∷ []) h.2 S_alone in
    let k = subst (λ b. InlinesAll (Produces alike) (IsMarked alike) b (kept end) side) before_is h.3 in
    k.0 refl

node_left : (k : ℕ) → IsExpandedTreeOf (Produces alike) (IsMarked alike) (n (rule "S"))
    (ExpandedTree.node (Label.choose (rule "S") (place "S" 0) (kept end))
    (expanded (ExpandedTree.node (op k) (expanded (leaf "a" ∷ [])) ∷ []))) → ⊥
node_left k h = op_kept h.0 h.1

-- nor is one that inlines what isn't inlined: `S`, below the start
abbrev start : Nonterminal
start = Nonterminal.start (codes "S")

start_alone : Produces alike start Origin.start (n (rule "S") ∷ [])
start_alone = (_, refl, refl, refl, refl, refl)

S_inlined : (l : L) (side : RightSide) →
    Inlines (Produces alike) (IsMarked alike) start (Label.choose start Origin.start (inlined l end)) side → ⊥
S_inlined l side h =
    let before_is = one_side alike (places_told finds [] alike_written) (places_apart finds [] alike_written)
    start Origin.start h.1 (n (rule "S") ∷ []) h.2 start_alone in
    let k = subst (λ b. InlinesAll (Produces alike) (IsMarked alike) b (inlined l end) side) before_is h.3 in
    let f : false ≡ true = k.0 in
    cc

-- a tree from the start has a node for it, which the written tree hasn't
from_start : IsExpandedTreeOf (Produces alike) (IsMarked alike) (n start)
    (ExpandedTree.node (Label.choose start Origin.start (kept end)) (expanded (tree_of_op 1 ∷ [])))
from_start =
    (n (rule "S") ∷ [], (refl, n (rule "S") ∷ [], start_alone, (not_marked, [], refl, refl)), (trees_of_op.1, tt))
  where
    not_marked : IsMarked alike (rule "S") → ⊥
    not_marked e = (let f : false ≡ true = e in cc)

written_from_start : tree_written (ExpandedTree.node (Label.choose start Origin.start (kept end)) (expanded (tree_of_op 1 ∷ [])))
    ≡ nd "S" 0 (nd "Op" 1 (tok "a" ∷ []) ∷ [])
written_from_start = refl

-- pub S = "x"? "y"*
abbrev maybe_many : EnabledGrammar
maybe_many = enabled_grammar finds [] (grammar (rule_of "S" (alt (maybe (lit "x") ∷ many_of (lit "y") ∷ []) ∷ []) ∷ []))

abbrev x_maybe : Nonterminal
x_maybe = Nonterminal.closed (Closed.repeat Op.question (Closed.terminal (Terminal.quoted (codes "x"))))

abbrev y_many : Op → Nonterminal
y_many op = Nonterminal.closed (Closed.repeat op (Closed.terminal (Terminal.quoted (codes "y"))))

abbrev no_x : L
no_x = Label.choose x_maybe Origin.opt_none end

abbrev an_x : L
an_x = Label.choose x_maybe Origin.opt_some (kept end)

abbrev no_y : L
no_y = Label.choose (y_many Op.star) Origin.star_none end

abbrev some_y : L
some_y = Label.choose (y_many Op.star) Origin.star_some (kept end)

S_both : Produces maybe_many (rule "S") (place "S" 0) (n x_maybe ∷ n (y_many Op.star) ∷ [])
S_both = inl (record {
  rule = _;
  choice = _;
  fits = record { rule = refl; arguments = refl; written = inl refl; leveled = refl; holds = tt };
  level_is = refl;
  origin_is = refl;
  side_is = refl;
})

abbrev IsProductionOfBoth : Nonterminal → L → RightSide → Type 0
IsProductionOfBoth x l side = Inlines (Produces maybe_many) (IsMarked maybe_many) x l side

abbrev by_two : L → L → L
by_two l k = Label.choose (rule "S") (place "S" 0) (inlined l (inlined k end))

is_by_two : (l k : L) (xs ys : RightSide) → IsProductionOfBoth x_maybe l xs → IsProductionOfBoth (y_many Op.star) k ys →
    IsProductionOfBoth (rule "S") (by_two l k) (xs ++ (ys ++ []))
is_by_two l k xs ys g h = (
  refl,
  n x_maybe ∷ n (y_many Op.star) ∷ [],
  S_both,
  (
    refl,
    record {
      front = xs;
      rest = ys ++ [];
      side_is = refl;
      is_front = g;
      is_rest = (refl, record { front = ys; rest = []; side_is = refl; is_front = h; is_rest = refl });
    },
  ),
)

is_no_x : IsProductionOfBoth x_maybe no_x []
is_no_x = (refl, [], inl (refl, refl), refl)

is_an_x : IsProductionOfBoth x_maybe an_x (t "x" ∷ [])
is_an_x = (refl, t "x" ∷ [], inr (refl, refl), (tt, [], refl, refl))

is_no_y : IsProductionOfBoth (y_many Op.star) no_y []
is_no_y = (refl, [], inl (refl, refl), refl)

-- `"y"+` isn't inlined
is_some_y : IsProductionOfBoth (y_many Op.star) some_y (n (y_many Op.plus) ∷ [])
is_some_y = (refl, n (y_many Op.plus) ∷ [], inr (refl, refl), (not_marked, [], refl, refl))
  where
    not_marked : IsMarked maybe_many (y_many Op.plus) → ⊥
    not_marked e = (let f : false ≡ true = e in cc)

-- four labels, with four right sides
neither : IsProductionOfBoth (rule "S") (by_two no_x no_y) []
neither = is_by_two no_x no_y [] [] is_no_x is_no_y

x_alone : IsProductionOfBoth (rule "S") (by_two an_x no_y) (t "x" ∷ [])
x_alone = is_by_two an_x no_y (t "x" ∷ []) [] is_an_x is_no_y

y_alone : IsProductionOfBoth (rule "S") (by_two no_x some_y) (n (y_many Op.plus) ∷ [])
y_alone = is_by_two no_x some_y [] (n (y_many Op.plus) ∷ []) is_no_x is_some_y

x_and_y : IsProductionOfBoth (rule "S") (by_two an_x some_y) (t "x" ∷ n (y_many Op.plus) ∷ [])
x_and_y = is_by_two an_x some_y (t "x" ∷ []) (n (y_many Op.plus) ∷ []) is_an_x is_some_y

-- the tree of no token is one node without children, and stands for both being left out
empty_tree : (IsExpandedTreeOf (Produces maybe_many) (IsMarked maybe_many) (n (rule "S"))
    (ExpandedTree.node (by_two no_x no_y) ExpandedTrees.none))
    × (tree_written (ExpandedTree.node (by_two no_x no_y) ExpandedTrees.none)
    ≡ nd "S" 0 (Tree.opt_none ∷ Tree.list (trees []) ∷ []))
empty_tree = (([], neither, tt), refl)

-- pub S = "a"* "a"
abbrev trailing : EnabledGrammar
trailing = enabled_grammar finds [] (grammar (rule_of "S" (alt (many_of (lit "a") ∷ lit "a" ∷ []) ∷ []) ∷ []))

abbrev by_star : Origin → I → L
by_star o rest = Label.choose (rule "S") (place "S" 0) (inlined (Label.choose (of_a Op.star) o rest) (kept end))

S_trailing : Produces trailing (rule "S") (place "S" 0) (n (of_a Op.star) ∷ t "a" ∷ [])
S_trailing = inl (record {
  rule = _;
  choice = _;
  fits = record { rule = refl; arguments = refl; written = inl refl; leveled = refl; holds = tt };
  level_is = refl;
  origin_is = refl;
  side_is = refl;
})

abbrev one_a : ExpandedTree Nonterminal Origin
one_a = ExpandedTree.node (by_star Origin.star_none end) (expanded (leaf "a" ∷ []))

abbrev two_a : ExpandedTree Nonterminal Origin
two_a = ExpandedTree.node (by_star Origin.star_some (kept end)) (expanded (
    ExpandedTree.node (Label.choose (of_a Op.plus) Origin.plus_one (kept end)) (expanded (leaf "a" ∷ [])) ∷ leaf "a" ∷ []))

is_one_a : IsExpandedTreeOf (Produces trailing) (IsMarked trailing) (n (rule "S")) one_a
is_one_a = (
  t "a" ∷ [],
  (
    refl,
    n (of_a Op.star) ∷ t "a" ∷ [],
    S_trailing,
    (
      refl,
      record {
        front = [];
        rest = t "a" ∷ [];
        side_is = refl;
        is_front = (refl, [], inl (refl, refl), refl);
        is_rest = (tt, [], refl, refl);
      },
    ),
  ),
  (refl, tt),
)

is_two_a : IsExpandedTreeOf (Produces trailing) (IsMarked trailing) (n (rule "S")) two_a
is_two_a = (
  n (of_a Op.plus) ∷ t "a" ∷ [],
  (
    refl,
    n (of_a Op.star) ∷ t "a" ∷ [],
    S_trailing,
    (
      refl,
      record {
        front = n (of_a Op.plus) ∷ [];
        rest = t "a" ∷ [];
        side_is = refl;
        is_front = (refl, n (of_a Op.plus) ∷ [], inr (refl, refl), (not_marked, [], refl, refl));
        is_rest = (tt, [], refl, refl);
      },
    ),
  ),
  ((t "a" ∷ [], (refl, t "a" ∷ [], inl (refl, refl), (tt, [], refl, refl)), (refl, tt)), (refl, tt)),
)
  where
    not_marked : IsMarked trailing (of_a Op.plus) → ⊥
    not_marked e = (let f : false ≡ true = e in cc)

written_a : (tree_written one_a ≡ nd "S" 0 (Tree.list (trees []) ∷ tok "a" ∷ []))
    × (tree_written two_a ≡ nd "S" 0 (Tree.list (trees (tok "a" ∷ [])) ∷ tok "a" ∷ []))
written_a = (refl, refl)

-- a label that takes none of the two trees below it stands for another tree: inlined it isn't the tree again
abbrev one_too_many : ExpandedTree Nonterminal Origin
one_too_many = ExpandedTree.node (by_star Origin.star_none end) (expanded (leaf "a" ∷ leaf "a" ∷ []))

not_again : expanded_tree (marked trailing) (base_tree one_too_many) ≢ one_too_many
not_again e = (let f : one_a ≡ one_too_many = e in cc)
