-- Computed examples of certificates: two reductions by productions with equal symbols, over shared leaves and over a shared node, with
-- no shared tree, a shift against a reduction; and what certifies nothing.
use Rattle.std.proofs.Common.{◌≡◌, ℕ, ◌+◌, List, [], ◌∷◌, Some, None, refl, ap, arith, Contains, ◌⊎◌, inl, inr}
use Rattle.lalrpop_grammar_symbols.specs.Symbols.{Terminal, Text}
use Rattle.lalrpop_lr1_theory.specs.Productions.{Production, nonterminal, terminal}
use Rattle.lalrpop_lr1_theory.specs.Trees.{AreOver, Move, reduce, shift}
use Rattle.lalrpop_lr1_theory.specs.Spans.{SpannedForest, leaf_at, node_at, none_at, without_spans}
use Rattle.lalrpop_lr1_theory.proofs.ExampleLemmas.{head_same, name, nonterminal_is, nothing_in, production, quoted, quoted_same}
use Rattle.lalrpop_lr1_theory.proofs.ExampleLemmas.{tail_same}
use Rattle.lalrpop_lr1_theory.proofs.ListLemmas.{contains_split}
use Rattle.lalrpop_judge.specs.Certificates.{Certifies, ShownConflict, number_move, reduce_by, shift_of}
use Rattle.lalrpop_judge.proofs.MoveLemmas.{moves_behind}

-- The letters of names are capital, those of terminals small: `__S` is Z, its terminals a, x, y.
abbrev start : Text
start = name 90

abbrev a : Terminal
a = quoted 97

abbrev x : Terminal
x = quoted 120

abbrev y : Terminal
y = quoted 121

-- `Z = S; S = "a" "x" or "a" "x" or "a" "y"`: the first two differ by their numbers
abbrev whole : Production
whole = production 0 start (nonterminal (name 83) ∷ [])

abbrev first_pair : Production
first_pair = production 1 (name 83) (terminal a ∷ terminal x ∷ [])

abbrev second_pair : Production
second_pair = production 2 (name 83) (terminal a ∷ terminal x ∷ [])

abbrev other_pair : Production
other_pair = production 3 (name 83) (terminal a ∷ terminal y ∷ [])

abbrev pairs : List Production
pairs = whole ∷ first_pair ∷ second_pair ∷ other_pair ∷ []

abbrev two_leaves : Terminal → SpannedForest
two_leaves t = leaf_at a (0, 1) (leaf_at t (1, 2) none_at)

abbrev over_pair : Production → Terminal → SpannedForest
over_pair p t = node_at whole (node_at p (two_leaves t) none_at) none_at

-- both reductions behind `a x`, before the end
abbrev two_reductions : ShownConflict
two_reductions = record {
  shared = two_leaves x;
  next = None;
  move1 = reduce_by 1;
  tree1 = over_pair first_pair x;
  move2 = reduce_by 2;
  tree2 = over_pair second_pair x;
}

they_differ : reduce_by 1 ≡ reduce_by 2 → ⊥
they_differ e = cc

it_certifies : Certifies (Contains pairs) start two_reductions
it_certifies = record {
  differ = they_differ;
  spans = (refl, (refl, tt));
  makes1 = record {
    count = 2;
    move = reduce first_pair;
    left = [];
    is_tree = (refl, ((0, omega arith, refl), refl, ((1, omega arith, refl), refl, tt, tt), tt));
    spans = (refl, (refl, tt));
    forest_is = refl;
    move_is = refl;
    move_named = refl;
    leaves = refl;
    next = refl;
  };
  makes2 = record {
    count = 2;
    move = reduce second_pair;
    left = [];
    is_tree = (refl, ((0, omega arith, refl), refl, ((2, omega arith, refl), refl, tt, tt), tt));
    spans = (refl, (refl, tt));
    forest_is = refl;
    move_is = refl;
    move_named = refl;
    leaves = refl;
    next = refl;
  };
}

-- one move twice
abbrev one_move : ShownConflict
one_move = record two_reductions { move2 = reduce_by 1 }

one_move_twice : Certifies (Contains pairs) start one_move → ⊥
one_move_twice h = h.differ refl

-- another terminal comes next
abbrev before_x : ShownConflict
before_x = record two_reductions { next = Some x }

wrong_next : Certifies (Contains pairs) start before_x → ⊥
wrong_next h =
    differs (moves_behind (Contains pairs) start (two_leaves x) (Some x) (reduce_by 1) (over_pair first_pair x) h.makes1).continues.next
  where
    differs : None ≡ Some x → ⊥
    differs e = cc

-- a node over a production that the grammar lacks, though all but its number is as there
abbrev foreign_pair : Production
foreign_pair = production 4 (name 83) (terminal a ∷ terminal x ∷ [])

not_a_pair : Contains pairs foreign_pair → ⊥
not_a_pair c = out (contains_split whole foreign_pair (first_pair ∷ second_pair ∷ other_pair ∷ []) c)
  where
    number_of : Production → ℕ
    number_of p = p.action

    last : (other_pair ≡ foreign_pair) ⊎ Contains [] foreign_pair → ⊥
    last (inl e) = omega (arith, ap number_of e)
    last (inr k) = nothing_in foreign_pair k

    third : (second_pair ≡ foreign_pair) ⊎ Contains (other_pair ∷ []) foreign_pair → ⊥
    third (inl e) = omega (arith, ap number_of e)
    third (inr k) = last (contains_split other_pair foreign_pair [] k)

    second : (first_pair ≡ foreign_pair) ⊎ Contains (second_pair ∷ other_pair ∷ []) foreign_pair → ⊥
    second (inl e) = omega (arith, ap number_of e)
    second (inr k) = third (contains_split second_pair foreign_pair (other_pair ∷ []) k)

    out : (whole ≡ foreign_pair) ⊎ Contains (first_pair ∷ second_pair ∷ other_pair ∷ []) foreign_pair → ⊥
    out (inl e) = omega (arith, ap number_of e)
    out (inr k) = second (contains_split first_pair foreign_pair (second_pair ∷ other_pair ∷ []) k)

abbrev foreign_node : ShownConflict
foreign_node = record two_reductions { move1 = reduce_by 4; tree1 = over_pair foreign_pair x }

not_over_the_grammar : Certifies (Contains pairs) start foreign_node → ⊥
not_over_the_grammar h = not_a_pair h.makes1.is_tree.1.2.0

-- a leaf whose span is one further
abbrev moved_leaf : ShownConflict
moved_leaf = record two_reductions {
  tree1 = node_at whole (node_at first_pair (leaf_at a (0, 1) (leaf_at x (2, 3) none_at)) none_at) none_at;
}

span_moved : Certifies (Contains pairs) start moved_leaf → ⊥
span_moved h = omega (arith, ap (λ (span : ℕ × ℕ). span.0) h.makes1.spans.1.0)

-- a shared tree less
abbrev one_leaf : ShownConflict
one_leaf = record two_reductions { shared = leaf_at a (0, 1) none_at }

shared_tree_dropped : Certifies (Contains pairs) start one_leaf → ⊥
shared_tree_dropped h =
    let m = moves_behind (Contains pairs) start one_leaf.shared None (reduce_by 1) (over_pair first_pair x) h.makes1 in
    differs m.continues.move m.continues.move_is m.continues.move_named
  where
    differs : (v : Move) → Some (shift x) ≡ Some v → number_move v ≡ reduce_by 1 → ⊥
    differs (shift t) e k = cc
    differs (reduce p) e k = cc

-- the child in place of the root
abbrev child_alone : ShownConflict
child_alone = record two_reductions { tree2 = node_at second_pair (two_leaves x) none_at }

not_from_the_start : Certifies (Contains pairs) start child_alone → ⊥
not_from_the_start h =
    let same = head_same (nonterminal (name 83)) (nonterminal start) [] [] h.makes2.is_tree.0 in
    omega (arith, head_same 83 90 [] [] (nonterminal_is (name 83) start same))

-- sentences that part one move before the shared trees end
abbrev parted : ShownConflict
parted = record two_reductions { move2 = reduce_by 3; tree2 = over_pair other_pair y }

sentences_part_early : Certifies (Contains pairs) start parted → ⊥
sentences_part_early h =
    differs (moves_behind (Contains pairs) start (two_leaves x) None (reduce_by 3) (over_pair other_pair y) h.makes2).front
  where
    shift_same : (t u : Terminal) → shift t ≡ shift u → t ≡ u
    shift_same t u e = cc

    differs : shift a ∷ shift y ∷ [] ≡ shift a ∷ shift x ∷ [] → ⊥
    differs e =
        let second = tail_same (shift a) (shift a) (shift y ∷ []) (shift x ∷ []) e in
        omega (arith, quoted_same 121 120 (shift_same y x (head_same (shift y) (shift x) [] [] second)))

-- `Z = S; S = A or A; A = "a"`, and one more production for `A` with the same number, written elsewhere
abbrev first_unit : Production
first_unit = production 1 (name 83) (nonterminal (name 65) ∷ [])

abbrev second_unit : Production
second_unit = production 2 (name 83) (nonterminal (name 65) ∷ [])

abbrev letter : Production
letter = production 3 (name 65) (terminal a ∷ [])

abbrev letter_elsewhere : Production
letter_elsewhere = record letter { to = 1 }

abbrev units : List Production
units = whole ∷ first_unit ∷ second_unit ∷ letter ∷ []

abbrev one_letter : Production → SpannedForest
one_letter p = node_at p (leaf_at a (0, 1) none_at) none_at

abbrev over_unit : Production → SpannedForest
over_unit p = node_at whole (node_at p (one_letter letter) none_at) none_at

abbrev shared_node : Production → ShownConflict
shared_node p = record {
  shared = one_letter p;
  next = None;
  move1 = reduce_by 1;
  tree1 = over_unit first_unit;
  move2 = reduce_by 2;
  tree2 = over_unit second_unit;
}

node_certifies : Certifies (Contains units) start (shared_node letter)
node_certifies = record {
  differ = they_differ;
  spans = (refl, tt);
  makes1 = record {
    count = 2;
    move = reduce first_unit;
    left = [];
    is_tree = (refl, ((0, omega arith, refl), refl, ((1, omega arith, refl), refl, ((3, omega arith, refl), refl, tt, tt), tt), tt));
    spans = (refl, tt);
    forest_is = refl;
    move_is = refl;
    move_named = refl;
    leaves = refl;
    next = refl;
  };
  makes2 = record {
    count = 2;
    move = reduce second_unit;
    left = [];
    is_tree = (refl, ((0, omega arith, refl), refl, ((2, omega arith, refl), refl, ((3, omega arith, refl), refl, tt, tt), tt), tt));
    spans = (refl, tt);
    forest_is = refl;
    move_is = refl;
    move_named = refl;
    leaves = refl;
    next = refl;
  };
}

-- the shared trees have the same moves by number, and are none of the grammar's
other_shared_node : Certifies (Contains units) start (shared_node letter_elsewhere) → ⊥
other_shared_node h =
    differs
    (moves_behind (Contains units) start (one_letter letter_elsewhere) None (reduce_by 1) (over_unit first_unit) h.makes1).front
  where
    end_of : List Move → ℕ
    end_of [] = 0
    end_of (shift t ∷ ms) = end_of ms
    end_of (reduce p ∷ ms) = p.to

    differs : shift a ∷ reduce letter ∷ [] ≡ shift a ∷ reduce letter_elsewhere ∷ [] → ⊥
    differs e = omega (arith, ap end_of e)

-- `Z = S; S = A or B; A = ; B = `: no shared tree, and the end comes next
abbrev as_a : Production
as_a = production 1 (name 83) (nonterminal (name 65) ∷ [])

abbrev as_b : Production
as_b = production 2 (name 83) (nonterminal (name 66) ∷ [])

abbrev no_a : Production
no_a = production 3 (name 65) []

abbrev no_b : Production
no_b = production 4 (name 66) []

abbrev nothings : List Production
nothings = whole ∷ as_a ∷ as_b ∷ no_a ∷ no_b ∷ []

abbrev over_nothing : Production → Production → SpannedForest
over_nothing p q = node_at whole (node_at p (node_at q none_at none_at) none_at) none_at

abbrev nothing_shared : ShownConflict
nothing_shared = record {
  shared = none_at;
  next = None;
  move1 = reduce_by 3;
  tree1 = over_nothing as_a no_a;
  move2 = reduce_by 4;
  tree2 = over_nothing as_b no_b;
}

nothing_certifies : Certifies (Contains nothings) start nothing_shared
nothing_certifies = record {
  differ = λ e. three_is_not_four e;
  spans = tt;
  makes1 = record {
    count = 0;
    move = reduce no_a;
    left = [];
    is_tree = (refl, ((0, omega arith, refl), refl, ((1, omega arith, refl), refl, ((3, omega arith, refl), refl, tt, tt), tt), tt));
    spans = tt;
    forest_is = refl;
    move_is = refl;
    move_named = refl;
    leaves = refl;
    next = refl;
  };
  makes2 = record {
    count = 0;
    move = reduce no_b;
    left = [];
    is_tree = (refl, ((0, omega arith, refl), refl, ((2, omega arith, refl), refl, ((4, omega arith, refl), refl, tt, tt), tt), tt));
    spans = tt;
    forest_is = refl;
    move_is = refl;
    move_named = refl;
    leaves = refl;
    next = refl;
  };
}
  where
    three_is_not_four : reduce_by 3 ≡ reduce_by 4 → ⊥
    three_is_not_four e = cc

-- `Z = S; S = "a" or S S`: behind `S S`, before an `a`, it is shifted in one tree and `S S` reduced in the other
abbrev one_a : Production
one_a = production 1 (name 83) (terminal a ∷ [])

abbrev joined : Production
joined = production 2 (name 83) (nonterminal (name 83) ∷ nonterminal (name 83) ∷ [])

abbrev rows : List Production
rows = whole ∷ one_a ∷ joined ∷ []

abbrev a_at : ℕ → SpannedForest → SpannedForest
a_at n rest = node_at one_a (leaf_at a (n, n + 1) none_at) rest

abbrev shift_or_reduce : ShownConflict
shift_or_reduce = record {
  shared = a_at 0 (a_at 1 none_at);
  next = Some a;
  move1 = reduce_by 2;
  tree1 = node_at whole (node_at joined (node_at joined (a_at 0 (a_at 1 none_at)) (a_at 2 none_at)) none_at) none_at;
  move2 = shift_of a;
  tree2 = node_at whole (node_at joined (a_at 0 (node_at joined (a_at 1 (a_at 2 none_at)) none_at)) none_at) none_at;
}

is_one_a : Contains rows one_a
is_one_a = (1, omega arith, refl)

is_joined : Contains rows joined
is_joined = (2, omega arith, refl)

shift_certifies : Certifies (Contains rows) start shift_or_reduce
shift_certifies = record {
  differ = λ e. shift_is_no_reduction e;
  spans = (refl, (refl, tt));
  makes1 = record {
    count = 4;
    move = reduce joined;
    left = a ∷ [];
    is_tree = (refl, ((0, omega arith, refl), refl, (is_joined, refl, (is_joined, refl, two_over, one_over), tt), tt));
    spans = (refl, (refl, (refl, tt)));
    forest_is = refl;
    move_is = refl;
    move_named = refl;
    leaves = refl;
    next = refl;
  };
  makes2 = record {
    count = 4;
    move = shift a;
    left = a ∷ [];
    is_tree = (refl, ((0, omega arith, refl), refl, (is_joined, refl, (is_one_a, refl, tt, (is_joined, refl, two_over, tt)), tt), tt));
    spans = (refl, (refl, (refl, tt)));
    forest_is = refl;
    move_is = refl;
    move_named = refl;
    leaves = refl;
    next = refl;
  };
}
  where
    shift_is_no_reduction : reduce_by 2 ≡ shift_of a → ⊥
    shift_is_no_reduction e = cc

    one_over : AreOver (Contains rows) (without_spans (a_at 2 none_at))
    one_over = (is_one_a, refl, tt, tt)

    two_over : AreOver (Contains rows) (without_spans (a_at 0 (a_at 1 none_at)))
    two_over = (is_one_a, refl, tt, (is_one_a, refl, tt, tt))
