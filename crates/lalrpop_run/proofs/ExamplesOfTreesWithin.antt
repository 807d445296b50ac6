-- Computed examples: a tree that the limit allows, where the grammar may be parsed, and one that it doesn't.
use Rattle.std.proofs.Common.{◌≡◌, ℕ, List, [], ◌∷◌, refl, ap, sym, ◌∙◌, subst, arith, ◌<◌}
use Rattle.std.specs.Prelude.{codes, Contains}
use Rattle.lalrpop_grammar.specs.WrittenGrammar.{Origin}
use Rattle.lalrpop_grammar.specs.Trees.{Token, Tree}
use Rattle.lalrpop_grammar_language.specs.Admitting.{AdmitsFrom}
use Rattle.lalrpop_grammar_language.specs.Expansion.{GrammarSymbol, Nonterminal}
use Rattle.lalrpop_grammar_language.specs.Derivations.{with_shown}
use Rattle.lalrpop_grammar_language.proofs.StartLemmas.{start_admits, start_once}
use Rattle.lalrpop_grammar_language.proofs.PlaceLemmas.{places_apart, places_told}
use Rattle.lalrpop_grammar_language.proofs.WrittenTreeLemmas.{finds, nd}
use Rattle.lalrpop_norm_theory.specs.Inlined.{IsInlined}
use Rattle.lalrpop_grammar_language.specs.ExpandedTrees.{ExpandedTree, ExpandedTrees}
use Rattle.lalrpop_grammar_language.specs.WrittenTrees.{IsExpandedTreeOfTree}
use Rattle.lalrpop_grammar_language.proofs.ExpandedWrittenLemmas.{apart_is, apart_once, apart_tokens, taken_apart}
use Rattle.lalrpop_lr1_theory.specs.Answers.{HasRun, Passes}
use Rattle.lalrpop_lr1_theory.specs.Trees.{Forest, forest, leaf, node, none, reduce, shift}
use Rattle.lalrpop_run_theory.specs.ExpansionTrees.{expanded_size, is_inlined_nonterminal}
use Rattle.lalrpop_run_theory.proofs.InlinedTestLemmas.{inlined_decided}
use Rattle.lalrpop_run_theory.proofs.ExamplesOfExpansions.{n, rule, start, t}
use Rattle.lalrpop_run_theory.specs.TextAnswers.{IsExpandedFrom, TextAnswer}
use Rattle.lalrpop_run.specs.Asked.{WrittenAnswer}
use Rattle.lalrpop_run.specs.RightAnswer.{IsRightAnswerTo}
use Rattle.lalrpop_run.proofs.ExamplesOfRightAnswers.{asked_within}
use Rattle.lalrpop_run.proofs.ExamplesOfOneWord.{a, by_S, by_start, from_S, from_start, g, has_S, of_S, one_tree_each}
use Rattle.lalrpop_run.proofs.ExamplesOfOneWord.{one_word, has_start, of_start, two, two_are}
use Rattle.lalrpop_run.proofs.ExamplesOfPlaces.{letter_admitted, one_cut, token_at}

-- the tree of `a` over `pub S = "a"`
abbrev the_tree : Tree
the_tree = nd "S" 0 (Tree.terminal (token_at 0) ∷ [])

abbrev the_expanded : ExpandedTree Nonterminal Origin
the_expanded = ExpandedTree.node by_start (ExpandedTrees.more (ExpandedTree.node by_S (ExpandedTrees.more (ExpandedTree.leaf a (0, 1))
    ExpandedTrees.none)) ExpandedTrees.none)

abbrev IsExpandedAs : List Token → ExpandedTree Nonterminal Origin → Type 0
IsExpandedAs tokens d = IsExpandedTreeOfTree g (IsInlined g) (GrammarSymbol.nonterminal start) the_tree tokens d

expanded_is : IsExpandedAs (token_at 0 ∷ []) the_expanded
expanded_is = record {
  grows = (n (rule "S") ∷ [], from_start, ((t "a" ∷ [], from_S, (refl, tt)), tt));
  stands = refl;
  over = refl;
}

-- it has one expanded tree, of three nodes
one_expanded : (tokens : List Token) (d : ExpandedTree Nonterminal Origin) → IsExpandedAs tokens d → d ≡ the_expanded
one_expanded tokens d h =
    let f = is_inlined_nonterminal g in
    let p = GrammarSymbol.nonterminal start in
    let decides = inlined_decided g in
    apart_once g (IsInlined g) f decides p d the_expanded h.grows expanded_is.grows
    (start_once g (places_told finds [] one_word) (places_apart finds [] one_word) (codes "S") (taken_apart d) (taken_apart the_expanded)
    (apart_is g (IsInlined g) f decides p d h.grows) (apart_is g (IsInlined g) f decides p the_expanded expanded_is.grows)
    (h.stands ∙ sym expanded_is.stands))

-- with two moves it isn't right
pub tree_over_the_limit : (text : List ℕ) →
    IsRightAnswerTo (asked_within 2) one_word text (WrittenAnswer.to_text (TextAnswer.written the_tree)) → ⊥
tree_over_the_limit text (IsRightAnswerTo.stops tokens answer h s) = absurd s
tree_over_the_limit text (IsRightAnswerTo.sentence tokens u h s) =
    let size : expanded_size s.expanded ≡ 3 = ap expanded_size (one_expanded tokens s.expanded s.is_expanded) in
    omega (arith, size, s.small)

-- with three it is
pub tree_told : IsRightAnswerTo (asked_within 3) one_word (97 ∷ []) (WrittenAnswer.to_text (TextAnswer.written the_tree))
tree_told =
    IsRightAnswerTo.sentence (token_at 0 ∷ []) the_tree (one_cut 3)
    (record { admitted = letter_admitted; expanded = the_expanded; is_expanded = expanded_is; small = omega arith })

-- a run over the expansion shifts once and reduces twice
abbrev whole : Forest
whole = node of_start (node of_S (leaf a none) none) none

passes : (f : Forest) (count : ℕ) → forest whole count ≡ f → Passes (Contains two) (codes "__S") f
passes f count e = record {
  tree = whole;
  count = count;
  is_tree = (refl, (has_start, refl, (has_S, refl, tt, tt), tt));
  forest_is = e;
}

three_moves : HasRun (Contains two) (codes "__S") (a ∷ []) 3
three_moves = (
  shift a ∷ reduce of_S ∷ reduce of_start ∷ [],
  refl,
  record {
    made = leaf a none;
    left = [];
    is_move = tt;
    leads = refl;
    consumed = refl;
    passes = passes (leaf a none) 1 refl;
    rest = record {
      made = node of_S (leaf a none) none;
      left = [];
      is_move = has_S;
      leads = record { kept = none; children = leaf a none; parts = refl; roots_are = refl; rest = refl };
      consumed = refl;
      passes = passes (node of_S (leaf a none) none) 2 refl;
      rest = record {
        made = whole;
        left = [];
        is_move = has_start;
        leads = record {
          kept = none;
          children = node of_S (leaf a none) none;
          parts = refl;
          roots_are = refl;
          rest = refl;
        };
        consumed = refl;
        passes = passes whole 3 refl;
        rest = tt;
      };
    };
  },
)

-- and with two moves the limit is told
pub limit_told : IsRightAnswerTo (asked_within 2) one_word (97 ∷ []) (WrittenAnswer.to_text TextAnswer.over_limit)
limit_told =
    IsRightAnswerTo.stops (token_at 0 ∷ []) TextAnswer.over_limit (one_cut 2)
    (record { large = large; grammar = two; are_expansion = two_are; has_run = three_moves })
  where
    large : (u : Tree) (d : ExpandedTree Nonterminal Origin) → IsExpandedFrom finds [] one_word (codes "S") u (token_at 0 ∷ []) d →
        2 < expanded_size d
    large u d k =
        let f = is_inlined_nonterminal g in
        let p = GrammarSymbol.nonterminal start in
        let decides = inlined_decided g in
        let given = start_admits g (places_told finds [] one_word) (codes "S") (taken_apart d)
        (apart_is g (IsInlined g) f decides p d k.grows) in
        let tokens = apart_tokens g (IsInlined g) f decides p d k.grows ∙ k.over in
        let moved : AdmitsFrom finds [] one_word (codes "S") (with_shown u) (token_at 0 ∷ []) =
        subst (λ z. AdmitsFrom finds [] one_word (codes "S") z (token_at 0 ∷ [])) k.stands
        (subst (AdmitsFrom finds [] one_word (codes "S") _) tokens given) in
        let same : with_shown u ≡ the_tree = one_tree_each (with_shown u) the_tree (token_at 0 ∷ []) moved letter_admitted in
        let size : expanded_size d ≡ 3 =
        ap expanded_size
        (one_expanded (token_at 0 ∷ []) d (record { grows = k.grows; stands = k.stands ∙ same; over = k.over })) in
        omega (arith, size)
