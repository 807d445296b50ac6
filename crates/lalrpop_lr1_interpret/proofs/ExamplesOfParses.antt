-- Parses that make something, computed: a tree that is made, and answers that are refused.
use Rattle.std.proofs.Common.{◌≡◌, List, [], ◌∷◌, Err, ap, arith, length, refl, sym}
use Rattle.lalrpop_grammar.specs.Trees.{Token as WholeToken}
use Rattle.lalrpop_grammar.specs.Views.{token_view}
use Rattle.lalrpop_grammar.specs.declared.token.ScanToken.{ScanToken}
use Rattle.lalrpop_grammar_symbols.specs.Views.{span_view, terminal_view}
use Rattle.lalrpop_lr1_theory.specs.Spans.{SpannedForest, leaf_at, node_at, none_at, without_spans}
use Rattle.lalrpop_lr1_theory.specs.Trees.{nodes}
use Rattle.lalrpop_lr1_interpret.specs.Parses.{IsRightParseOnto, IsRightStop, MakesRightTree}
use Rattle.lalrpop_lr1_interpret.specs.declared.parse.stop.Stop.TheVariants.{End, Memory}
use Rattle.lalrpop_lr1_interpret.proofs.ExamplesOfStacks.{number, one}

-- A token `1`, of which the grammar `N = r"1"` makes a tree of two.
module _ (t : ScanToken) (is_one : terminal_view t.terminal ≡ one) where
  abbrev its_tree : SpannedForest
  its_tree = node_at number (leaf_at one (span_view t.span) none_at) none_at

  -- what is made stands for this tree alone, over this token
  abbrev StandsForIt : SpannedForest → List WholeToken → Type 0
  StandsForIt ts ks = (ts ≡ its_tree) × (ks ≡ token_view t ∷ [])

  makes_it : MakesRightTree (number ∷ []) (78 ∷ []) (t ∷ []) 2 StandsForIt
  makes_it = record {
    trees = its_tree;
    stands = (refl, refl);
    right = ((refl, ((0, omega arith, refl), refl, tt, tt)), ap (λ u. u ∷ []) (sym is_one), omega arith);
    spans_are = refl;
  }

  -- not within a limit of one
  beyond_the_limit : MakesRightTree (number ∷ []) (78 ∷ []) (t ∷ []) 1 StandsForIt → ⊥
  beyond_the_limit m = omega (arith, m.right.2, ap (λ ts. nodes (without_spans ts)) m.stands.0)

  -- and not over other tokens
  over_nothing : MakesRightTree (number ∷ []) (78 ∷ []) [] 2 StandsForIt → ⊥
  over_nothing m = omega (arith, ap length m.stands.1)

  -- the end isn't wrong, and want of memory may always be told
  no_wrong_end : IsRightStop (number ∷ []) (78 ∷ []) (t ∷ []) 2 End → ⊥
  no_wrong_end h = h.1 (without_spans its_tree, (refl, ((0, omega arith, refl), refl, tt, tt)), ap (λ u. u ∷ []) (sym is_one))

  no_memory : IsRightParseOnto (number ∷ []) (78 ∷ []) (t ∷ []) 2 StandsForIt (Err Memory)
  no_memory = tt
