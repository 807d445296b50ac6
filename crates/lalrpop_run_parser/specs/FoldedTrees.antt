-- What productions have to be, so that a search for the trees to which written trees are folded finds them, and what the search tells.
use Rattle.std.specs.Prelude.{◌≡◌, ◌↔◌, ◌≤◌, ℕ, Bool, true, false, List, [], ◌∷◌, Option, Some, None, Contains}
use Rattle.std.specs.Prelude.{length, map}
use Rattle.lalrpop_grammar.specs.Trees.{Tree}
use Rattle.lalrpop_grammar.specs.declared.origin.Origin as choices
use Rattle.lalrpop_grammar_repr.specs.Productions.{productions_of}
use Rattle.lalrpop_grammar_repr.specs.declared.grammar.Grammar.{Grammar}
use Rattle.lalrpop_grammar_repr.specs.declared.production.Production as repr
use Rattle.lalrpop_grammar_symbols.specs.declared.names.NonterminalString.{NonterminalString}
use Rattle.lalrpop_lr1_core.specs.TheoryGrammars.{theory_grammar}
use Rattle.lalrpop_lr1_core.specs.Views.{production_view}
use Rattle.lalrpop_lr1_interpret.specs.Stacks.{◌beside◌}
use Rattle.lalrpop_lr1_theory.specs.Productions.{Production, Symbol, nonterminal}
use Rattle.lalrpop_lr1_theory.specs.Spans.{SpannedForest, node_at, none_at, without_spans}
use Rattle.lalrpop_lr1_theory.specs.Trees.{roots}
use Rattle.lalrpop_run_trees.specs.ActionLabels.{ChoiceLabel, TellsLabel}
use Rattle.lalrpop_run_trees.specs.KeptTrees.{AreKeptBy}
use Rattle.lalrpop_run_parser.specs.Folds.{AreFoldedTo, AreRankedUnder, IsRankedWithin}
use Rattle.lalrpop_run_parser.specs.PassingRanks.{FallsAlong, label_rank}
use Rattle.lalrpop_run_trees.specs.PartViews.{shown_part}
use Rattle.lalrpop_run_trees.specs.declared.tree_parts.tree_part.TreePart.{TreePart}

-- The grammar's productions stand under their names, their actions tell these labels, and where a tree is passed down as it is, ranks fall.
pub record AreFoldable (g : Grammar) (origins : List choices.Origin) (label_of : ℕ → ChoiceLabel) : Type 0 where
  pub named : (n : NonterminalString) (p : Production) → Contains (map production_view (productions_of g.nonterminals n)) p
      ↔ (Contains (theory_grammar g) p × (p.left ≡ n.0))
  pub tells : (p : Production) → Contains (theory_grammar g) p
      → TellsLabel g.action_fn_defns origins p.action (length p.right) (label_of p.action)
  pub falls : (p : Production) → Contains (theory_grammar g) p → (t : Tree) (us : List Tree) → AreKeptBy (label_of p.action) t us
      → FallsAlong (Contains (theory_grammar g)) label_of (label_rank (label_of p.action)) t p.right us

-- it is a tree of the symbol to which the part is folded; or there is none, of at most this rank
abbrev pub TellsFolded : Symbol → TreePart → ℕ → (Production → Type 0) → (ℕ → ChoiceLabel) → Option SpannedForest → Type 0
TellsFolded s q most G label_of None =
    (ts : SpannedForest) → AreFoldedTo G label_of (s ∷ []) (shown_part q ∷ []) ts → IsRankedWithin label_of most ts → ⊥
TellsFolded s q most G label_of (Some tree) = AreFoldedTo G label_of (s ∷ []) (shown_part q ∷ []) tree

-- the same by one production
abbrev pub TellsFoldedBy : Production → TreePart → ℕ → (Production → Type 0) → (ℕ → ChoiceLabel) → Option SpannedForest → Type 0
TellsFoldedBy p q most G label_of None =
    (cs : SpannedForest) → AreFoldedTo G label_of (nonterminal p.left ∷ []) (shown_part q ∷ []) (node_at p cs none_at)
    → label_rank (label_of p.action) ≤ most → ⊥
TellsFoldedBy p q most G label_of (Some tree) = AreFoldedTo G label_of (nonterminal p.left ∷ []) (shown_part q ∷ []) tree

-- each of the productions is one of the grammar's
abbrev pub AreOfGrammar : Grammar → List repr.Production → Type 0
AreOfGrammar g ps = (p : repr.Production) → Contains ps p → Contains (theory_grammar g) (production_view p)

-- the same by one of the productions; or there is none by any
abbrev pub TellsFoldedByAny : List repr.Production → TreePart → ℕ → (Production → Type 0) → (ℕ → ChoiceLabel) → Option SpannedForest → Type 0
TellsFoldedByAny ps q most G label_of None =
    (p : repr.Production) → Contains ps p → TellsFoldedBy (production_view p) q most G label_of None
TellsFoldedByAny ps q most G label_of (Some tree) =
    (p : repr.Production) × Contains ps p × TellsFoldedBy (production_view p) q most G label_of (Some tree)

-- they are trees of the symbols to which the parts are folded; or there are none, those of the whole part under this rank
abbrev pub TellsAllFolded : List Symbol → List TreePart → ℕ → (Production → Type 0) → (ℕ → ChoiceLabel) → Option SpannedForest → Type 0
TellsAllFolded side qs rank G label_of None =
    (ts : SpannedForest) → AreFoldedTo G label_of side (map shown_part qs) ts → AreRankedUnder label_of rank qs ts → ⊥
TellsAllFolded side qs rank G label_of (Some trees) = AreFoldedTo G label_of side (map shown_part qs) trees

-- the same of one part
abbrev pub TellsPartFolded : Symbol → TreePart → ℕ → (Production → Type 0) → (ℕ → ChoiceLabel) → Option SpannedForest → Type 0
TellsPartFolded s q rank G label_of None =
    (ts : SpannedForest) → AreFoldedTo G label_of (s ∷ []) (shown_part q ∷ []) ts →
    AreRankedUnder label_of rank (q ∷ []) ts → ⊥
TellsPartFolded s q rank G label_of (Some tree) = AreFoldedTo G label_of (s ∷ []) (shown_part q ∷ []) tree

-- it is told of a grammar's productions, whatever labels their actions tell
abbrev pub TellsOfGrammar : Grammar → List choices.Origin →
    ((Production → Type 0) → (ℕ → ChoiceLabel) → Option SpannedForest → Type 0) → Option SpannedForest → Type 0
TellsOfGrammar g origins Tells found =
    (label_of : ℕ → ChoiceLabel) → AreFoldable g origins label_of → Tells (Contains (theory_grammar g)) label_of found

-- So many trees, of which something is told, stand beside those that stood there.
pub record StandBeside (count : ℕ) (Tells : Option SpannedForest → Type 0) (old new : SpannedForest) : Type 0 where
  pub trees : SpannedForest
  pub beside_old : new ≡ old beside trees
  pub count_is : length (roots (without_spans trees)) ≡ count
  pub told : Tells (Some trees)

-- so many trees that were found were put beside the others; or there are none, and the others are what they were
abbrev pub PutsBeside : ℕ → (Option SpannedForest → Type 0) → SpannedForest → SpannedForest → Bool → Type 0
PutsBeside count Tells old new true = StandBeside count Tells old new
PutsBeside count Tells old new false = Tells None × (new ≡ old)
