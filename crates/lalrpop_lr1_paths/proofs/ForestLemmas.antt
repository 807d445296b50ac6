-- Forests over symbols that are spelled by numbers, tree by tree, and their moves: for the moves along paths.
use Rattle.std.proofs.Common.{◌≡◌, ◌∙◌, ℕ, zero, suc, ◌<◌, List, [], ◌∷◌, ◌++◌, length, take}
use Rattle.std.proofs.Common.{get_or, Option, Some, None}
use Rattle.std.proofs.Common.{refl, sym, ap, subst, arith}
use Rattle.lalrpop_grammar_symbols.specs.Symbols.{Text, Terminal}
use Rattle.lalrpop_lr1_theory.specs.Productions.{Production, Symbol, nonterminal, terminal}
use Rattle.lalrpop_lr1_theory.specs.Trees.{AreOver, IsTreeOf, Move, leaf, moves, none, roots, shift, ◌and◌}
use Rattle.lalrpop_lr1_theory.proofs.FirstLemmas.{roots_split}
use Rattle.lalrpop_lr1_theory.proofs.TreeLemmas.{moves-and, over-and, over-split, roots-and}
use Rattle.lalrpop_lr1_first.specs.Numbers.{SpellsSymbols}
use Rattle.lalrpop_lr1_least_trees.specs.LeastForests.{HaveLeastMoves}
use Rattle.lalrpop_lr1_paths.specs.PathForests.{AreForestMoves, HaveForestMoves}

module _ (at : ℕ → Option Symbol) where
  abbrev Spells : List ℕ → List Symbol → Type 0
  Spells = SpellsSymbols at

  -- what a list of numbers spells, at one place of it
  pub record IsSpelledAt (ss : List ℕ) (i d : ℕ) (syms : List Symbol) : Type 0 where
    pub front : List Symbol
    pub symbol : Symbol
    pub behind : List Symbol
    pub parts : syms ≡ front ++ symbol ∷ behind
    pub spelled : Spells (take i ss) front
    pub is : at (get_or ss i d) ≡ Some symbol

  pub spelled_at : (ss : List ℕ) (i d : ℕ) → i < length ss → (syms : List Symbol) → Spells ss syms → IsSpelledAt ss i d syms
  spelled_at [] i d h syms sp = absurd (omega (arith, h))
  spelled_at (s ∷ ss) i d h [] sp = absurd sp
  spelled_at (s ∷ ss) zero d h (x ∷ xs) sp =
      record { front = []; symbol = x; behind = xs; parts = refl; spelled = tt; is = sp.0 }
  spelled_at (s ∷ ss) (suc i) d h (x ∷ xs) sp =
      let r = spelled_at ss i d (omega (arith, h)) xs sp.1 in
      record {
        front = x ∷ r.front;
        symbol = r.symbol;
        behind = r.behind;
        parts = ap (λ l. x ∷ l) r.parts;
        spelled = (sp.0, r.spelled);
        is = r.is;
      }

  -- the first numbers and one more
  pub record IsSpelledMore (ss : List ℕ) (i d : ℕ) (syms : List Symbol) : Type 0 where
    pub front : List Symbol
    pub symbol : Symbol
    pub parts : syms ≡ front ++ symbol ∷ []
    pub spelled : Spells (take i ss) front
    pub is : at (get_or ss i d) ≡ Some symbol

  pub spelled_more : (ss : List ℕ) (i d : ℕ) → i < length ss → (syms : List Symbol) → Spells (take (suc i) ss) syms →
      IsSpelledMore ss i d syms
  spelled_more [] i d h syms sp = absurd (omega (arith, h))
  spelled_more (s ∷ ss) i d h [] sp = absurd sp
  spelled_more (s ∷ ss) zero d h (x ∷ []) sp = record { front = []; symbol = x; parts = refl; spelled = tt; is = sp.0 }
  spelled_more (s ∷ ss) zero d h (x ∷ y ∷ xs) sp = absurd sp.1
  spelled_more (s ∷ ss) (suc i) d h (x ∷ xs) sp =
      let r = spelled_more ss i d (omega (arith, h)) xs sp.1 in
      record {
        front = x ∷ r.front;
        symbol = r.symbol;
        parts = ap (λ l. x ∷ l) r.parts;
        spelled = (sp.0, r.spelled);
        is = r.is;
      }

module _ (G : Production → Type 0) where
  pub no_forest : (syms : List Symbol) → syms ≡ [] → AreForestMoves G syms []
  no_forest syms e = record { trees = none; over = tt; roots_are = sym e; moves_are = refl }

  -- a tree more
  pub forest_more : (front : List Symbol) (x : Symbol) (ms ns : List Move) → AreForestMoves G front ms →
      AreForestMoves G (x ∷ []) ns → AreForestMoves G (front ++ x ∷ []) (ms ++ ns)
  forest_more front x ms ns f t = record {
    trees = f.trees and t.trees;
    over = over-and G f.trees t.trees f.over t.over;
    roots_are = roots-and f.trees t.trees ∙ ap (λ l. l ++ roots t.trees) f.roots_are ∙ ap (λ l. front ++ l) t.roots_are;
    moves_are = ap (λ l. l ++ ns) f.moves_are ∙ ap (λ l. moves f.trees ++ l) t.moves_are ∙ sym (moves-and f.trees t.trees);
  }

  -- where one of the symbols has no tree, there is no forest
  pub lacks_tree : (front behind : List Symbol) (x : Symbol) → HaveForestMoves G (x ∷ []) None →
      HaveForestMoves G (front ++ x ∷ behind) None
  lacks_tree front behind x lacks = λ ts over e.
      let r = roots_split ts front (x ∷ behind) e in
      let o = over-split G r.0 r.1 (subst (AreOver G) r.2 over) in
      let q = roots_split r.1 (x ∷ []) behind r.4 in
      let p = over-split G q.0 q.1 (subst (AreOver G) q.2 o.1) in
      lacks q.0 p.0 q.3

  -- a tree of the nonterminal is a forest with that root
  pub tree_forest : (A : Text) (found : Option (List Move)) → HaveLeastMoves (IsTreeOf G A) found →
      HaveForestMoves G (nonterminal A ∷ []) found
  tree_forest A None lacks = λ ts over e. lacks ts (e, over)
  tree_forest A (Some all) l =
      record { trees = l.trees; over = l.wanted.1; roots_are = l.wanted.0; moves_are = l.moves_are }

  pub leaf_forest : (t : Terminal) → AreForestMoves G (terminal t ∷ []) (shift t ∷ [])
  leaf_forest t = record { trees = leaf t none; over = tt; roots_are = refl; moves_are = refl }
