-- Trees of one symbol, with the leaves that are asked for: for counts and moves of symbols.
use Rattle.std.proofs.Common.{◌≡◌, ◌∙◌, ℕ, Bool, true, false, List, [], ◌∷◌, ap, refl, sym, subst, Option, Some, None}
use Rattle.std.specs.Prelude.{IsTrue}
use Rattle.std.specs.Option.{option_map}
use Rattle.lalrpop_grammar_symbols.specs.Symbols.{Terminal, Text}
use Rattle.lalrpop_grammar_symbols.specs.Views.{terminal_view}
use Rattle.lalrpop_grammar_symbols.specs.declared.terminal.TerminalString.{TerminalString}
use Rattle.lalrpop_lr1_theory.specs.Productions.{Production, Symbol, nonterminal, terminal}
use Rattle.lalrpop_lr1_theory.specs.Trees.{AreOver, Forest, Move, leaf, node, none, roots, shift, yield}
use Rattle.lalrpop_lr1_theory.proofs.StepLemmas.{some_same}
use Rattle.lalrpop_lr1_core.proofs.NoConflictLemmas.{same_terminal}
use Rattle.lalrpop_lr1_least_trees.specs.LeastForests.{CountsLeast, HaveLeastMoves, IsTreeOfKind}
use Rattle.lalrpop_lr1_least_trees.specs.BeginForests.{CountsBegin, HaveBeginMoves}
use Rattle.lalrpop_lr1_least_trees.specs.RestForests.{AreRestMoves, BeginsWith, CountsRest, HasNoRest, HasRest, HaveRestMoves}
use Rattle.lalrpop_lr1_least_trees.specs.RestForests.{LeavesOfKind}

no_roots : (ts : Forest) → roots ts ≡ [] → yield ts ≡ []
no_roots none e = refl
no_roots (leaf t ts) e = let z : ⊥ = cc in absurd z
no_roots (node p cs ts) e = let z : ⊥ = cc in absurd z

-- the only leaf of a tree with a terminal at its root
only_leaf : (t : Terminal) (ts : Forest) → roots ts ≡ terminal t ∷ [] → yield ts ≡ t ∷ []
only_leaf t none e = let z : ⊥ = cc in absurd z
only_leaf t (leaf u ts) e =
    let one : u ≡ t = cc in let others : roots ts ≡ [] = cc in
    ap (λ x. x ∷ yield ts) one ∙ ap (λ l. t ∷ l) (no_roots ts others)
only_leaf t (node p cs ts) e = let z : ⊥ = cc in absurd z

-- the leaves of a kind, where it is known
pub any_kind : (leaves : Bool) (w : List Terminal) → leaves ≡ true → LeavesOfKind leaves w
any_kind leaves w e = subst (λ b. LeavesOfKind b w) (sym e) tt

-- a leaf isn't what is asked for where no leaves are let
pub no_kind : (leaves : Bool) (t : Terminal) → leaves ≡ false → LeavesOfKind leaves (t ∷ []) → ⊥
no_kind leaves t e w = let h : t ∷ [] ≡ [] = subst (λ b. LeavesOfKind b (t ∷ [])) e w in cc

-- a leaf begins with its terminal alone
pub begins_not : (own wanted : TerminalString) (same : Bool) → (own ≡ wanted → IsTrue same) → same ≡ false →
    BeginsWith (terminal_view wanted) (terminal_view own ∷ []) → ⊥
begins_not own wanted same told other w =
    let one = same_terminal own wanted (some_same (terminal_view own) (terminal_view wanted) w) in
    let is = told one in let z : ⊥ = cc in z

module _ (G : Production → Type 0) (x : Symbol) where
  module _ (t : Terminal) (is : x ≡ terminal t) (Wanted : List Terminal → Type 0) where
    abbrev leaf_rest : Wanted (t ∷ []) → HasRest G (x ∷ []) Wanted
    leaf_rest w = record { trees = leaf t none; over = tt; roots_are = ap (λ y. y ∷ []) (sym is); wanted = w }

    pub leaf_count : Wanted (t ∷ []) → CountsRest G (x ∷ []) Wanted (Some 1)
    leaf_count w = record { rest = leaf_rest w; is = refl }

    pub leaf_moves : (all : List Move) → all ≡ shift t ∷ [] → Wanted (t ∷ []) → HaveRestMoves G (x ∷ []) Wanted (Some all)
    leaf_moves all e w = record { rest = leaf_rest w; moves_are = e }

    -- where the leaf isn't one that is asked for, there is no tree
    pub no_leaf : (Wanted (t ∷ []) → ⊥) → HasNoRest G (x ∷ []) Wanted
    no_leaf other ts o e w = other (subst Wanted (only_leaf t ts (e ∙ ap (λ y. y ∷ []) is)) w)

  module _ (A : Text) (is : x ≡ nonterminal A) where
    abbrev alone : x ∷ [] ≡ nonterminal A ∷ []
    alone = ap (λ y. y ∷ []) is

    -- trees of a nonterminal are those that have its symbol alone at their roots
    kind_of : (leaves : Bool) (ts : Forest) → AreOver G ts → roots ts ≡ x ∷ [] → LeavesOfKind leaves (yield ts) →
        IsTreeOfKind G A leaves ts
    kind_of true ts o e w = (e ∙ alone, o)
    kind_of false ts o e w = ((e ∙ alone, o), w)

    kind_rest_count : (leaves : Bool) (count : Option ℕ) → CountsLeast (IsTreeOfKind G A leaves) count →
        CountsRest G (x ∷ []) (LeavesOfKind leaves) count
    kind_rest_count leaves None c = λ ts o e w. c ts (kind_of leaves ts o e w)
    kind_rest_count true (Some n) c =
        record { rest = record { trees = c.tree; over = c.wanted.1; roots_are = c.wanted.0 ∙ sym alone; wanted = tt }; is = c.is }
    kind_rest_count false (Some n) c = record {
      rest = record { trees = c.tree; over = c.wanted.0.1; roots_are = c.wanted.0.0 ∙ sym alone; wanted = c.wanted.1 };
      is = c.is;
    }

    kind_rest_moves : (leaves : Bool) (all : Option (List Move)) → HaveLeastMoves (IsTreeOfKind G A leaves) all →
        HaveRestMoves G (x ∷ []) (LeavesOfKind leaves) all
    kind_rest_moves leaves None c = λ ts o e w. c ts (kind_of leaves ts o e w)
    kind_rest_moves true (Some ms) c = record {
      rest = record { trees = c.trees; over = c.wanted.1; roots_are = c.wanted.0 ∙ sym alone; wanted = tt };
      moves_are = c.moves_are;
    }
    kind_rest_moves false (Some ms) c = record {
      rest = record { trees = c.trees; over = c.wanted.0.1; roots_are = c.wanted.0.0 ∙ sym alone; wanted = c.wanted.1 };
      moves_are = c.moves_are;
    }

    -- the same, where the kind is known
    pub kind_count : (leaves kind : Bool) → leaves ≡ kind → (count : Option ℕ) → CountsLeast (IsTreeOfKind G A kind) count →
        CountsRest G (x ∷ []) (LeavesOfKind leaves) count
    kind_count leaves kind e count c =
        subst (λ b. CountsRest G (x ∷ []) (LeavesOfKind b) count) (sym e) (kind_rest_count kind count c)

    pub kind_moves : (leaves kind : Bool) → leaves ≡ kind → (all : Option (List Move)) →
        HaveLeastMoves (IsTreeOfKind G A kind) all →
        HaveRestMoves G (x ∷ []) (LeavesOfKind leaves) all
    kind_moves leaves kind e all c =
        subst (λ b. HaveRestMoves G (x ∷ []) (LeavesOfKind b) all) (sym e) (kind_rest_moves kind all c)

    -- and those that begin with a terminal
    pub begin_rest_count_of : (t : Terminal) (count : Option ℕ) → CountsBegin G A t count →
        CountsRest G (x ∷ []) (BeginsWith t) count
    begin_rest_count_of t None c = λ ts o e w. c ts ((e ∙ alone, o), w)
    begin_rest_count_of t (Some n) c = record {
      rest = record { trees = c.tree; over = c.begins.0.1; roots_are = c.begins.0.0 ∙ sym alone; wanted = c.begins.1 };
      is = c.is;
    }

    pub begin_rest_moves_of : (t : Terminal) (all : Option (List Move)) → HaveBeginMoves G A t all →
        HaveRestMoves G (x ∷ []) (BeginsWith t) all
    begin_rest_moves_of t None c = λ ts o e w. c ts ((e ∙ alone, o), w)
    begin_rest_moves_of t (Some ms) c = record {
      rest = record { trees = c.tree; over = c.begins.0.1; roots_are = c.begins.0.0 ∙ sym alone; wanted = c.begins.1 };
      moves_are = c.moves_are;
    }

-- what is told of moves, where it is known whether there are some
module _ (G : Production → Type 0) (ss : List Symbol) (Wanted : List Terminal → Type 0) {X : Type 0} (view : X → List Move)
    (found : Option X) (says : HaveRestMoves G ss Wanted (option_map view found)) where
  pub moves_there : (x : X) → found ≡ Some x → AreRestMoves G ss Wanted (view x)
  moves_there x e = subst (λ o. HaveRestMoves G ss Wanted (option_map view o)) e says

  pub moves_missing : found ≡ None → HasNoRest G ss Wanted
  moves_missing e = subst (λ o. HaveRestMoves G ss Wanted (option_map view o)) e says
