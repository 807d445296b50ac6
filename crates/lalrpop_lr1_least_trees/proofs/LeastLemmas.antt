-- What a table's entries say of trees over the grammar's productions: for the calls on least trees.
use Rattle.std.proofs.Common.{◌≡◌, ◌∙◌, ◌⊎◌, ℕ, ◌-◌, ◌<◌, Bool, true, false, List, []}
use Rattle.std.proofs.Common.{◌∷◌, ◌++◌, length}
use Rattle.std.proofs.Common.{refl, sym, ap, subst, inl, inr, arith, length-append, Contains, Option, Some, None, slice_get}
use Rattle.std.specs.Prelude.{option_map}
use Rattle.std.proofs.lemmas.Option.{slice_get_within}
use Rattle.lalrpop_grammar_symbols.specs.Symbols.{Text}
use Rattle.lalrpop_grammar_symbols.specs.declared.names.NonterminalString.{NonterminalString}
use Rattle.lalrpop_grammar_repr.specs.Maps.{at_name}
use Rattle.lalrpop_grammar_repr.specs.declared.grammar.Grammar.{Grammar}
use Rattle.lalrpop_lr1_theory.specs.Productions as theory
use Rattle.lalrpop_lr1_theory.specs.Trees.{AreOver, Forest, IsTreeOf, Move, leaf, moves, node, nodes, none, roots, yield}
use Rattle.lalrpop_lr1_theory.proofs.ListLemmas.{contains_get, get_contains}
use Rattle.lalrpop_lr1_theory.proofs.StepLemmas.{some_same}
use Rattle.lalrpop_lr1_core.specs.Views.{production_view}
use Rattle.lalrpop_lr1_first.specs.FirstNumbers.{name_count}
use Rattle.lalrpop_lr1_first.specs.FirstSetsOf.{IsProductionOf}
use Rattle.lalrpop_lr1_core.specs.TheoryGrammars.{productions_of_grammar}
use Rattle.lalrpop_lr1_first.specs.NumberedGrammars.{IsNumberTable, IsNumberTableOf, IsSeenIn, table_names, table_productions}
use Rattle.lalrpop_lr1_first.specs.Numbers.{SpellsSymbols}
use Rattle.lalrpop_lr1_first.specs.Tables.{pairs_from, symbol_or}
use Rattle.lalrpop_lr1_first.specs.declared.numbered.Numbered.{Numbered}
use Rattle.lalrpop_lr1_first.proofs.NameLemmas.{pairs_sound, pairs_total}
use Rattle.lalrpop_lr1_first.proofs.TableFirstLemmas.{seen_same}
use Rattle.lalrpop_lr1_first.proofs.TableLemmas.{name_at, get_some}
use Rattle.lalrpop_lr1_least_trees.specs.LeastTrees.{BuildLeast, IsLeast, IsLeastTree}
use Rattle.lalrpop_lr1_least_trees.specs.NumberedTrees.{Builds, nothing, reduces}
use Rattle.lalrpop_lr1_least_trees.specs.declared.least_counts.counts.LeastTree.{LeastTree}
use Rattle.lalrpop_lr1_least_trees.specs.declared.least_counts.rule.NumberMove.{NumberMove}
use Rattle.lalrpop_lr1_least_trees.specs.declared.least_counts.rule.NumberMove.TheVariants as numbered
use Rattle.lalrpop_lr1_least_trees.specs.GrammarTrees.{production_by, number_rules, productions_by, symbols_by}
use Rattle.lalrpop_lr1_least_trees.specs.LeastForests.{CountsLeast, HasLeastRoot, HaveLeastMoves}
use Rattle.lalrpop_lr1_least_trees.specs.LeastForests.{IsTreeOfKind}
use Rattle.lalrpop_lr1_least_trees.specs.MoveViews.{SpellsMoves}
use Rattle.lalrpop_lr1_least_trees.proofs.GrammarLemmas.{stand_for}
use Rattle.lalrpop_lr1_least_trees.proofs.SpellLemmas.{StandFor, built_long, builds_trees, spells_once, trees_built}

-- a tree with leaves or without
module _ (G : theory.Production → Type 0) (A : Text) where
  pub kind_parts : (leaves : Bool) (ts : Forest) → IsTreeOfKind G A leaves ts → IsTreeOf G A ts ×
      ((leaves ≡ true) ⊎ (yield ts ≡ []))
  kind_parts true ts w = (w, inl refl)
  kind_parts false ts w = (w.0, inr w.1)

  pub kind_from : (leaves : Bool) (ts : Forest) → IsTreeOf G A ts → (leaves ≡ false → yield ts ≡ []) → IsTreeOfKind G A leaves
      ts
  kind_from true ts t e = t
  kind_from false ts t e = (t, e refl)

-- the same trees
over_more : (G H : theory.Production → Type 0) → ((p : theory.Production) → G p → H p) → (ts : Forest) → AreOver G ts →
    AreOver H ts
over_more G H more none over = tt
over_more G H more (leaf t ts) over = over_more G H more ts over
over_more G H more (node p cs ts) over = (more p over.0, over.1, over_more G H more cs over.2, over_more G H more ts over.3)

kind_more : (G H : theory.Production → Type 0) → ((p : theory.Production) → G p → H p) → (A : Text) (leaves : Bool)
    (ts : Forest) →
    IsTreeOfKind G A leaves ts → IsTreeOfKind H A leaves ts
kind_more G H more A true ts w = (w.0, over_more G H more ts w.1)
kind_more G H more A false ts w = ((w.0.0, over_more G H more ts w.0.1), w.1)

-- what is least among trees is least among the same trees
module _ (V W : Forest → Type 0) (forth : (ts : Forest) → V ts → W ts) (back : (ts : Forest) → W ts → V ts) where
  pub counts_same : (o : Option ℕ) → CountsLeast V o → CountsLeast W o
  counts_same None h = λ ts w. h ts (back ts w)
  counts_same (Some c) h =
      record { tree = h.tree; wanted = forth h.tree h.wanted; is = h.is; least = λ ts w. h.least ts (back ts w) }

  pub roots_same : (o : Option theory.Production) → HasLeastRoot V o → HasLeastRoot W o
  roots_same None h = λ ts w. h ts (back ts w)
  roots_same (Some p) h = record {
    children = h.children;
    wanted = forth (node p h.children none) h.wanted;
    least = λ ts w. h.least ts (back ts w);
  }

  pub moves_same : (o : Option (List Move)) → HaveLeastMoves V o → HaveLeastMoves W o
  moves_same None h = λ ts w. h ts (back ts w)
  moves_same (Some all) h = record {
    trees = h.trees;
    wanted = forth h.trees h.wanted;
    moves_are = h.moves_are;
    least = λ ts w. h.least ts (back ts w);
  }

module _ (table : Numbered) (is : IsNumberTable table) where
  abbrev at : ℕ → Option theory.Symbol
  at = symbols_by table

  abbrev G : theory.Production → Type 0
  G = IsSeenIn (table_productions table)

  -- a name by its number
  pub named : (n : NonterminalString) (k : ℕ) → at_name n (pairs_from 0 (table_names table)) ≡ Some k → at k ≡ Some
      (theory.nonterminal n.0)
  named n k e =
      let r = pairs_sound (table_names table) 0 n k e in
      let here : slice_get (table_names table) k ≡ Some n =
      ap (slice_get (table_names table)) (let z : k ≡ r.0 = omega (arith, r.1) in z) ∙ r.2 in
      ap (λ o. symbol_or o (slice_get table.terminals.now.all (k - length (table_names table)))) here

  -- the root of a tree has a number
  tree_named : (n : NonterminalString) (ts : Forest) → IsTreeOf G n.0 ts → Contains (table_names table) n
  tree_named n none t = let e = t.0 in let w : ⊥ = cc in absurd w
  tree_named n (leaf u ts) t = let e = t.0 in let w : ⊥ = cc in absurd w
  tree_named n (node p cs ts) t =
      let e = t.0 in
      let left : p.left ≡ n.0 = cc in
      let stand = stand_for table is in
      let k = contains_get (productions_by table) p t.1.0 in
      let rule = get_some (number_rules table) k.0 (omega (arith, slice_get_within (productions_by table) k.0 p k.1, stand.count)) in
      let m = name_at table.terminals.now is.terminals (table_names table) is.names rule.0.left p.left
      (stand.left k.0 rule.0 p rule.1 k.1) in
      let same : m.0 ≡ n = ap (λ (l : Text). record { 0 = l }) (m.2 ∙ left) in
      subst (Contains (table_names table)) same (get_contains (table_names table) rule.0.left m.0 m.1)

  -- a name without a number has no tree
  pub unnumbered : (n : NonterminalString) → at_name n (pairs_from 0 (table_names table)) ≡ None → (leaves : Bool) (ts : Forest) →
      IsTreeOfKind G n.0 leaves ts → ⊥
  unnumbered n e leaves ts w =
      let there = pairs_total (table_names table) 0 n (tree_named n ts (kind_parts G n.0 leaves ts w).0) in
      let both : Some there.0 ≡ None = sym there.1 ∙ e in
      let z : ⊥ = cc in z

  module _ (A : Text) (s : ℕ) (number : at s ≡ Some (theory.nonterminal A)) (leaves : Bool) where
    abbrev Wanted : Forest → Type 0
    Wanted = IsTreeOfKind G A leaves

    abbrev Built : List NumberMove → Type 0
    Built = Builds (number_rules table) (name_count table) leaves (s ∷ [])

    stand : StandFor at (name_count table) (number_rules table) (productions_by table)
    stand = stand_for table is

    -- moves by numbers for a tree, and a tree for moves by numbers
    numbers_for : (ts : Forest) → Wanted ts → (ms : List NumberMove) × Built ms × (length ms ≡ nodes ts)
    numbers_for ts w =
        let k = kind_parts G A leaves ts w in
        let roots_spelled : SpellsSymbols at (s ∷ []) (roots ts) = subst (SpellsSymbols at (s ∷ [])) (sym k.0.0) (number, tt) in
        let b = trees_built at (name_count table) (number_rules table) (productions_by table) stand leaves ts k.0.1 k.1 (s ∷ [])
        roots_spelled in (
          b.numbers,
          b.builds,
          built_long at (name_count table) (number_rules table) (productions_by table) stand leaves ts b.numbers b.spelled,
        )

    tree_for : (ms : List NumberMove) → Built ms → (ts : Forest) × Wanted ts × SpellsMoves at (production_by table) ms (moves ts)
    tree_for ms b =
        let r = builds_trees at (name_count table) (number_rules table) (productions_by table) stand leaves b
        (theory.nonterminal A ∷ []) (number, tt) in
        (r.trees, kind_from G A leaves r.trees (r.roots_are, r.over) r.leafless, r.spelled)

    long : (ms : List NumberMove) (ts : Forest) → SpellsMoves at (production_by table) ms (moves ts) → length ms ≡ nodes ts
    long ms ts sp = built_long at (name_count table) (number_rules table) (productions_by table) stand leaves ts ms sp

    -- the whole tree that an entry speaks of
    whole : (tree : LeastTree) (l : IsLeastTree (number_rules table) (name_count table) leaves s tree) →
        Built (l.built.moves ++ numbered.Reduce tree.rule ∷ [])
    whole tree l =
        subst (λ k. Builds (number_rules table) (name_count table) leaves (k ∷ []) (l.built.moves ++ numbered.Reduce tree.rule ∷ []))
        l.built.left (reduces tree.rule l.built.rule l.built.at l.built.builds nothing)

    pub counts_least : (o : Option LeastTree) → IsLeast (number_rules table) (name_count table) leaves s o →
        CountsLeast Wanted (option_map (λ t. t.count) o)
    counts_least None l = λ ts w. let n = numbers_for ts w in l n.0 n.1
    counts_least (Some tree) l =
        let t = tree_for (l.built.moves ++ numbered.Reduce tree.rule ∷ []) (whole tree l) in
        record {
          tree = t.0;
          wanted = t.1;
          is = omega (
            arith,
            long (l.built.moves ++ numbered.Reduce tree.rule ∷ []) t.0 t.2,
            length-append l.built.moves (numbered.Reduce tree.rule ∷ []),
            l.built.count,
          );
          least = λ ts w. let n = numbers_for ts w in omega (arith, l.least n.0 n.1, n.2);
        }

    -- the production at the root of the tree that an entry speaks of
    pub root_there : (tree : LeastTree) → IsLeastTree (number_rules table) (name_count table) leaves s tree →
        tree.rule < length (productions_by table)
    root_there tree l =
        omega (arith, slice_get_within (number_rules table) tree.rule l.built.rule l.built.at, stand.count)

    pub root_least : (tree : LeastTree) (p : theory.Production) → IsLeastTree (number_rules table) (name_count table) leaves s tree →
        slice_get (productions_by table) tree.rule ≡ Some p → HasLeastRoot Wanted (Some p)
    root_least tree p l at_p =
        let left = stand.left tree.rule l.built.rule p l.built.at at_p in
        let named : theory.nonterminal p.left ≡ theory.nonterminal A =
        some_same (theory.nonterminal p.left) (theory.nonterminal A) (sym left ∙ ap at l.built.left ∙ number) in
        let c = builds_trees at (name_count table) (number_rules table) (productions_by table) stand leaves l.built.builds p.right
        (stand.right tree.rule l.built.rule p l.built.at at_p) in
        record {
          children = c.trees;
          wanted = kind_from G A leaves (node p c.trees none) (
            ap (λ x. x ∷ []) named,
            (get_contains (productions_by table) tree.rule p at_p, c.roots_are, c.over, tt),
          ) (λ e. ap (λ y. y ++ []) (c.leafless e));
          least = λ ts w.
              let n = numbers_for ts w in
              omega (arith, l.least n.0 n.1, n.2, l.built.count, long l.built.moves c.trees c.spelled);
        }

    -- no entry, no tree
    pub none_least : IsLeast (number_rules table) (name_count table) leaves s None → (ts : Forest) → Wanted ts → ⊥
    none_least l ts w = let n = numbers_for ts w in l n.0 n.1

    -- moves that are named are those of a tree
    pub named_moves : (ms : List NumberMove) → Built ms → (all : List Move) × SpellsMoves at (production_by table) ms all
    named_moves ms b = let t = tree_for ms b in (moves t.0, t.2)

    pub moves_least : (ms : List NumberMove) (all : List Move) → BuildLeast (number_rules table) (name_count table) leaves (s ∷ []) ms
        →
        SpellsMoves at (production_by table) ms all → HaveLeastMoves Wanted (Some all)
    moves_least ms all l sp =
        let t = tree_for ms l.builds in
        record {
          trees = t.0;
          wanted = t.1;
          moves_are = spells_once at (production_by table) ms all (moves t.0) sp t.2;
          least = λ ts w. let n = numbers_for ts w in omega (arith, l.least n.0 n.1, n.2, long ms t.0 t.2);
        }

-- trees over the table's productions are those over the grammar's
module _ (g : Grammar) (table : Numbered) (of : IsNumberTableOf g table) (A : Text) (leaves : Bool) where
  pub table_to_grammar : (ts : Forest) → IsTreeOfKind (IsSeenIn (table_productions table)) A leaves ts →
      IsTreeOfKind (IsProductionOf g) A leaves ts
  table_to_grammar ts w =
      kind_more (IsSeenIn (table_productions table)) (IsProductionOf g)
      (seen_same production_view (table_productions table) (productions_of_grammar g) of.productions) A leaves ts w

  pub grammar_to_table : (ts : Forest) → IsTreeOfKind (IsProductionOf g) A leaves ts →
      IsTreeOfKind (IsSeenIn (table_productions table)) A leaves ts
  grammar_to_table ts w =
      kind_more (IsProductionOf g) (IsSeenIn (table_productions table))
      (seen_same production_view (productions_of_grammar g) (table_productions table) (λ p. ((of.productions p).1, (of.productions p).0)))
      A leaves ts w
