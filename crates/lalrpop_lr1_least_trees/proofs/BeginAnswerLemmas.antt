-- What the calls on trees that begin with a terminal answer: for their contracts.
use Rattle.std.proofs.Common.{◌≡◌, ◌∙◌, ℕ, zero, suc, ◌<◌, true, List, [], ◌∷◌, ◌++◌, length, map, take, drop}
use Rattle.std.proofs.Common.{ap, sym, subst, refl, arith, length-append, Option, Some, inl, inr, ⊎_elim}
use Rattle.std.specs.Prelude.{slice_index_or}
use Rattle.std.proofs.lemmas.List.{length-map}
use Rattle.lalrpop_grammar_symbols.specs.Symbols.{Terminal}
use Rattle.lalrpop_grammar_symbols.specs.declared.names.NonterminalString.{NonterminalString}
use Rattle.lalrpop_grammar_repr.specs.Maps.{at_name}
use Rattle.lalrpop_grammar_repr.specs.declared.grammar.Grammar.{Grammar}
use Rattle.lalrpop_lr1_theory.specs.Productions as theory
use Rattle.lalrpop_lr1_theory.specs.Trees.{Forest, IsTreeOf, Move, moves, node, none, roots, ◌and◌}
use Rattle.lalrpop_lr1_theory.proofs.ListLemmas.{get_contains}
use Rattle.lalrpop_lr1_theory.proofs.StepLemmas.{some_same}
use Rattle.lalrpop_lr1_theory.proofs.TreeLemmas.{length-moves, over-and, roots-and}
use Rattle.lalrpop_lr1_first.specs.FirstNumbers.{name_count}
use Rattle.lalrpop_lr1_first.specs.FirstSetsOf.{IsProductionOf}
use Rattle.lalrpop_lr1_first.specs.NumberedGrammars.{IsNumberTableOf, IsSeenIn, table_productions}
use Rattle.lalrpop_lr1_first.specs.Numbers.{SpellsSymbols}
use Rattle.lalrpop_lr1_first.specs.declared.numbered.Numbered.{Numbered}
use Rattle.lalrpop_lr1_least_trees.specs.LeastTrees.{IsLeastTree, capped_count}
use Rattle.lalrpop_lr1_least_trees.specs.NumberedTrees.{Builds, NumberRule, nothing, reduces, rule_views}
use Rattle.lalrpop_lr1_least_trees.specs.declared.least_counts.counts.LeastTree.{LeastTree}
use Rattle.lalrpop_lr1_least_trees.specs.declared.least_counts.rule.NumberMove.{NumberMove}
use Rattle.lalrpop_lr1_least_trees.specs.declared.least_counts.rule.NumberMove.TheVariants.{Reduce}
use Rattle.lalrpop_lr1_least_trees.proofs.BuildLemmas.{IsSplit, builds-split}
use Rattle.lalrpop_lr1_least_trees.specs.GrammarTrees.{number_rules, productions_by, symbols_by}
use Rattle.lalrpop_lr1_least_trees.specs.MoveViews.{SpellsMoves}
use Rattle.lalrpop_lr1_least_trees.proofs.GrammarLemmas.{stand_for}
use Rattle.lalrpop_lr1_least_trees.proofs.LeastLemmas.{grammar_to_table, table_to_grammar}
use Rattle.lalrpop_lr1_least_trees.proofs.SpellLemmas.{StandFor, spelled_names, spells_once}
use Rattle.lalrpop_lr1_least_trees.specs.declared.begin_trees.begin_trees.BeginTrees.{BeginTrees}
use Rattle.lalrpop_lr1_least_trees.specs.BeginForests.{HaveBeginMoves, IsBeginCount, IsBeginRoot, IsBeginTreeOf, IsWanted}
use Rattle.lalrpop_lr1_least_trees.specs.BeginTables.{AreBeginTrees, HaveDerivedNames}
use Rattle.lalrpop_lr1_least_trees.specs.BeginTables.{derived_production_by, derived_symbol_by}
use Rattle.lalrpop_lr1_least_trees.specs.DerivedRules.{IsBeginOf, IsDerived, all_names, begin_side, begin_symbol, empty_symbol}
use Rattle.lalrpop_lr1_least_trees.specs.DerivedRules.{whole_symbol}
use Rattle.lalrpop_lr1_least_trees.proofs.BackLemmas.{begin_built}
use Rattle.lalrpop_lr1_least_trees.proofs.BeginLemmas.{number_below, number_symbol}
use Rattle.lalrpop_lr1_least_trees.proofs.ForthLemmas.{AreTold, HasSource, SourceSays, derived_trees, source, source_below}
use Rattle.lalrpop_lr1_least_trees.proofs.ForthLemmas.{source_says}
use Rattle.lalrpop_lr1_least_trees.proofs.KindLemmas.{Begins, all_empty, at_down, down_begin}

-- a spelled list, taken apart
pub record IsSpelledSplit (at : ℕ → Option theory.Symbol) (ss ts : List ℕ) (xs : List theory.Symbol) : Type 0 where
  pub front : List theory.Symbol
  pub back : List theory.Symbol
  pub parts : xs ≡ front ++ back
  pub front_spelled : SpellsSymbols at ss front
  pub back_spelled : SpellsSymbols at ts back

spelled_split : (at : ℕ → Option theory.Symbol) (ss ts : List ℕ) (xs : List theory.Symbol) → SpellsSymbols at (ss ++ ts) xs →
    IsSpelledSplit at ss ts xs
spelled_split at [] ts xs sp = record { front = []; back = xs; parts = refl; front_spelled = tt; back_spelled = sp }
spelled_split at (s ∷ ss) ts [] sp = absurd sp
spelled_split at (s ∷ ss) ts (x ∷ xs) sp =
    let r = spelled_split at ss ts xs sp.1 in
    record {
      front = x ∷ r.front;
      back = r.back;
      parts = ap (λ l. x ∷ l) r.parts;
      front_spelled = (sp.0, r.front_spelled);
      back_spelled = r.back_spelled;
    }

spelled_as_long : (at : ℕ → Option theory.Symbol) (by : ℕ → Option theory.Production) (ns : List NumberMove) (ms : List Move) →
    SpellsMoves at by ns ms → length ms ≡ length ns
spelled_as_long at by [] [] sp = refl
spelled_as_long at by [] (m ∷ ms) sp = absurd sp
spelled_as_long at by (n ∷ ns) [] sp = absurd sp
spelled_as_long at by (n ∷ ns) (m ∷ ms) sp = ap suc (spelled_as_long at by ns ms sp.1)

spelled_long : (at : ℕ → Option theory.Symbol) (ss : List ℕ) (xs : List theory.Symbol) → SpellsSymbols at ss xs → length ss ≡
    length xs
spelled_long at [] [] sp = refl
spelled_long at [] (x ∷ xs) sp = absurd sp
spelled_long at (s ∷ ss) [] sp = absurd sp
spelled_long at (s ∷ ss) (x ∷ xs) sp = ap suc (spelled_long at ss xs sp.1)

taken_long : (xs : List ℕ) (n : ℕ) → n < length xs → length (take n xs) ≡ n
taken_long [] n h = absurd (omega arith)
taken_long (x ∷ xs) zero h = refl
taken_long (x ∷ xs) (suc n) h = ap suc (taken_long xs n (omega arith))

module _ (it : BeginTrees) (are : AreBeginTrees it) (t : Terminal) (wanted : IsWanted (symbols_by it.trees.now.table) t it.wanted) where
  abbrev table : Numbered
  table = it.trees.now.table

  abbrev names : ℕ
  names = name_count it.trees.now.table

  abbrev G : theory.Production → Type 0
  G = IsSeenIn (table_productions it.trees.now.table)

  abbrev drules : List NumberRule
  drules = rule_views it.derived.rules.items

  abbrev B : List ℕ → List NumberMove → Type 0
  B = Builds (rule_views it.derived.rules.items) (all_names (name_count it.trees.now.table)) true

  pub stand : StandFor (symbols_by table) names (number_rules table) (productions_by table)
  stand = stand_for table are.trees.table

  -- trees for moves by derived rules
  told : (ss : List ℕ) (ms : List NumberMove) → B ss ms → (xs : List theory.Symbol) → SpellsSymbols (derived_symbol_by table) ss
      xs →
      AreTold (symbols_by table) names (number_rules table) (productions_by table) stand it.wanted t wanted it.derived are.derived ss xs ms
  told ss ms b xs sp =
      derived_trees (symbols_by table) names (number_rules table) (productions_by table) stand it.wanted t wanted it.derived are.derived b
      xs sp

  module _ (n : NonterminalString) (k : ℕ) (number : at_name n it.trees.now.numbers ≡ Some k) where
    abbrev b : ℕ
    b = begin_symbol names k

    below : k < names
    below = number_below it are n k number

    symbol : derived_symbol_by table (begin_symbol names k) ≡ Some (theory.nonterminal n.0)
    symbol = ap (symbols_by table) (down_begin names k) ∙ number_symbol it are n k number

    -- the tree that moves build begins with the terminal
    begin_tree : (ms : List NumberMove) → B (b ∷ []) ms →
        (ts : Forest) × IsBeginTreeOf G n.0 t ts × SpellsMoves (derived_symbol_by table) (derived_production_by table it.derived) ms
        (moves ts)
    begin_tree ms built =
        let r = told (b ∷ []) ms built (theory.nonterminal n.0 ∷ []) (symbol, tt) in
        (r.trees, ((r.roots_are, r.over), r.begins (inl (omega arith, inl (omega (arith, below))))), r.spelled)

    -- and a tree that begins with it has moves
    begin_moves : (ts : Forest) → IsBeginTreeOf G n.0 t ts → (ms : List NumberMove) × B (b ∷ []) ms
    begin_moves ts w =
        let roots_spelled : SpellsSymbols (symbols_by table) (k ∷ []) (roots ts) =
        subst (SpellsSymbols (symbols_by table) (k ∷ [])) (sym w.0.0) (number_symbol it are n k number, tt) in
        let r = begin_built (symbols_by table) names (number_rules table) (productions_by table) stand it.wanted t wanted it.derived
        are.derived
        ts w.0.1 w.1 (k ∷ []) roots_spelled in
        let here : r.place ≡ 0 = omega (arith, r.may.within) in
        (r.moves, subst (λ p. B (begin_side names (k ∷ []) p) r.moves) here r.builds)

    module _ (g : Grammar) (of : IsNumberTableOf g table) where
      to_table : (ts : Forest) → IsBeginTreeOf (IsProductionOf g) n.0 t ts → IsBeginTreeOf G n.0 t ts
      to_table ts w = (grammar_to_table g table of n.0 true ts w.0, w.1)

      to_grammar : (ts : Forest) → IsTreeOf G n.0 ts → IsTreeOf (IsProductionOf g) n.0 ts
      to_grammar ts w = table_to_grammar g table of n.0 true ts w

      pub none_begins : ((ms : List NumberMove) → B (b ∷ []) ms → ⊥) → (ts : Forest) → IsBeginTreeOf (IsProductionOf g) n.0 t
          ts → ⊥
      none_begins empty ts w = let r = begin_moves ts (to_table ts w) in empty r.0 r.1

      pub begin_moves_answer : (ms : List NumberMove) (all : List Move) → B (b ∷ []) ms →
          SpellsMoves (derived_symbol_by table) (derived_production_by table it.derived) ms all → HaveBeginMoves (IsProductionOf g) n.0
          t (Some all)
      begin_moves_answer ms all built sp =
          let r = begin_tree ms built in
          record {
            tree = r.0;
            begins = (to_grammar r.0 r.1.0, r.1.1);
            moves_are = spells_once (derived_symbol_by table) (derived_production_by table it.derived) ms all (moves r.0) sp r.2;
          }

    -- the moves have names
    pub derived_named : (ms : List NumberMove) → B (b ∷ []) ms → HaveDerivedNames it ms
    derived_named ms built =
        let r = begin_tree ms built in
        λ j number at.
        let m = spelled_names (derived_symbol_by table) (derived_production_by table it.derived) ms (moves r.0) r.2 j number at in
        record { move = m.0; is = m.1 }

    -- the production and the place of an entry
    pub record HasRoot (tree : LeastTree) : Type 0 where
      pub source_is : (d : NumberRule) × HasSource (symbols_by table) names (number_rules table) (productions_by table) stand it.wanted t
          wanted it.derived are.derived tree.rule d
      pub root : (g : Grammar) → IsNumberTableOf g table →
          IsBeginRoot (IsProductionOf g) n.0 t source_is.1.production source_is.1.origin.place

    module _ (tree : LeastTree) (l : IsLeastTree drules (all_names names) true b tree) where
      abbrev d : NumberRule
      d = l.built.rule

      s : HasSource (symbols_by table) names (number_rules table) (productions_by table) stand it.wanted t wanted it.derived are.derived
          tree.rule l.built.rule
      s = source (symbols_by table) names (number_rules table) (productions_by table) stand it.wanted t wanted it.derived are.derived
          tree.rule l.built.rule l.built.at

      rule_below : s.rule.left < names
      rule_below = source_below (symbols_by table) names (number_rules table) (productions_by table) stand it.wanted t wanted it.derived
          are.derived tree.rule l.built.rule s

      begin_of : IsBeginOf names it.wanted s.rule s.origin.place d
      begin_of = go s.is
        where
          go : IsDerived names it.wanted s.rule s.origin.place d → IsBeginOf names it.wanted s.rule s.origin.place d
          go (inl w) =
              let left : d.left ≡ s.rule.left = ap (λ (x : NumberRule). x.left) w.1 in
              absurd (omega (arith, left, rule_below, l.built.left))
          go (inr (inl w)) =
              let left : d.left ≡ empty_symbol names s.rule.left = ap (λ (x : NumberRule). x.left) w.2 in
              absurd (omega (arith, left, rule_below, l.built.left))
          go (inr (inr w)) = w

      side : d.right ≡ begin_side names s.rule.right s.origin.place
      side = ap (λ (x : NumberRule). x.right) begin_of.1.1

      -- so many leaves and nodes has the tree that the entry's moves build
      pub begin_count : (g : Grammar) → IsNumberTableOf g table → IsBeginCount (IsProductionOf g) n.0 t tree.count
      begin_count g of =
          let all = l.built.moves ++ Reduce tree.rule ∷ [] in
          let whole : B (b ∷ []) all =
          subst (λ x. B (x ∷ []) all) l.built.left (reduces tree.rule l.built.rule l.built.at l.built.builds nothing) in
          let r = begin_tree all whole in
          let long : length (moves r.0) ≡ suc (length l.built.moves) =
          omega (
            arith,
            spelled_as_long (derived_symbol_by table) (derived_production_by table it.derived) all (moves r.0) r.2,
            length-append l.built.moves (Reduce tree.rule ∷ []),
          ) in
          record {
            tree = r.0;
            begins = (to_grammar g of r.0 r.1.0, r.1.1);
            is = ap capped_count (sym (length-moves r.0) ∙ long) ∙ l.built.count;
          }

      abbrev before : List ℕ
      before = map (empty_symbol names) (take s.origin.place s.rule.right)

      abbrev here : ℕ
      here = begin_symbol names (slice_index_or s.rule.right s.origin.place 0)

      abbrev after : List ℕ
      after = map (whole_symbol names) (drop (suc s.origin.place) s.rule.right)

      says : SourceSays (symbols_by table) names (number_rules table) (productions_by table) stand it.wanted t wanted it.derived are.derived
          tree.rule l.built.rule s
      says = source_says (symbols_by table) names (number_rules table) (productions_by table) stand it.wanted t wanted it.derived
          are.derived tree.rule l.built.rule s

      spelled : SpellsSymbols (derived_symbol_by table) (before ++ here ∷ after) s.production.right
      spelled = subst (λ ss. SpellsSymbols (derived_symbol_by table) ss s.production.right) side says.right

      moves_split : IsSplit drules (all_names names) true before (here ∷ after) l.built.moves
      moves_split = builds-split drules (all_names names) true l.built.builds before (here ∷ after) side

      rest_split : IsSplit drules (all_names names) true (here ∷ []) after moves_split.back
      rest_split = builds-split drules (all_names names) true moves_split.back_builds (here ∷ []) after refl

      first_parts : IsSpelledSplit (derived_symbol_by table) before (here ∷ after) s.production.right
      first_parts = spelled_split (derived_symbol_by table) before (here ∷ after) s.production.right spelled

      rest_parts : IsSpelledSplit (derived_symbol_by table) (here ∷ []) after first_parts.back
      rest_parts = spelled_split (derived_symbol_by table) (here ∷ []) after first_parts.back first_parts.back_spelled

      front : AreTold (symbols_by table) names (number_rules table) (productions_by table) stand it.wanted t wanted it.derived are.derived
          before first_parts.front moves_split.front
      front = told before moves_split.front moves_split.front_builds first_parts.front first_parts.front_spelled

      begun : AreTold (symbols_by table) names (number_rules table) (productions_by table) stand it.wanted t wanted it.derived are.derived
          (here ∷ []) rest_parts.front rest_split.front
      begun = told (here ∷ []) rest_split.front rest_split.front_builds rest_parts.front rest_parts.front_spelled

      behind : AreTold (symbols_by table) names (number_rules table) (productions_by table) stand it.wanted t wanted it.derived are.derived
          after rest_parts.back rest_split.back
      behind = told after rest_split.back rest_split.back_builds rest_parts.back rest_parts.back_spelled

      here_begins : Begins names it.wanted (here ∷ [])
      here_begins =
          inl (omega arith, ⊎_elim (λ h. inl (omega (arith, h))) (λ e. inr (ap (begin_symbol names) e)) begin_of.0.here)

      root : (g : Grammar) → IsNumberTableOf g table → IsBeginRoot (IsProductionOf g) n.0 t s.production s.origin.place
      root g of =
          let whole = front.trees and (begun.trees and behind.trees) in
          let left : at_down names (symbols_by table) d.left ≡ Some (theory.nonterminal n.0) =
          ap (at_down names (symbols_by table)) l.built.left ∙ symbol in
          let named : theory.nonterminal s.production.left ≡ theory.nonterminal n.0 =
          some_same (theory.nonterminal s.production.left) (theory.nonterminal n.0) (sym says.left ∙ left) in
          let sides : roots whole ≡ s.production.right =
          roots-and front.trees (begun.trees and behind.trees) ∙ ap (λ r. r ++ roots (begun.trees and behind.trees)) front.roots_are
          ∙ ap (λ r. first_parts.front ++ r) (roots-and begun.trees behind.trees ∙ ap (λ r. r ++ roots behind.trees) begun.roots_are
          ∙ ap (λ r. rest_parts.front ++ r) behind.roots_are ∙ sym rest_parts.parts) ∙ sym first_parts.parts in
          let over = over-and G front.trees (begun.trees and behind.trees) front.over
          (over-and G begun.trees behind.trees begun.over behind.over) in
          record {
            front = front.trees;
            here = begun.trees;
            behind = behind.trees;
            is_tree = to_grammar g of (node s.production whole none) (
              ap (λ x. x ∷ []) named,
              (get_contains (productions_by table) s.origin.rule s.production s.at_production, sides, over, tt),
            );
            place_is = ap length front.roots_are ∙ sym (spelled_long (derived_symbol_by table) before first_parts.front
                first_parts.front_spelled)
                ∙ length-map (take s.origin.place s.rule.right) (empty_symbol names)
                ∙ taken_long s.rule.right s.origin.place begin_of.0.within;
            one = ap length begun.roots_are
                ∙ sym (spelled_long (derived_symbol_by table) (here ∷ []) rest_parts.front rest_parts.front_spelled);
            empty = front.empty (all_empty names (take s.origin.place s.rule.right) begin_of.0.front);
            begins = begun.begins here_begins;
          }

      pub begin_root : HasRoot tree
      begin_root = record { source_is = (l.built.rule, s); root = root }
