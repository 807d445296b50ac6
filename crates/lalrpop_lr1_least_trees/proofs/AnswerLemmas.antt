-- What the calls on least trees answer, by the entry of a name: for their contracts.
use Rattle.std.proofs.Common.{◌≡◌, ◌∙◌, ℕ, ◌<◌, Bool, List, [], ◌∷◌, length}
use Rattle.std.proofs.Common.{refl, sym, ap, subst, arith, Option, Some, None, slice_get}
use Rattle.std.specs.Option.{option_and_then}
use Rattle.std.proofs.lemmas.Option.{slice_get-get_or}
use Rattle.lalrpop_grammar_symbols.specs.declared.names.NonterminalString.{NonterminalString}
use Rattle.lalrpop_grammar_repr.specs.Maps.{at_name}
use Rattle.lalrpop_grammar_repr.specs.declared.grammar.Grammar.{Grammar}
use Rattle.lalrpop_lr1_theory.specs.Productions as theory
use Rattle.lalrpop_lr1_theory.specs.Trees.{Forest, Move}
use Rattle.lalrpop_lr1_first.specs.FirstNumbers.{name_count}
use Rattle.lalrpop_lr1_first.specs.FirstSetsOf.{IsProductionOf}
use Rattle.lalrpop_lr1_first.specs.NumberedGrammars.{IsNumberTableOf, IsSeenIn, table_names, table_productions}
use Rattle.lalrpop_lr1_first.specs.Tables.{pairs_from}
use Rattle.lalrpop_lr1_least_trees.specs.LeastTrees.{AreLeast, AreLeastMoves, BuildLeast, IsLeast, IsLeastTree}
use Rattle.lalrpop_lr1_least_trees.specs.NumberedTrees.{Builds, NamesAreBelow, rule_views}
use Rattle.lalrpop_lr1_least_trees.specs.Openings.{entry_at}
use Rattle.lalrpop_lr1_least_trees.specs.declared.least_counts.counts.LeastTree.{LeastTree}
use Rattle.lalrpop_lr1_least_trees.specs.declared.least_counts.rule.NumberMove.{NumberMove}
use Rattle.lalrpop_lr1_least_trees.specs.declared.least_counts.rule.Rule.{Rule}
use Rattle.lalrpop_lr1_least_trees.specs.declared.least_trees.LeastTrees.{LeastTrees}
use Rattle.lalrpop_lr1_least_trees.specs.GrammarTrees.{production_by, AreLeastTrees, HaveNames, entries_of, entry_of}
use Rattle.lalrpop_lr1_least_trees.specs.GrammarTrees.{number_rules, productions_by}
use Rattle.lalrpop_lr1_least_trees.specs.GrammarTrees.{symbols_by}
use Rattle.lalrpop_lr1_least_trees.specs.LeastForests.{CountsLeast, HasLeastRoot, HaveLeastMoves, IsTreeOfKind}
use Rattle.lalrpop_lr1_least_trees.specs.MoveViews.{SpellsMoves}
use Rattle.lalrpop_lr1_least_trees.proofs.GrammarLemmas.{names_below, stand_for}
use Rattle.lalrpop_lr1_least_trees.proofs.LeastLemmas.{counts_least, counts_same, grammar_to_table, moves_least, moves_same, named}
use Rattle.lalrpop_lr1_least_trees.proofs.LeastLemmas.{named_moves, none_least, root_least, root_there, roots_same, table_to_grammar}
use Rattle.lalrpop_lr1_least_trees.proofs.LeastLemmas.{unnumbered}
use Rattle.lalrpop_lr1_least_trees.proofs.SpellLemmas.{spelled_names}

module _ (it : LeastTrees) (are : AreLeastTrees it) (leaves : Bool) (rules : List Rule) (entries : List (Option LeastTree))
    (rules_are : rules ≡ it.rules.items) (entries_are : entries ≡ entries_of it leaves) where
  views : rule_views rules ≡ number_rules it.table
  views = ap rule_views rules_are ∙ are.rules

  long : length entries ≡ name_count it.table
  long = ap length entries_are ∙ (are.least leaves).count

  -- the rules and entries as they are lent
  pub lent_names : NamesAreBelow (length entries) (rule_views rules)
  lent_names =
      subst (λ k. NamesAreBelow k (rule_views rules)) (sym long)
      (subst (NamesAreBelow (name_count it.table)) (sym views) (names_below it.table are.table))

  pub lent_least : AreLeast (rule_views rules) (length entries) leaves entries
  lent_least =
      subst (λ k. AreLeast (rule_views rules) k leaves entries) (sym long)
      (subst (λ es. AreLeast (rule_views rules) (name_count it.table) leaves es) (sym entries_are)
      (subst (λ rs. AreLeast rs (name_count it.table) leaves (entries_of it leaves)) (sym views) (are.least leaves)))

  pub lent_moves : (ss : List ℕ) (found : Option (List NumberMove)) → AreLeastMoves (rule_views rules) (length entries) leaves ss
      found →
      AreLeastMoves (number_rules it.table) (name_count it.table) leaves ss found
  lent_moves ss found m =
      subst (λ k. AreLeastMoves (number_rules it.table) k leaves ss found) long
      (subst (λ rs. AreLeastMoves rs (length entries) leaves ss found) views m)

module _ (it : LeastTrees) (are : AreLeastTrees it) (n : NonterminalString) (leaves : Bool) where
  abbrev Least : ℕ → Option LeastTree → Type 0
  Least = IsLeast (number_rules it.table) (name_count it.table) leaves

  number_in : (k : ℕ) → at_name n it.numbers ≡ Some k → at_name n (pairs_from 0 (table_names it.table)) ≡ Some k
  number_in k e = ap (at_name n) (sym are.numbers) ∙ e

  -- the symbol with a name's number
  pub symbol_there : (k : ℕ) → at_name n it.numbers ≡ Some k → symbols_by it.table k ≡ Some (theory.nonterminal n.0)
  symbol_there k e = named it.table are.table n k (number_in k e)

  -- its entry is that of its least tree
  pub entry_least : (k : ℕ) → at_name n it.numbers ≡ Some k → Least k (entry_at (entries_of it leaves) k)
  entry_least k e =
      let l = are.least leaves in
      let below = (stand_for it.table are.table).name_below k n.0 (symbol_there k e) in
      l.least k (entry_at (entries_of it leaves) k) (slice_get-get_or (entries_of it leaves) k None (omega (arith, below, l.count)))

  -- a name without a number has no tree
  pub nothing_there : at_name n it.numbers ≡ None → (g : Grammar) → IsNumberTableOf g it.table → (ts : Forest) →
      IsTreeOfKind (IsProductionOf g) n.0 leaves ts → ⊥
  nothing_there e g of ts w =
      unnumbered it.table are.table n (ap (at_name n) (sym are.numbers) ∙ e) leaves ts (grammar_to_table g it.table of n.0 leaves ts w)

  -- what an entry says
  pub record IsEntry (tree : LeastTree) : Type 0 where
    pub number : ℕ
    pub symbol : symbols_by it.table number ≡ Some (theory.nonterminal n.0)
    pub least : IsLeastTree (number_rules it.table) (name_count it.table) leaves number tree

  abbrev pub Says : Option LeastTree → Type 0
  Says None = (ts : Forest) → IsTreeOfKind (IsSeenIn (table_productions it.table)) n.0 leaves ts → ⊥
  Says (Some tree) = IsEntry tree

  pub entry_says : (o : Option LeastTree) → o ≡ entry_of it leaves n → Says o
  entry_says o e = go (at_name n it.numbers) refl
    where
      at_number : (k : ℕ) → at_name n it.numbers ≡ Some k → (x : Option LeastTree) → x ≡ entry_at (entries_of it leaves) k →
          Says x
      at_number k f None g =
          none_least it.table are.table n.0 k (symbol_there k f) leaves (subst (Least k) (sym g) (entry_least k f))
      at_number k f (Some tree) g =
          record { number = k; symbol = symbol_there k f; least = subst (Least k) (sym g) (entry_least k f) }

      go : (number : Option ℕ) → at_name n it.numbers ≡ number → Says o
      go None f =
          subst Says (sym (e ∙ ap (option_and_then (entry_at (entries_of it leaves))) f))
          (λ ts w. unnumbered it.table are.table n (ap (at_name n) (sym are.numbers) ∙ f) leaves ts w)
      go (Some k) f = at_number k f o (e ∙ ap (option_and_then (entry_at (entries_of it leaves))) f)

  module _ (g : Grammar) (of : IsNumberTableOf g it.table) where
    abbrev Table : Forest → Type 0
    Table = IsTreeOfKind (IsSeenIn (table_productions it.table)) n.0 leaves

    abbrev Wanted : Forest → Type 0
    Wanted = IsTreeOfKind (IsProductionOf g) n.0 leaves

    pub none_wanted : Says None → (ts : Forest) → Wanted ts → ⊥
    none_wanted s ts w = s ts (grammar_to_table g it.table of n.0 leaves ts w)

    pub count_answer : (tree : LeastTree) → IsEntry tree → CountsLeast Wanted (Some tree.count)
    count_answer tree s =
        counts_same Table Wanted (table_to_grammar g it.table of n.0 leaves) (grammar_to_table g it.table of n.0 leaves) (Some tree.count)
        (counts_least it.table are.table n.0 s.number s.symbol leaves (Some tree) s.least)

    pub root_answer : (tree : LeastTree) (p : theory.Production) → IsEntry tree → slice_get (productions_by it.table) tree.rule ≡
        Some p →
        HasLeastRoot Wanted (Some p)
    root_answer tree p s e =
        roots_same Table Wanted (table_to_grammar g it.table of n.0 leaves) (grammar_to_table g it.table of n.0 leaves) (Some p)
        (root_least it.table are.table n.0 s.number s.symbol leaves tree p s.least e)

    pub moves_answer : (k : ℕ) → at_name n it.numbers ≡ Some k → (ms : List NumberMove) (all : List Move) →
        BuildLeast (number_rules it.table) (name_count it.table) leaves (k ∷ []) ms →
        SpellsMoves (symbols_by it.table) (production_by it.table) ms all → HaveLeastMoves Wanted (Some all)
    moves_answer k e ms all l sp =
        moves_same Table Wanted (table_to_grammar g it.table of n.0 leaves) (grammar_to_table g it.table of n.0 leaves) (Some all)
        (moves_least it.table are.table n.0 k (symbol_there k e) leaves ms all l sp)

  -- the root of an entry's tree is a production
  pub root_inside : (tree : LeastTree) → IsEntry tree → tree.rule < length (productions_by it.table)
  root_inside tree s = root_there it.table are.table n.0 s.number s.symbol leaves tree s.least

  -- moves that build a tree have names
  pub moves_named : (k : ℕ) → at_name n it.numbers ≡ Some k → (ms : List NumberMove) →
      BuildLeast (number_rules it.table) (name_count it.table) leaves (k ∷ []) ms → HaveNames it.table ms
  moves_named k e ms l =
      let m = named_moves it.table are.table n.0 k (symbol_there k e) leaves ms l.builds in
      λ j number at. let r = spelled_names (symbols_by it.table) (production_by it.table) ms m.0 m.1 j number at in
      record { move = r.0; is = r.1 }

  -- where the moves of no tree of the name were found, there is none
  pub no_moves : (k : ℕ) → at_name n it.numbers ≡ Some k →
      ((ms : List NumberMove) → Builds (number_rules it.table) (name_count it.table) leaves (k ∷ []) ms → ⊥) →
      (g : Grammar) → IsNumberTableOf g it.table → (ts : Forest) → IsTreeOfKind (IsProductionOf g) n.0 leaves ts → ⊥
  no_moves k e none g of ts w =
      none_least it.table are.table n.0 k (symbol_there k e) leaves none ts (grammar_to_table g it.table of n.0 leaves ts w)
