-- Numbers of names, and the nodes by them: for the calls that ask for nodes.
use Rattle.std.proofs.Common.{◌≡◌, ◌∙◌, ◌+◌, ◌*◌, ◌<◌, ◌≤◌, ℕ, suc, true, Option, Some, None}
use Rattle.std.proofs.Common.{sym, ap, arith}
use Rattle.std.proofs.Math.Nat.{mul-le-mul_right, suc-mul}
use Rattle.lalrpop_grammar_symbols.specs.Symbols.{Text}
use Rattle.lalrpop_grammar_symbols.specs.declared.names.NonterminalString.{NonterminalString}
use Rattle.lalrpop_grammar_repr.specs.Maps.{at_name}
use Rattle.lalrpop_lr1_theory.specs.Productions as theory
use Rattle.lalrpop_lr1_theory.proofs.ListLemmas.{get_contains}
use Rattle.lalrpop_lr1_first.specs.FirstNumbers.{name_count}
use Rattle.lalrpop_lr1_first.specs.NumberedGrammars.{table_names}
use Rattle.lalrpop_lr1_first.proofs.NameLemmas.{pairs_total}
use Rattle.lalrpop_lr1_first.proofs.TableLemmas.{name_at, table_numbering}
use Rattle.lalrpop_lr1_least_trees.specs.GrammarTrees.{AreLeastTrees, symbols_by}
use Rattle.lalrpop_lr1_least_trees.specs.declared.least_trees.LeastTrees.{LeastTrees}
use Rattle.lalrpop_lr1_least_trees.proofs.AnswerLemmas.{symbol_there}
use Rattle.lalrpop_lr1_paths.specs.CompletionSteps.{IsCompletionNode}

module _ (it : LeastTrees) (are : AreLeastTrees it) (n : NonterminalString) where
  -- a node is made of the number of a name
  pub node_there : (state node number : ℕ) → at_name n it.numbers ≡ Some number → node ≡ state * name_count it.table + number →
      IsCompletionNode (symbols_by it.table) (name_count it.table) node state n.0
  node_there state node number e is =
      let named = symbol_there it are n true number e in
      record {
        number = number;
        below = (table_numbering it.table are.table).name_below number n.0 named;
        named = named;
        is = is;
      }

  -- where the name has no number there is none
  pub no_node : at_name n it.numbers ≡ None → (number : ℕ) → symbols_by it.table number ≡ Some (theory.nonterminal n.0) → ⊥
  no_node none number e =
      let m = name_at it.table.terminals.now are.table.terminals (table_names it.table) are.table.names number n.0 e in
      let same : m.0 ≡ n = ap (λ (l : Text). record { 0 = l }) m.2 in
      let there = pairs_total (table_names it.table) 0 n (get_contains (table_names it.table) number n (m.1 ∙ ap Some same)) in
      let both : Some there.0 ≡ None = sym there.1 ∙ ap (at_name n) (sym are.numbers) ∙ none in
      let z : ⊥ = cc in z

-- a node of a state is below so many nodes as all states before a count have
pub node_below : (symbol_at : ℕ → Option theory.Symbol) (names node n count : ℕ) (B : Text) → IsCompletionNode symbol_at names node n B →
    n < count → node < count * names
node_below symbol_at names node n count B is below =
    let rows : suc n * names ≤ count * names = mul-le-mul_right names below in
    omega (arith, is.is, is.below, rows, suc-mul n names)
