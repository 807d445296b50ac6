-- What stands in a grammar's table at the number of a symbol, as it is read: for the moves of its least tree.
use Rattle.std.proofs.Common.{◌≡◌, ℕ, ◌-◌, ◌<◌, ◌≤◌, length, get_or, ap, arith, Some}
use Rattle.std.specs.Borrow.{Bor}
use Rattle.std.specs.Prelude.{slice_get}
use Rattle.lalrpop_grammar_symbols.specs.declared.names.NonterminalString.{NonterminalString}
use Rattle.lalrpop_lr1_theory.specs.Productions as theory
use Rattle.lalrpop_lr1_first.specs.FirstNumbers.{name_count}
use Rattle.lalrpop_lr1_first.specs.NumberedGrammars.{IsNumberTable, table_names}
use Rattle.lalrpop_lr1_first.specs.Tables.{symbol_or}
use Rattle.lalrpop_lr1_first.specs.declared.numbered.Numbered.{Numbered}
use Rattle.lalrpop_lr1_first.proofs.ListLemmas.{get_slice}
use Rattle.lalrpop_lr1_first.proofs.TableLemmas.{get_mapped, table_numbering}
use Rattle.lalrpop_lr1_least_trees.specs.GrammarTrees.{symbols_by}
use Rattle.lalrpop_lr1_least_trees.proofs.TableLemmas.{terminal_number}
use Rattle.lalrpop_lr1_paths.specs.PathTables.{HasSymbol}

-- a name by its number
pub name_read : (table : Numbered) (s : ℕ) (n : Bor NonterminalString) → s < name_count table → n ≡ get_or table.names.items s n →
    symbols_by table s ≡ Some (theory.nonterminal n.now.0)
name_read table s n h e =
    ap (λ o. symbol_or o (slice_get table.terminals.now.all (s - length (table_names table))))
    (get_mapped (λ (b : Bor NonterminalString). b.now) table.names.items s n (get_slice table.names.items s n h e))

-- a symbol's number past those of the names is a terminal's
pub terminal_within : (table : Numbered) → IsNumberTable table → (s : ℕ) → HasSymbol table s → name_count table ≤ s →
    s - name_count table < length table.terminals.now.all
terminal_within table is s has past = go has.0 has.1
  where
    go : (x : theory.Symbol) → symbols_by table s ≡ Some x → s - name_count table < length table.terminals.now.all
    go (theory.nonterminal A) e = absurd (omega (arith, (table_numbering table is).name_below s A e, past))
    go (theory.terminal t) e = (terminal_number table s t e).within
