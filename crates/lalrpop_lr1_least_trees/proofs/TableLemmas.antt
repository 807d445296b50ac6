-- What stands in a table at a number, as it is read: for naming moves.
use Rattle.std.proofs.Common.{◌≡◌, ◌∙◌, ℕ, zero, suc, ◌-◌, ◌<◌, ◌≤◌, List, [], ◌∷◌, length, map, get_or}
use Rattle.std.proofs.Common.{refl, sym, ap, arith, Option, Some, None, slice_get}
use Rattle.std.specs.Borrow.{Bor}
use Rattle.std.proofs.lemmas.Option.{slice_get_past, slice_get_within}
use Rattle.lalrpop_grammar_symbols.specs.Symbols.{Terminal}
use Rattle.lalrpop_grammar_symbols.specs.Views.{terminal_view}
use Rattle.lalrpop_grammar_symbols.specs.declared.names.NonterminalString.{NonterminalString}
use Rattle.lalrpop_grammar_symbols.specs.declared.terminal.TerminalString.{TerminalString}
use Rattle.lalrpop_grammar_repr.specs.declared.production.Production.{Production}
use Rattle.lalrpop_lr1_theory.specs.Productions as theory
use Rattle.lalrpop_lr1_core.specs.Views.{production_view}
use Rattle.lalrpop_lr1_first.specs.FirstNumbers.{name_count}
use Rattle.lalrpop_lr1_first.specs.Listings.{lent}
use Rattle.lalrpop_lr1_first.specs.NumberedGrammars.{table_names}
use Rattle.lalrpop_lr1_first.specs.Tables.{symbol_or}
use Rattle.lalrpop_lr1_first.specs.declared.numbered.Numbered.{Numbered}
use Rattle.lalrpop_lr1_first.proofs.ListLemmas.{get_slice}
use Rattle.lalrpop_lr1_first.proofs.TableLemmas.{long_map}
use Rattle.lalrpop_lr1_core.proofs.NoConflictLemmas.{nothing_there}
use Rattle.lalrpop_lr1_least_trees.specs.GrammarTrees.{symbols_by}

-- a production that is read at a place stands there among the productions as they are seen
pub production_read : (ps : List (Bor Production)) (k : ℕ) (p : Bor Production) → k < length ps → p ≡ get_or ps k p →
    slice_get (map production_view (lent ps)) k ≡ Some (production_view p.now)
production_read [] k p h e = absurd (omega arith)
production_read (q ∷ ps) zero p h e = ap (λ (b : Bor Production). Some (production_view b.now)) (sym e)
production_read (q ∷ ps) (suc k) p h e = production_read ps k p (omega arith) e

module _ (table : Numbered) (s : ℕ) where
  names_long : length (table_names table) ≡ name_count table
  names_long = long_map (λ b. b.now) table.names.items

  -- a terminal by its number
  pub terminal_read : (t : TerminalString) → name_count table ≤ s → s - name_count table < length table.terminals.now.all →
      t ≡ get_or table.terminals.now.all (s - name_count table) t → symbols_by table s ≡ Some (theory.terminal (terminal_view t))
  terminal_read t past within e =
      ap (λ o. symbol_or o (slice_get table.terminals.now.all (s - length (table_names table))))
      (slice_get_past (table_names table) s (omega (arith, names_long, past)))
      ∙ ap (λ k. symbol_or None (slice_get table.terminals.now.all (s - k))) names_long
      ∙ ap (symbol_or None) (get_slice table.terminals.now.all (s - name_count table) t within e)

  -- where the number of a terminal is
  pub record IsTerminalNumber : Type 0 where
    pub past : name_count table ≤ s
    pub within : s - name_count table < length table.terminals.now.all

  pub terminal_number : (t : Terminal) → symbols_by table s ≡ Some (theory.terminal t) → IsTerminalNumber
  terminal_number t e =
      go (slice_get (table_names table) s) refl (slice_get table.terminals.now.all (s - length (table_names table))) refl e
    where
      go : (a : Option NonterminalString) → slice_get (table_names table) s ≡ a → (b : Option TerminalString) →
          slice_get table.terminals.now.all (s - length (table_names table)) ≡ b → symbol_or a b ≡ Some (theory.terminal t) →
          IsTerminalNumber
      go (Some n) at_a b at_b f = let w : ⊥ = cc in absurd w
      go None at_a None at_b f = let w : ⊥ = cc in absurd w
      go None at_a (Some u) at_b f =
          let inside = slice_get_within table.terminals.now.all (s - length (table_names table)) u at_b in
          record { past = omega (arith, names_long, nothing_there (table_names table) s at_a); within = omega (arith, inside, names_long) }
