-- The number of a wanted terminal: for trees that begin with it.
use Rattle.std.proofs.Common.{◌≡◌, ◌∙◌, ℕ, ◌+◌, length, refl, sym, ap, arith, Option, Some, None, slice_get}
use Rattle.std.specs.Option.{option_map}
use Rattle.lalrpop_grammar_symbols.specs.Views.{terminal_view}
use Rattle.lalrpop_grammar_symbols.specs.declared.terminal.TerminalString.{TerminalString}
use Rattle.lalrpop_grammar_repr.specs.Maps.{at_terminal}
use Rattle.lalrpop_lr1_theory.specs.Productions as theory
use Rattle.lalrpop_lr1_theory.proofs.StepLemmas.{some_same}
use Rattle.lalrpop_lr1_core.specs.Views.{next_of_number}
use Rattle.lalrpop_lr1_core.proofs.NoConflictLemmas.{same_terminal}
use Rattle.lalrpop_lr1_first.specs.FirstNumbers.{name_count}
use Rattle.lalrpop_lr1_first.specs.NumberedGrammars.{IsNumberTable}
use Rattle.lalrpop_lr1_first.specs.declared.numbered.Numbered.{Numbered}
use Rattle.lalrpop_lr1_first.proofs.TableLemmas.{table_numbering}
use Rattle.lalrpop_lr1_least_trees.specs.GrammarTrees.{symbols_by}
use Rattle.lalrpop_lr1_least_trees.specs.BeginForests.{IsWanted}
use Rattle.lalrpop_lr1_least_trees.specs.BeginTables.{place_or_end, terminal_place}

module _ (table : Numbered) (is : IsNumberTable table) (t : TerminalString) where
  -- a number of the terminal is its place behind the names
  placed : (s : ℕ) → symbols_by table s ≡ Some (theory.terminal (terminal_view t)) →
      (j : ℕ) × (s ≡ name_count table + j) × (at_terminal t table.terminals.now.bits ≡ Some j)
  placed s e =
      let h = (table_numbering table is).terminal_at s (terminal_view t) e in
      go h.0 h.1 (slice_get table.terminals.now.all h.0) refl h.3
    where
      go : (j : ℕ) → s ≡ name_count table + j → (o : Option TerminalString) → slice_get table.terminals.now.all j ≡ o →
          option_map terminal_view o ≡ Some (terminal_view t) →
          (j : ℕ) × (s ≡ name_count table + j) × (at_terminal t table.terminals.now.bits ≡ Some j)
      go j f None g h = let w : ⊥ = cc in absurd w
      go j f (Some u) g h =
          let one : u ≡ t = same_terminal u t (some_same (terminal_view u) (terminal_view t) h) in
          (j, f, ap (λ v. at_terminal v table.terminals.now.bits) (sym one) ∙ is.terminals.numbered j u g)

  pub is_wanted : (wanted : ℕ) → wanted ≡ name_count table + terminal_place table t → IsWanted (symbols_by table)
      (terminal_view t) wanted
  is_wanted wanted e = go (at_terminal t table.terminals.now.bits) refl
    where
      there : (k : ℕ) → at_terminal t table.terminals.now.bits ≡ Some k → wanted ≡ name_count table + k →
          IsWanted (symbols_by table) (terminal_view t) wanted
      there k f g = record {
        only = λ s h.
            let p = placed s h in
            let same : p.0 ≡ k = some_same p.0 k (sym p.2 ∙ f) in
            omega (arith, p.1, same, g);
        is = λ u h.
            let p = (table_numbering table is).terminal_at wanted u h in
            let same : p.0 ≡ k = omega (arith, p.1, g) in
            let seen : next_of_number table.terminals.now k ≡ Some (terminal_view t) =
            ap (option_map terminal_view) (is.terminals.places k t f) in
            some_same u (terminal_view t) (sym p.3 ∙ ap (next_of_number table.terminals.now) same ∙ seen);
      }

      missing : at_terminal t table.terminals.now.bits ≡ None → wanted ≡ name_count table + length table.terminals.now.all →
          IsWanted (symbols_by table) (terminal_view t) wanted
      missing f g = record {
        only = λ s h.
            let p = placed s h in
            let both : Some p.0 ≡ None = sym p.2 ∙ f in
            let w : ⊥ = cc in absurd w;
        is = λ u h.
            let p = (table_numbering table is).terminal_at wanted u h in
            absurd (omega (arith, p.1, p.2, g));
      }

      go : (o : Option ℕ) → at_terminal t table.terminals.now.bits ≡ o → IsWanted (symbols_by table) (terminal_view t) wanted
      go None f = missing f (e ∙ ap (λ o. name_count table + place_or_end o (length table.terminals.now.all)) f)
      go (Some k) f = there k f (e ∙ ap (λ o. name_count table + place_or_end o (length table.terminals.now.all)) f)
