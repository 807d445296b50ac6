-- A grammar's table as rules that stand for productions, and what its least trees are: for the calls on them.
use Rattle.std.proofs.Common.{◌≡◌, ◌∙◌, ℕ, drop}
use Rattle.std.proofs.Common.{sym, ap, subst, arith, Option, Some}
use Rattle.lalrpop_lr1_theory.specs.Productions as theory
use Rattle.lalrpop_lr1_theory.proofs.StepLemmas.{some_same}
use Rattle.lalrpop_lr1_core.specs.Views.{production_view}
use Rattle.lalrpop_lr1_core.proofs.NoConflictLemmas.{at_mapped}
use Rattle.lalrpop_lr1_first.specs.FirstNumbers.{name_count}
use Rattle.lalrpop_lr1_first.specs.NumberedGrammars.{IsNumberTable, table_productions}
use Rattle.lalrpop_lr1_first.specs.Numbers.{SpellsSymbols}
use Rattle.lalrpop_lr1_first.specs.Tables.{symbols_until}
use Rattle.lalrpop_lr1_first.specs.declared.numbered.Numbered.{Numbered}
use Rattle.lalrpop_lr1_first.specs.declared.place.NumberedRule.{NumberedRule}
use Rattle.lalrpop_lr1_first.proofs.TableLemmas.{left_below, long_map, table_numbering, symbols_side}
use Rattle.lalrpop_lr1_least_trees.specs.NumberedTrees.{NamesAreBelow, NumberRule}
use Rattle.lalrpop_lr1_least_trees.specs.GrammarTrees.{number_rule, number_rules, productions_by, symbols_by}
use Rattle.lalrpop_lr1_least_trees.proofs.SpellLemmas.{StandFor}

module _ (table : Numbered) (is : IsNumberTable table) where
  abbrev at : ℕ → Option theory.Symbol
  at = symbols_by table

  pub names_below : NamesAreBelow (name_count table) (number_rules table)
  names_below r rule e =
      let m = at_mapped (number_rule table.places.items) table.rules.items r rule e in
      let left : m.0.left ≡ rule.left = ap (λ (x : NumberRule). x.left) m.2 in
      omega (arith, left_below table is r m.0 m.1, left)

  pub stand_for : StandFor at (name_count table) (number_rules table) (productions_by table)
  stand_for = record {
    count = long_map (number_rule table.places.items) table.rules.items ∙ is.laid.count
        ∙ sym (long_map production_view (table_productions table));
    left = λ r rule p e f.
        let m = at_mapped (number_rule table.places.items) table.rules.items r rule e in
        let q = at_mapped production_view (table_productions table) r p f in
        let l = is.laid.at r q.0 q.1 in
        let one : l.rule ≡ m.0 = some_same l.rule m.0 (sym l.at ∙ m.1) in
        let left : l.rule.left ≡ rule.left = ap (λ (x : NumberedRule). x.left) one ∙ ap (λ (x : NumberRule). x.left) m.2 in
        ap at (sym left) ∙ l.left ∙ ap (λ (x : theory.Production). Some (theory.nonterminal x.left)) q.2;
    right = λ r rule p e f.
        let m = at_mapped (number_rule table.places.items) table.rules.items r rule e in
        let q = at_mapped production_view (table_productions table) r p f in
        let l = is.laid.at r q.0 q.1 in
        let one : l.rule ≡ m.0 = some_same l.rule m.0 (sym l.at ∙ m.1) in
        let side : l.numbers ≡ rule.right =
        sym (ap symbols_until l.laid ∙ symbols_side l.numbers r l.more)
        ∙ ap (λ (x : NumberedRule). symbols_until (drop x.start table.places.items)) one ∙ ap (λ (x : NumberRule). x.right) m.2 in
        subst (λ (x : theory.Production). SpellsSymbols at rule.right x.right) q.2
        (subst (λ ns. SpellsSymbols at ns (production_view q.0).right) side l.spelled);
    name_below = (table_numbering table is).name_below;
    name_once = (table_numbering table is).name_once;
    terminal_past = λ s t e. let j = (table_numbering table is).terminal_at s t e in omega (arith, j.1);
  }
