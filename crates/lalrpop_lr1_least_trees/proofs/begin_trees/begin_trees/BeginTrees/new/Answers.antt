use Rattle.std.proofs.Common.{◌≡◌, ◌∙◌, ap, arith, length, subst, sym, true}
use Rattle.lalrpop_lr1_first.specs.FirstNumbers.{name_count}
use Rattle.lalrpop_lr1_least_trees.specs.LeastTrees.{AreLeast}
use Rattle.lalrpop_lr1_least_trees.specs.NumberedTrees.{NamesAreBelow, rule_views}
use Rattle.lalrpop_lr1_least_trees.specs.GrammarTrees.{symbols_by}
use Rattle.lalrpop_lr1_first.specs.declared.numbered.Numbered.{Numbered}
use Rattle.lalrpop_grammar_symbols.specs.Views.{terminal_view}
use Rattle.lalrpop_lr1_least_trees.specs.BeginForests.{IsWanted}
use Rattle.lalrpop_lr1_least_trees.specs.DerivedRules.{all_names}
use Rattle.lalrpop_lr1_least_trees.proofs.BeginLemmas.{derived_names, lent_derived}
use Rattle.lalrpop_lr1_least_trees.proofs.begin_trees.begin_trees.BeginTrees.new.Goals as goal

pub least_trees-requires : goal.least_trees-requires
least_trees-requires c =
    let trees = c.args.trees.now in
    let names : length c.names-names.result.now ≡ name_count trees.table =
    ap length c.names-names.ensures ∙ ap (λ (t : Numbered). length t.names.items) c.table-table.ensures in
    let wanted = subst (λ (t : Numbered). IsWanted (symbols_by t) (terminal_view c.args.terminal.now) c.in_ok-wanted.wanted)
    c.table-table.ensures c.in_ok-wanted.ensures in
    let derived = lent_derived trees c.requires (length c.names-names.result.now) c.in_ok-wanted.wanted c.rules.result.now
    c.in_ok-derived.derived names c.rules.ensures c.in_ok-derived.ensures in
    let all : c.in_ok-all.all ≡ all_names (name_count trees.table) = omega (arith, c.in_ok-all.ensures, c.in_ok-sum.ensures, names) in
    subst (λ k. NamesAreBelow k (rule_views c.as_slice.result.now)) (sym all)
    (subst (λ rs. NamesAreBelow (all_names (name_count trees.table)) (rule_views rs)) (sym c.as_slice.ensures.value)
    (derived_names trees c.requires c.in_ok-wanted.wanted (terminal_view c.args.terminal.now) wanted c.in_ok-derived.derived derived))

pub returns-clause-begins : goal.returns-clause-begins
returns-clause-begins c =
    let trees = c.args.trees.now in
    let names : length c.names-names.result.now ≡ name_count trees.table =
    ap length c.names-names.ensures ∙ ap (λ (t : Numbered). length t.names.items) c.table-table.ensures in
    let all : c.in_ok-all.all ≡ all_names (name_count trees.table) = omega (arith, c.in_ok-all.ensures, c.in_ok-sum.ensures, names) in
    record {
      trees = c.requires;
      terminal = terminal_view c.args.terminal.now;
      wanted = subst (λ (t : Numbered). IsWanted (symbols_by t) (terminal_view c.args.terminal.now) c.in_ok-wanted.wanted)
          c.table-table.ensures c.in_ok-wanted.ensures;
      derived = lent_derived trees c.requires (length c.names-names.result.now) c.in_ok-wanted.wanted c.rules.result.now
          c.in_ok-derived.derived names c.rules.ensures c.in_ok-derived.ensures;
      least = subst (λ k. AreLeast (rule_views c.in_ok-derived.derived.rules.items) k true c.in_ok-begins.begins.items) all
          (subst (λ rs. AreLeast (rule_views rs) c.in_ok-all.all true c.in_ok-begins.begins.items) c.as_slice.ensures.value
          c.in_ok-begins.ensures);
    }
