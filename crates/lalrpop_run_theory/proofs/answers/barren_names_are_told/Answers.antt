use Rattle.std.proofs.Common.{Contains, subst}
use Rattle.lalrpop_norm_theory.specs.Inlined.{IsInlined}
use Rattle.lalrpop_lr1_theory.specs.ValidItems.{IsBarren}
use Rattle.lalrpop_run_theory.specs.ExpansionTrees.{is_inlined_nonterminal}
use Rattle.lalrpop_run_theory.proofs.BarrenLemmas.{barren_named, named_barren, none_barren_after, none_barren_named}
use Rattle.lalrpop_run_theory.proofs.InlinedTestLemmas.{inlined_decided}
use Rattle.lalrpop_run_theory.proofs.answers.barren_names_are_told.Goals as goal

pub returns-clause-barren : goal.returns-clause-barren
returns-clause-barren c =
    λ g prefix start grammar e i n. (
      named_barren g prefix (Contains grammar) e start i n,
      λ b. subst (IsBarren (Contains grammar) start) b.2 (barren_named g prefix (Contains grammar) e start i b.0 b.1),
    )

pub returns-clause-least : goal.returns-clause-least
returns-clause-least c =
    λ g prefix start grammar e i n b least.
    let x = named_barren g prefix (Contains grammar) e start i n b in
    record {
      nonterminal = x.0;
      is_barren = x.1;
      name_is = x.2;
      least = λ y k. least (e.name_of y) (barren_named g prefix (Contains grammar) e start i y k);
    }

pub returns-clause-no_name : goal.returns-clause-no_name
returns-clause-no_name c = λ g prefix start grammar e i none. none_barren_named g prefix (Contains grammar) e start i none

pub returns-clause-after : goal.returns-clause-after
returns-clause-after c =
    λ g prefix start grammar e i none.
    none_barren_after g (IsInlined g) prefix (Contains grammar) e (is_inlined_nonterminal g) (inlined_decided g) start i none
