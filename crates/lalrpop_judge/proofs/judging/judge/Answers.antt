use Rattle.std.proofs.Common.{rules, ◌↔◌, IsTrue, map, subst, sym}
use Rattle.lalrpop_grammar.specs.Views.{grammar_view, token_view, tree_view}
use Rattle.lalrpop_grammar_language.specs.Enabled.{enabled_grammar}
use Rattle.lalrpop_grammar_rules.specs.Search.{finds}
use Rattle.lalrpop_grammar_language.specs.Admitting.{AdmitsFrom}
use Rattle.lalrpop_judge.proofs.StartLemmas.{start_apart}
use Rattle.lalrpop_judge.proofs.WalkLemmas.{never}
use Rattle.lalrpop_judge.proofs.judging.judge.Goals as goal

pub returns-then-not-are_leaves-clause-exact : goal.returns-then-not-are_leaves-clause-exact
returns-then-not-are_leaves-clause-exact c =
    let refused : IsTrue c.are_leaves.result → ⊥ = search rules in (
      λ e. never e,
      λ a. absurd (refused (c.are_leaves.ensures.1
          (start_apart (enabled_grammar finds c.args.features.now (grammar_view c.args.grammar.now)) c.args.start.now
          (tree_view c.args.tree.now) (map token_view c.args.tokens.now) a).0)),
    )

pub returns-clause-exact : goal.returns-clause-exact
returns-clause-exact c =
    let all : IsTrue c.are_leaves.result = search rules in
    subst (λ tokens. IsTrue c.in_ok-yes.yes
    ↔ AdmitsFrom finds c.args.features.now (grammar_view c.args.grammar.now) c.args.start.now (tree_view c.args.tree.now) tokens)
    (sym (c.are_leaves.ensures.0 all)) c.in_ok-yes.ensures.exact
