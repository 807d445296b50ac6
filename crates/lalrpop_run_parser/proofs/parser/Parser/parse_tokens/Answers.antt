use Rattle.std.proofs.Common.{◌∙◌, ap, refl, subst, sym}
use Rattle.std.proofs.Common.{Err, Ok, map}
use Rattle.lalrpop_grammar.specs.Views.{grammar_view, token_view}
use Rattle.lalrpop_grammar_repr.specs.declared.grammar.Grammar.{Grammar}
use Rattle.lalrpop_lexer_scan.specs.Scanning.{AreEntriesOf}
use Rattle.lalrpop_lr1_core.specs.TheoryGrammars.{theory_grammar}
use Rattle.lalrpop_lr1_interpret.specs.Tables.{IsTableOf}
use Rattle.lalrpop_norm_theory.specs.Premises.{IsReadGrammar}
use Rattle.lalrpop_run_parser.specs.ParserAnswers.{IsRightForItsTokens}
use Rattle.lalrpop_run_parser.specs.Parsers.{ParserView}
use Rattle.lalrpop_run_parser.proofs.ParseLemmas.{may_run, none_stand, right_stop, right_tree}
use Rattle.lalrpop_run_parser.proofs.ParserLimitLemmas.{stop_within, tree_within}
use Rattle.lalrpop_run_parser.proofs.PlaceLemmas.{entries_are_places}
use Rattle.lalrpop_run_parser.proofs.parser.Parser.parse_tokens.Goals as goal
use Rattle.lalrpop_run_prepare.specs.PreparedGrammars.{PreparedGrammar}

pub parse_by_columns-requires : goal.parse_by_columns-requires
parse_by_columns-requires c = λ k. (
  (refl, tt),
  (
    may_run c.self.inside.prepared.now c.self.inside.table c.self.inside.state_count c.self.invariant.table_runs
        c.known.ensures.parsed,
    (
      entries_are_places c.self.inside.table c.self.inside.prepared.now.scanner c.self.inside.columns.numbers.items
          c.self.invariant.columns_are c.args.tokens.now c.args.entries.now
          (subst (λ (u : ParserView). AreEntriesOf u.prepared.scanner c.args.tokens.now c.args.entries.now) (sym c.self.view_is)
          c.requires),
      none_stand c.new-stack.result.actions.now c.new-stack.result.origins.now c.new-stack.result.trees.items
          c.new-stack.ensures.none,
    ),
  ),
)

pub returns-in-Some-clause-right : goal.returns-in-Some-clause-right
returns-in-Some-clause-right c =
    let v = c.self.inside.prepared.now in
    subst (λ (u : PreparedGrammar). IsReadGrammar (grammar_view u.written)
    → IsRightForItsTokens u (map token_view c.args.tokens.now) c.args.limit (Ok c.in-Some.tree))
    (ap (λ (u : ParserView). u.prepared) c.self.view_is)
    (λ read.
    right_tree c.forests_correspond.ensures.admitted c.right_parses_are_right.ensures.right v read (c.known.ensures.prepared read)
    c.known.ensures.prefixed c.args.tokens.now c.args.limit
    c.parse_by_columns.new.stack.actions.now c.parse_by_columns.new.stack.origins.now
    (ap (λ g. g.0) c.in-Ok.ensures.same ∙ c.new-stack.ensures.actions ∙ c.as_slice-actions.ensures
    ∙ ap (λ (g : Grammar). g.action_fn_defns) c.expansion.ensures)
    (ap (λ g. g.1) c.in-Ok.ensures.same ∙ c.new-stack.ensures.origins ∙ c.origins.ensures) c.parse_by_columns.new.stack.trees.items
    (c.in-Ok.ensures.right (theory_grammar v.expansion) v.start_name.0 c.self.invariant.table_runs.states c.known.ensures.parsed.alone
    c.self.invariant.table_runs.checked c.self.invariant.table_runs.table_is)
    c.in-Some.ensures.0 c.in-Some.tree c.in-Some.ensures.1)

pub returns-in-Some-clause-limit : goal.returns-in-Some-clause-limit
returns-in-Some-clause-limit c = λ states is.
    tree_within states c.args.tokens.now c.args.limit
    (c.in-Ok.ensures.limit states (subst (λ (u : ParserView). IsTableOf u.table states) (sym c.self.view_is) is))

pub returns-in-Err-clause-limit : goal.returns-in-Err-clause-limit
returns-in-Err-clause-limit c = λ states is.
    let v = c.self.inside.prepared.now in
    stop_within states c.args.tokens.now c.args.limit (theory_grammar v.expansion) v.start_name.0 c.in-Err.stop c.error_of_stop.result
    (c.in-Err.ensures.right (theory_grammar v.expansion) v.start_name.0 c.self.invariant.table_runs.states c.known.ensures.parsed.alone
    c.self.invariant.table_runs.checked c.self.invariant.table_runs.table_is)
    (c.in-Err.ensures.limit states (subst (λ (u : ParserView). IsTableOf u.table states) (sym c.self.view_is) is))
    c.error_of_stop.ensures

pub returns-in-Err-clause-right : goal.returns-in-Err-clause-right
returns-in-Err-clause-right c =
    let v = c.self.inside.prepared.now in
    subst (λ (u : PreparedGrammar). IsReadGrammar (grammar_view u.written)
    → IsRightForItsTokens u (map token_view c.args.tokens.now) c.args.limit (Err c.error_of_stop.result))
    (ap (λ (u : ParserView). u.prepared) c.self.view_is)
    (λ read.
    right_stop c.forests_correspond.ensures.admitted c.right_parses_are_right.ensures.right v read (c.known.ensures.prepared read)
    c.known.ensures.prefixed c.args.tokens.now c.args.limit
    c.in-Err.stop c.error_of_stop.result
    (c.in-Err.ensures.right (theory_grammar v.expansion) v.start_name.0 c.self.invariant.table_runs.states c.known.ensures.parsed.alone
    c.self.invariant.table_runs.checked c.self.invariant.table_runs.table_is)
    c.error_of_stop.ensures)
