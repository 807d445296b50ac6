use Rattle.std.proofs.Common.{subst, sym}
use Rattle.lalrpop_lr1_theory.specs.Answers.{tree}
use Rattle.lalrpop_lr1_theory.specs.Spans.{without_spans}
use Rattle.lalrpop_lr1_theory.proofs.AnswerLemmas.{ends_right}
use Rattle.lalrpop_lr1_interpret.specs.Ends.{terminals_of}
use Rattle.lalrpop_lr1_interpret.specs.Parses.{IsRightParseOnto, TellsLimit}
use Rattle.lalrpop_lr1_interpret.proofs.LimitLemmas.{made_within, stop_by_limit}
use Rattle.lalrpop_lr1_interpret.proofs.StopLemmas.{stop_right}
use Rattle.lalrpop_lr1_interpret.proofs.parse.action_table.ActionTable.parse_numbered.Goals as goal
use Rattle.lalrpop_lr1_interpret.proofs.parse.action_table.ActionTable.parse_numbered.Goals.{in-Ok, in-Err}

pub returns-clause-right : goal.returns-clause-right
returns-clause-right g c = λ grammar s states alone ok is.
    elim c.match-run.branch [
      | in-Ok w ↦
          let made = w.in-Ok.ensures.ends grammar s states alone ok is in
          subst (IsRightParseOnto grammar s c.args.tokens.now c.args.limit (g.S.TreeStack.stands c.run.new.stack)) (sym w.result-is)
          (record {
            trees = made.trees;
            stands = made.stands;
            right = ends_right grammar s states alone ok (terminals_of c.args.tokens.now) c.args.limit (tree (without_spans made.trees))
                made.accepts;
            spans_are = made.spans_are;
          })
      | in-Err w ↦
          subst (IsRightParseOnto grammar s c.args.tokens.now c.args.limit (g.S.TreeStack.stands c.run.new.stack)) (sym w.result-is)
          (stop_right grammar s states alone ok c.args.tokens.now c.args.limit (g.S.TreeStack.stands c.run.new.stack) w.in-Err.halt
          w.stop_of.result (w.in-Err.ensures.ends grammar s states alone ok is) w.stop_of.ensures)
    ]

pub returns-clause-limit : goal.returns-clause-limit
returns-clause-limit g c = λ states is.
    let q = c.requires.checked in
    elim c.match-run.branch [
      | in-Ok w ↦
          subst (TellsLimit states c.args.tokens.now c.args.limit) (sym w.result-is)
          (made_within c.args.self.now q states is c.args.tokens.now c.args.limit (g.S.TreeStack.stands c.run.new.stack)
          (w.in-Ok.ensures.ends q.grammar q.start q.states q.alone q.checked q.is_table))
      | in-Err w ↦
          subst (TellsLimit states c.args.tokens.now c.args.limit) (sym w.result-is)
          (stop_by_limit c.args.self.now q states is c.args.tokens.now c.args.limit (g.S.TreeStack.stands c.run.new.stack) w.in-Err.halt
          w.stop_of.result (w.in-Err.ensures.ends q.grammar q.start q.states q.alone q.checked q.is_table) w.stop_of.ensures)
    ]
