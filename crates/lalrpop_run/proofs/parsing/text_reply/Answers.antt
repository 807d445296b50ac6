use Rattle.std.proofs.Common.{subst}
use Rattle.std.specs.Str.{chars}
use Rattle.std.proofs.lemmas.Result.{IfOk-weaker}
use Rattle.std.specs.Prelude.{List}
use Rattle.lalrpop_grammar.specs.Views.{grammar_view}
use Rattle.lalrpop_lexer_scan.specs.Entries.{ScanEntry}
use Rattle.lalrpop_lexer_scan.specs.Scanning.{IsScannerOf}
use Rattle.lalrpop_norm_theory.specs.Premises.{IsReadGrammar}
use Rattle.lalrpop_run_prepare.specs.PreparedGrammars.{PreparedGrammar}
use Rattle.lalrpop_run.proofs.ParserLemmas.{no_parser_parsed, sentence}
use Rattle.lalrpop_run.specs.Parse.{IsAnswerTold}
use Rattle.lalrpop_run.proofs.parsing.text_reply.Goals as goal

pub returns-in-Ok : goal.returns-in-Ok
returns-in-Ok c =
    let v = c.args.prepared.now in
    IfOk-weaker c.tree_reply.result _ _
    (λ reply told q g same prepared.
    sentence q g v prepared c.in-Ok.ensures.lr1 c.in-Ok.ensures.one_tree c.args.text.now c.args.limit reply same
    (subst (λ (w : PreparedGrammar). IsReadGrammar (grammar_view w.written) → (entries : List ScanEntry) →
    IsScannerOf w.scanner entries → IsAnswerTold w entries (chars c.args.text.now) c.args.limit reply) c.in-Ok.ensures.prepared told))
    c.tree_reply.ensures

pub returns-in-Err : goal.returns-in-Err
returns-in-Err c =
    IfOk-weaker c.conflicts_reply.result _ _
    (λ reply told q g same prepared. no_parser_parsed q g c.args.text.now reply (told q g prepared)) c.conflicts_reply.ensures
