use Rattle.std.proofs.Common.{subst, sym}
use Rattle.std.proofs.lemmas.Result.{IfOk-weaker}
use Rattle.lalrpop_lexer_scan.specs.Scanning.{IsScannerOf}
use Rattle.lalrpop_run_prepare.specs.PreparedGrammars.{PreparedGrammar}
use Rattle.lalrpop_run.proofs.ParserLemmas.{scanned}
use Rattle.lalrpop_run.specs.Tokens.{IsTokensReply}
use Rattle.lalrpop_run.proofs.tokens.text_reply.Goals as goal

pub returns-in-Ok : goal.returns-in-Ok
returns-in-Ok c =
    let v = c.args.prepared.now in
    IfOk-weaker c.scan_reply.result _ _
    (λ reply told q g prepared.
    scanned q g v prepared c.in-Ok.ensures.lr1 c.in-Ok.ensures.one_tree c.args.text.now reply
    (λ entries is. told entries (subst (λ (w : PreparedGrammar). IsScannerOf w.scanner entries) (sym c.in-Ok.ensures.prepared) is)))
    c.scan_reply.ensures

pub returns-in-Err : goal.returns-in-Err
returns-in-Err c =
    IfOk-weaker c.conflicts_reply.result _ _ (λ reply told q g prepared. IsTokensReply.no_parser (told q g prepared))
    c.conflicts_reply.ensures
