use Rattle.std.proofs.Common.{◌≡◌, ◌∙◌, sym, length, eqb-true, arith}
use Rattle.std.proofs.lemmas.Bool.{eqb-false}
use Rattle.lalrpop_lexer_scan.proofs.PieceLemmas.{blank_alone, nothing_found}
use Rattle.lalrpop_lexer_scan.proofs.scanner.Scanner.blank_piece.Goals as goal

pub returns-then-is_empty-clause-piece : goal.returns-then-is_empty-clause-piece
returns-then-is_empty-clause-piece c =
    nothing_found c.args.self.now c.args.text.now c.blank-blank.result.now c.requires c.blank-blank.ensures
    (eqb-true _ 0 (sym c.is_empty.ensures ∙ c.if-is_empty.true))

pub returns-else-is_empty-clause-piece : goal.returns-else-is_empty-clause-piece
returns-else-is_empty-clause-piece c =
    let some : length c.blank-blank.result.now ≡ 0 → ⊥ = eqb-false _ 0 (sym c.is_empty.ensures ∙ c.if-is_empty.false) in
    blank_alone c.args.self.now c.args.text.now c.blank-blank.result.now c.requires c.blank-blank.ensures (omega arith)
