use Rattle.std.proofs.Common.{◌∙◌, ap, is_some}
use Rattle.std.specs.List.{list_all}
use Rattle.lalrpop_lexer_scan.proofs.SkipLemmas.{none_skips}
use Rattle.lalrpop_lexer_scan.proofs.scanner.Scanner.new.Goals as goal

pub returns : goal.returns
returns c = λ entries decides terminals. record {
  decides = decides;
  terminals = terminals;
  blanks_are = c.have_terminals-skips_blanks.ensures ∙ ap (list_all is_some) c.deref.ensures.value
      ∙ none_skips c.args.terminals.items entries terminals;
}
