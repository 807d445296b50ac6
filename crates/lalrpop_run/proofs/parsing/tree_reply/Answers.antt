use Rattle.std.proofs.Common.{refl}
use Rattle.lalrpop_grammar.specs.Views.{tree_view}
use Rattle.lalrpop_run_theory.specs.TextAnswers.{TextAnswer}
use Rattle.lalrpop_run.proofs.parsing.tree_reply.Goals as goal

pub returns-in-Ok : goal.returns-in-Ok
returns-in-Ok c = λ read entries is. record {
  answer = TextAnswer.written (tree_view c.in-Ok.tree);
  right = c.in-Ok.ensures.right read entries is;
  told = (c.in-Ok.tree, refl, refl);
}

pub returns-in-Err-NoToken : goal.returns-in-Err-NoToken
returns-in-Err-NoToken c = λ read entries is. record {
  answer = TextAnswer.no_token c.in-Err-NoToken.at;
  right = rw c.in-Err-NoToken.field-0-is at (c.in-Err-NoToken.ensures.right read entries is);
  told = refl;
}

pub returns-in-Err-Token : goal.returns-in-Err-Token
returns-in-Err-Token c = λ read entries is. record {
  answer = TextAnswer.wrong_token c.in-Err-Token.at c.in-Err-Token.text;
  right = rw c.in-Err-Token.field-0-is at (c.in-Err-Token.ensures.right read entries is);
  told = refl;
}

pub returns-in-Err-End : goal.returns-in-Err-End
returns-in-Err-End c = λ read entries is. record {
  answer = TextAnswer.early_end;
  right = rw c.in-Err-End.field-0-is at (c.in-Err-End.ensures.right read entries is);
  told = refl;
}

pub returns-in-Err-Limit : goal.returns-in-Err-Limit
returns-in-Err-Limit c = λ read entries is. record {
  answer = TextAnswer.over_limit;
  right = rw c.in-Err-Limit.field-0-is at (c.in-Err-Limit.ensures.right read entries is);
  told = refl;
}
