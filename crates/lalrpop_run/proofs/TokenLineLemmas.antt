-- One token more in the lines of tokens: for what writes them.
use Rattle.std.proofs.Common.{◌≡◌, List, [], ◌∷◌, ◌++◌, ap, sym, ◌∙◌, append-nil, append_assoc}
use Rattle.lalrpop_grammar.specs.Trees.{Token}
use Rattle.lalrpop_run.specs.ReplyTexts.{line, token_text, tokens_text}

-- one line behind the others
pub lines-behind : (ts : List Token) (t : Token) → tokens_text ts ++ line (token_text t) ≡ tokens_text (ts ++ t ∷ [])
lines-behind [] t = sym (append-nil (line (token_text t)))
lines-behind (x ∷ xs) t =
    append_assoc (line (token_text x)) (tokens_text xs) (line (token_text t)) ∙ ap (λ r. line (token_text x) ++ r) (lines-behind xs t)
