use Rattle.std.proofs.Common.{◌≡◌, ◌++◌, ◌∷◌, [], ℕ, List, ap, append_assoc, codes, subst, sym}
use Rattle.std.specs.Prelude.{decimal}
use Rattle.std.specs.Fmt.{HasWritten}
use Rattle.lalrpop_run.specs.ReplyTexts.{line}
use Rattle.lalrpop_run.proofs.replies.texts.write_limit.Goals as goal

pub returns : goal.returns
returns g c = λ plain ok.
    let text_is : codes "limit of " ++ (decimal c.args.limit ++ codes " moves used up\n")
    ≡ line (codes "limit of " ++ decimal c.args.limit ++ codes " moves used up") =
    ap (λ (t : List ℕ). codes "limit of " ++ t) (sym (append_assoc (decimal c.args.limit) (codes " moves used up") (10 ∷ []))) in
    subst (λ (t : List ℕ). HasWritten {W = g.row.W.Denot} g.W.Write.write_str_gives c.args.f.now t c.writeln.new.self)
    text_is (c.writeln.ensures.writes plain ok)
