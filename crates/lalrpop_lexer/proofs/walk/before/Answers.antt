use Rattle.std.proofs.Common.{arith, ap, length, ◌-◌, ◌≡◌, length-append}
use Rattle.std.proofs.lemmas.Str.{IsCharBoundary-at_seam}
use Rattle.lalrpop_lexer.proofs.walk.before.Goals as goal

pub range-requires-clause-end_boundary : goal.range-requires-clause-end_boundary
range-requires-clause-end_boundary c =
    let f = c.requires in
    let e : length c.args.text.now - length c.args.rest.now ≡ length f.0 =
    omega (arith, ap length f.1, length-append f.0 c.args.rest.now) in
    rw e (IsCharBoundary-at_seam c.args.text.now f.0 c.args.rest.now f.1 c.utf8.rest)
