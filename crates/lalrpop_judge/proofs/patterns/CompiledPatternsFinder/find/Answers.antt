use Rattle.std.proofs.Common.{sym}
use Rattle.lalrpop_judge.proofs.patterns.CompiledPatternsFinder.find.Goals as goal

pub returns-in-Some : goal.returns-in-Some
returns-in-Some c =
    let p = c.args.pattern.now in
    c.find_in.ensures p (c.args.self.now.right p c.in-Some.compiled.now (sym c.in-Some.ensures.value))
