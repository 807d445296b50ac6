use Rattle.std.proofs.Common.{◌++◌, take, rules, arith}
use Rattle.std.proofs.lemmas.Grind.{common_steps}
use Rattle.std.proofs.KnownBytes.{Appends-trans}
use Rattle.lalrpop_grammar_streams.proofs.whole.write_all.Goals as goal

pub writing-preserved-in-Ok : goal.writing-preserved-in-Ok
writing-preserved-in-Ok g c =
    let before = c.writing.invariant.written in
    let took = take c.in-Ok.count c.writing.rest.now in
    record {
      works = search rules;
      written = (before.0 ++ took, grind (arith, common_steps, before.1), Appends-trans _ _ _ before.0 took before.2 c.in-Ok.ensures.bytes);
    }
