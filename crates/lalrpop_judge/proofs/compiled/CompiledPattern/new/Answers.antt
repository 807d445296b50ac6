use Rattle.std.proofs.Common.{[]}
use Rattle.regex.specs.Names.{names_of}
use Rattle.lalrpop_grammar_rules.proofs.ReadingLemmas.{finds_read, read_pattern, unread}
use Rattle.lalrpop_judge.proofs.CompiledLemmas.{readable_from, unreadable_from}
use Rattle.lalrpop_judge.proofs.compiled.CompiledPattern.new.Goals as goal

pub returns-in-Ok : goal.returns-in-Ok
returns-in-Ok c =
    let p = c.args.pattern.now in
    let r = c.in-Ok.regex in
    let reads = rw (c.in-Ok.ensures.config, c.in-Ok.ensures.source) at c.in-Ok.ensures.read in (
      readable_from p [] (read_pattern p [] r.pattern.program.hir (names_of r.pattern.names.items) reads),
      λ text bytes. finds_read p text r.pattern.program.hir (names_of r.pattern.names.items) bytes reads,
    )

pub returns-in-Syntax : goal.returns-in-Syntax
returns-in-Syntax c =
    let e = c.in-Syntax.field-0 in
    let other = rw c.in-Syntax.is at c.in-Err.ensures.kind in
    unreadable_from c.args.pattern.now []
    (unread c.args.pattern.now [] e.kind other (c.in-Err.ensures.by_grammar e c.in-Syntax.is))

pub returns-in-CompiledTooBig : goal.returns-in-CompiledTooBig
returns-in-CompiledTooBig c =
    let (hir, names, reads) = rw c.in-CompiledTooBig.is at c.in-Err.ensures.kind in
    readable_from c.args.pattern.now [] (read_pattern c.args.pattern.now [] hir names reads)

pub returns-in-Internal : goal.returns-in-Internal
returns-in-Internal c =
    let (hir, names, reads) = rw c.in-Internal.is at c.in-Err.ensures.kind in
    readable_from c.args.pattern.now [] (read_pattern c.args.pattern.now [] hir names reads)
