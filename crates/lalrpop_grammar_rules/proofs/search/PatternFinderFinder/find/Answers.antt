use Rattle.std.proofs.Common.{◌≢◌, ◌<◌, ℕ, All, get_or, arith}
use Rattle.std.proofs.lemmas.List.{get_or_default}
use Rattle.std.specs.Prelude.{is_some}
use Rattle.regex.specs.Names.{names_of}
use Rattle.regex.specs.Patterns.{find_str}
use Rattle.regex.specs.Strings.{regex_pattern}
use Rattle.regex_syntax.specs.declared.error.ErrorKind.TheVariants.{OutOfMemory}
use Rattle.lalrpop_grammar_rules.specs.Search.{finds, is_too_deep}
use Rattle.lalrpop_grammar_rules.proofs.ReadingLemmas.{answered, finds_read, not_too_deep, read_pattern, unread}
use Rattle.lalrpop_grammar_rules.proofs.search.PatternFinderFinder.find.Goals as goal

pub returns-in-Ok : goal.returns-in-Ok
returns-in-Ok c =
    let p = c.args.pattern.now in
    let t = c.args.text.now in
    let r = c.in-Ok.regex in
    let small : (k : ℕ) → get_or t k 0 < 256 = λ k. omega (arith, c.type_inv.text k) in
    let bytes : All (λ x. x < 256) t = λ k d h. rw (get_or_default t k d 0 h) (small k) in
    let reads = rw (c.in-Ok.ensures.config, c.in-Ok.ensures.source) at c.in-Ok.ensures.read in
    answered c.search.result (is_some (find_str (regex_pattern r) t 0)) (finds p t) (is_too_deep p)
    (finds_read p t r.pattern.program.hir (names_of r.pattern.names.items) bytes reads)
    (not_too_deep p r.pattern.program.hir (names_of r.pattern.names.items) reads) c.search.ensures

pub returns-in-Syntax : goal.returns-in-Syntax
returns-in-Syntax c =
    let e = c.in-Syntax.field-0 in
    let other : e.kind ≢ OutOfMemory = rw c.in-Syntax.is at c.in-Err.ensures.kind in
    unread c.args.pattern.now c.args.text.now e.kind other (c.in-Err.ensures.by_grammar e c.in-Syntax.is)

pub returns-in-CompiledTooBig : goal.returns-in-CompiledTooBig
returns-in-CompiledTooBig c =
    let (hir, names, reads) = rw c.in-CompiledTooBig.is at c.in-Err.ensures.kind in
    read_pattern c.args.pattern.now c.args.text.now hir names reads

pub returns-in-Internal : goal.returns-in-Internal
returns-in-Internal c =
    let (hir, names, reads) = rw c.in-Internal.is at c.in-Err.ensures.kind in
    read_pattern c.args.pattern.now c.args.text.now hir names reads
