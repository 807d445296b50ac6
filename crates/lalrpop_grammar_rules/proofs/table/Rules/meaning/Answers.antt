use Rattle.std.proofs.Common.{◌≡◌, true, false, Some, None, sym, ◌∙◌}
use Rattle.std.specs.HashMap.{get_by}
use Rattle.std.specs.Str.{bytes_eq}
use Rattle.lalrpop_grammar_rules.proofs.NameLemmas.{found_rule, found_several, found_nothing}
use Rattle.lalrpop_grammar_rules.proofs.table.Rules.meaning.Goals as goal

pub returns-in-Some-entry : goal.returns-in-Some-entry
returns-in-Some-entry c =
    let at : get_by (λ k. bytes_eq c.args.name.now k.now) c.args.self.now.by_name ≡ Some c.in-Some.entry.now =
    rw c.as_str.ensures at (sym c.in-Some.ensures.value) in
    found_rule c.args.self.now c.args.name.now (c.requires.names c.args.name.now) c.in-Some-entry.rule (rw c.in-Some-entry.is at at)

pub returns-in-None-entry : goal.returns-in-None-entry
returns-in-None-entry c =
    let at : get_by (λ k. bytes_eq c.args.name.now k.now) c.args.self.now.by_name ≡ Some c.in-Some.entry.now =
    rw c.as_str.ensures at (sym c.in-Some.ensures.value) in
    found_several c.args.self.now c.args.name.now (c.requires.names c.args.name.now) (rw c.in-None-entry.is at at)

pub returns-then-is_bare : goal.returns-then-is_bare
returns-then-is_bare c =
    let at : get_by (λ k. bytes_eq c.args.name.now k.now) c.args.self.now.by_name ≡ None =
    rw c.as_str.ensures at (sym c.in-None.ensures.value) in
    found_nothing c.args.self.now c.args.name.now (c.requires.names c.args.name.now) at true (sym c.is_bare.ensures ∙ c.if-is_bare.true)

pub returns-else-is_bare : goal.returns-else-is_bare
returns-else-is_bare c =
    let at : get_by (λ k. bytes_eq c.args.name.now k.now) c.args.self.now.by_name ≡ None =
    rw c.as_str.ensures at (sym c.in-None.ensures.value) in
    found_nothing c.args.self.now c.args.name.now (c.requires.names c.args.name.now) at false (sym c.is_bare.ensures ∙ c.if-is_bare.false)
