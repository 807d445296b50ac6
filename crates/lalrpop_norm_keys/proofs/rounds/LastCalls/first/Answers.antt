use Rattle.std.proofs.Common.{[], ◌∙◌, ap, drop, length, map, subst}
use Rattle.std.proofs.lemmas.Result.{err_from_is_err_and}
use Rattle.lalrpop_grammar.specs.Views.{grammar_view}
use Rattle.lalrpop_grammar.specs.WrittenGrammar.{rules_of}
use Rattle.lalrpop_grammar_language.specs.Among.{Among}
use Rattle.lalrpop_grammar_rules.specs.RuleTable.{rules_with}
use Rattle.lalrpop_grammar_rules.specs.Views.{closed_view}
use Rattle.lalrpop_norm_keys.specs.FoundCalls.{FindsCalls, plain_calls}
use Rattle.lalrpop_norm_keys.specs.Tables.{table_keys}
use Rattle.lalrpop_norm_keys.specs.UseSearch.{AddsUsesOf, UsesCalls}
use Rattle.lalrpop_norm_keys.proofs.FoundLemmas.{told_wider}
use Rattle.lalrpop_norm_keys.proofs.rounds.LastCalls.first.Goals as goal

pub returns-in_err-next-clause-fault : goal.returns-in_err-next-clause-fault
returns-in_err-next-clause-fault g c =
    let t = rules_with (g.F.Finder.finds c.args.finder.now) c.args.rules.now in
    let p = err_from_is_err_and c.from_residual-in_err-next.result c.from_residual-in_err-next.ensures.1 in
    rw (p.1, p.2)
    (told_wider t (g.F.Finder.too_deep c.args.finder.now) (map closed_view c.in_ok-callers.callers)
    (plain_calls (rules_of (grammar_view c.args.grammar.now).items)) (λ y i. subst (λ l. Among l y) c.in_ok-callers.ensures i) _
    (rw c.as_slice.ensures at c.in_err-next.ensures.fault))

pub returns-clause-found : goal.returns-clause-found
returns-clause-found g c =
    let t = rules_with (g.F.Finder.finds c.args.finder.now) c.args.rules.now in
    let all = table_keys c.next_round.new.calls in
    subst (λ ys. FindsCalls t ys [] all) c.in_ok-callers.ensures
    (subst (λ l. FindsCalls t (map closed_view c.in_ok-callers.callers) l all) c.requires.none
    (rw c.as_slice.ensures at c.in_ok-next.ensures.found))

pub returns-clause-order : goal.returns-clause-order
returns-clause-order g c = λ flat.
    let t = rules_with (g.F.Finder.finds c.args.finder.now) c.args.rules.now in
    let all = table_keys c.next_round.new.calls in
    subst (λ ys. AddsUsesOf (UsesCalls t) ys [] all) c.in_ok-callers.ensures
    (subst (λ l. AddsUsesOf (UsesCalls t) (map closed_view c.in_ok-callers.callers) l all) c.requires.none
    ((rw c.as_slice.ensures at c.in_ok-next.ensures.order) flat))

pub returns-clause-next : goal.returns-clause-next
returns-clause-next g c =
    c.in_ok-next.ensures.next ∙ ap (λ l. drop (length l) (table_keys c.next_round.new.calls)) c.requires.none
