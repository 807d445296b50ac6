use Rattle.std.proofs.Common.{◌++◌, [], ◌∙◌, ap, inl, inr, map, subst}
use Rattle.std.proofs.lemmas.Result.{err_from_is_err_and}
use Rattle.lalrpop_grammar.specs.Views.{grammar_view}
use Rattle.lalrpop_grammar.specs.WrittenGrammar.{rules_of}
use Rattle.lalrpop_grammar_rules.specs.RuleTable.{rules_with}
use Rattle.lalrpop_grammar_rules.specs.Views.{closed_view}
use Rattle.lalrpop_norm_theory.proofs.AmongLemmas.{among_either}
use Rattle.lalrpop_norm_keys.specs.Tables.{table_keys}
use Rattle.lalrpop_norm_keys.specs.FoundCalls.{plain_calls}
use Rattle.lalrpop_norm_keys.specs.GrammarPlaces.{PutsMetInCalls}
use Rattle.lalrpop_norm_keys.specs.Views.{met_view}
use Rattle.lalrpop_norm_keys.proofs.CallLemmas.{met_together, told_of_part}
use Rattle.lalrpop_norm_keys.proofs.key_places.spans.all_keys_met.Goals as goal

pub returns-in_err-note_calls-clause-fault : goal.returns-in_err-note_calls-clause-fault
returns-in_err-note_calls-clause-fault g c =
    let t = rules_with (g.F.Finder.finds c.args.finder.now) c.args.rules.now in
    let deep = g.F.Finder.too_deep c.args.finder.now in
    let ys = plain_calls (rules_of (grammar_view c.args.grammar.now).items) in
    let zs = table_keys c.args.keys.now in
    let p = err_from_is_err_and c.from_residual-in_err-note_calls.result c.from_residual-in_err-note_calls.ensures.1 in
    rw (p.1, p.2)
    (told_of_part t deep (map closed_view c.as_slice.result.now) ys (ys ++ zs)
    (ap (map closed_view) c.as_slice.ensures ∙ c.in_ok-plain.ensures) (λ y i. among_either ys zs y (inl i)) _
    c.in_err-note_calls.ensures.fault)

pub returns-in_err-note_calls-2-clause-fault : goal.returns-in_err-note_calls-2-clause-fault
returns-in_err-note_calls-2-clause-fault g c =
    let t = rules_with (g.F.Finder.finds c.args.finder.now) c.args.rules.now in
    let deep = g.F.Finder.too_deep c.args.finder.now in
    let ys = plain_calls (rules_of (grammar_view c.args.grammar.now).items) in
    let zs = table_keys c.args.keys.now in
    let r = c.from_residual-in_err-note_calls-2 in
    let p = err_from_is_err_and r.result r.ensures.1 in
    rw (p.1, p.2)
    (told_of_part t deep (map closed_view c.keys.result.now) zs (ys ++ zs) c.keys.ensures
    (λ y i. among_either ys zs y (inr i)) _ c.in_err-note_calls-2.ensures.fault)

pub returns-clause-met : goal.returns-clause-met
returns-clause-met g c =
    let t = rules_with (g.F.Finder.finds c.args.finder.now) c.args.rules.now in
    let ys = plain_calls (rules_of (grammar_view c.args.grammar.now).items) in
    let zs = table_keys c.args.keys.now in
    let mid = map met_view c.note_calls.new.met in
    let new = map met_view c.note_calls-2.new.met in
    met_together t ys zs [] mid new
    (subst (λ l. PutsMetInCalls t l [] mid) (ap (map closed_view) c.as_slice.ensures ∙ c.in_ok-plain.ensures)
    (subst (λ l. PutsMetInCalls t (map closed_view c.as_slice.result.now) (map met_view l) mid) c.new-met.ensures
    c.in_ok-note_calls.ensures.added))
    (subst (λ l. PutsMetInCalls t l mid new) c.keys.ensures c.in_ok-note_calls-2.ensures.added)
