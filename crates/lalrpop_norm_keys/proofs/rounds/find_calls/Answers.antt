use Rattle.std.proofs.Common.{◌≡◌, ◌∙◌, ◌+◌, ◌++◌, [], ap, arith, drop, length, map, refl, subst, suc, sym}
use Rattle.std.specs.Prelude.{filter}
use Rattle.std.proofs.lemmas.Result.{err_from_is_err_and}
use Rattle.lalrpop_grammar.specs.Views.{grammar_view}
use Rattle.lalrpop_grammar.specs.WrittenGrammar.{rules_of}
use Rattle.lalrpop_grammar_language.specs.Enabled.{enabled_rule, is_active}
use Rattle.lalrpop_grammar_rules.specs.RuleTable.{rules_with}
use Rattle.lalrpop_grammar_rules.specs.Views.{closed_view}
use Rattle.lalrpop_norm_keys.specs.Tables.{table_keys}
use Rattle.lalrpop_norm_theory.specs.CallPlaces.{IsMadeAt}
use Rattle.lalrpop_norm_keys.specs.FoundCalls.{FindsCalls, plain_calls}
use Rattle.lalrpop_norm_keys.proofs.FoundLemmas.{all_found_by, deep_any, deep_found, deep_told, first_too_deep, found_first}
use Rattle.lalrpop_norm_keys.proofs.FoundLemmas.{later_stands, next_stands, plain_are_made, round_kept, told_of_any, told_of_made}
use Rattle.lalrpop_norm_keys.specs.UseSearch.{AddsUsesOf, UsesCalls}
use Rattle.lalrpop_norm_keys.proofs.FoundLemmas.{later_found, no_calls}
use Rattle.lalrpop_norm_keys.proofs.OrderedCallLemmas.{IsCallWalk, calls_in_order, deep_order, first_walk, next_walk}
use Rattle.lalrpop_norm_keys.proofs.rounds.find_calls.Goals as goal

pub returns-in_err-last-clause-fault : goal.returns-in_err-last-clause-fault
returns-in_err-last-clause-fault g c =
    let t = rules_with (g.F.Finder.finds c.args.finder.now) c.args.rules.now in
    let features = c.args.rules.now.features.now in
    let rs = rules_of (grammar_view c.args.grammar.now).items in
    let p = err_from_is_err_and c.from_residual.result c.from_residual.ensures.1 in
    rw (p.1, p.2)
    (λ can. told_of_made t 0 (plain_calls rs)
    (plain_are_made t features rs
    (ap (λ w. map (enabled_rule features) (filter (λ r. is_active features r.attributes) (rules_of w.items))) c.requires.of_grammar)
    can.enabled can.single can.flat (plain_calls rs) refl) (g.F.Finder.too_deep c.args.finder.now) _ c.in_err-last.ensures.fault)

pub returns-in_err-last-clause-condition : goal.returns-in_err-last-clause-condition
returns-in_err-last-clause-condition g c =
    let p = err_from_is_err_and c.from_residual.result c.from_residual.ensures.1 in
    rw (p.1, p.2)
    (told_of_any (rules_with (g.F.Finder.finds c.args.finder.now) c.args.rules.now) (g.F.Finder.too_deep c.args.finder.now)
    (plain_calls (rules_of (grammar_view c.args.grammar.now).items)) _ c.in_err-last.ensures.fault)

pub loop-round-init : goal.loop-round-init
loop-round-init g c =
    let t = rules_with (g.F.Finder.finds c.args.finder.now) c.args.rules.now in
    let features = c.args.rules.now.features.now in
    let rs = rules_of (grammar_view c.args.grammar.now).items in
    let rules_are = ap (λ w. map (enabled_rule features) (filter (λ r. is_active features r.attributes) (rules_of w.items)))
    c.requires.of_grammar in
    let first = c.in_ok-last.ensures in
    let callers = map closed_view c.in_ok-last.last.callers in
    let all = table_keys c.first.new.calls in
    let next = map closed_view c.in_ok-last.last.next in
    let same : next ≡ all = first.next in
    let found : FindsCalls t (plain_calls rs) [] all = first.found in
    record {
      low = omega arith;
      index = first.index;
      stand = later_stands t callers [] all next (subst (λ ys. FindsCalls t ys [] all) (sym first.callers) found) same;
      made = λ can. plain_are_made t features rs rules_are can.enabled can.single can.flat callers first.callers;
      walked = λ can. (
        [],
        sym same,
        found_first t features rs rules_are can.enabled can.single can.flat next
            (subst (λ l. FindsCalls t (plain_calls rs) [] l) (sym same) found),
      );
      order = λ can. (
        [],
        sym same,
        subst (IsCallWalk t rs []) (sym same) (first_walk t rs all (first.order can.flat)),
      );
    }

pub returns-in_err-go_on-clause-fault : goal.returns-in_err-go_on-clause-fault
returns-in_err-go_on-clause-fault g c =
    let t = rules_with (g.F.Finder.finds c.args.finder.now) c.args.rules.now in
    let next = map closed_view c.loop-round.last.next in
    let p = err_from_is_err_and c.from_residual-in_err-go_on.result c.from_residual-in_err-go_on.ensures.1 in
    rw (p.1, p.2)
    (λ can. told_of_made t (suc c.loop-round.round) next (c.loop-round.invariant.walked can).2.next_chains
    (g.F.Finder.too_deep c.args.finder.now) _ c.in_err-go_on.ensures.fault)

pub returns-in_err-go_on-clause-condition : goal.returns-in_err-go_on-clause-condition
returns-in_err-go_on-clause-condition g c =
    let p = err_from_is_err_and c.from_residual-in_err-go_on.result c.from_residual-in_err-go_on.ensures.1 in
    rw (p.1, p.2)
    (told_of_any (rules_with (g.F.Finder.finds c.args.finder.now) c.args.rules.now) (g.F.Finder.too_deep c.args.finder.now)
    (map closed_view c.loop-round.last.next) _ c.in_err-go_on.ensures.fault)

pub loop-round-preserved : goal.loop-round-preserved
loop-round-preserved g c =
    let t = rules_with (g.F.Finder.finds c.args.finder.now) c.args.rules.now in
    let next = map closed_view c.loop-round.last.next in
    let known = table_keys c.loop-round.calls in
    let all = table_keys c.go_on.new.calls in
    let later = map closed_view c.go_on.new.self.next in
    let rs = rules_of (grammar_view c.args.grammar.now).items in
    let deeper : suc c.loop-round.round ≡ c.loop-round.round + 1 = omega arith in
    let found : FindsCalls t next known all = c.in_ok-go_on.ensures.found in
    record {
      low = omega arith;
      index = c.in_ok-go_on.ensures.index;
      stand = rw c.in_ok-go_on.ensures.callers (later_stands t next known all later found c.in_ok-go_on.ensures.next);
      made = rw c.in_ok-go_on.ensures.callers
          (λ can y i. subst (λ k. IsMadeAt t k y) deeper ((c.loop-round.invariant.walked can).2.next_chains y i));
      walked = λ can.
          let w = c.loop-round.invariant.walked can in
          round_kept t can.flat c.loop-round.round w.0 next all later w.2 (subst (λ l. FindsCalls t next l all) w.1 found)
          (c.in_ok-go_on.ensures.next ∙ ap (λ l. drop (length l) all) w.1);
      order = λ can.
          let w = c.loop-round.invariant.order can in
          let added : AddsUsesOf (UsesCalls t) next known all = c.in_ok-go_on.ensures.order can.flat in
          let whole : all ≡ (w.0 ++ next) ++ later =
          found.all_is ∙ ap (λ l. known ++ l) (sym (later_found t next known all later found c.in_ok-go_on.ensures.next))
          ∙ ap (λ l. l ++ later) w.1 in (
            w.0 ++ next,
            whole,
            next_walk t rs w.0 next all later w.2 (subst (λ l. AddsUsesOf (UsesCalls t) next l all) w.1 added) whole,
          );
    }

pub tell_deep_call-requires-clause-stands : goal.tell_deep_call-requires-clause-stands
tell_deep_call-requires-clause-stands g c =
    let t = rules_with (g.F.Finder.finds c.args.finder.now) c.args.rules.now in
    next_stands t c.loop-round.last.next c.in-Some.call.now c.in-Some.field-0-1.now (map closed_view c.as_slice-in-Some.result.now)
    (sym c.as_slice.ensures ∙ c.in-Some.ensures.cases.0) (rw c.as_slice-in-Some.ensures c.loop-round.invariant.stand)

pub returns-in-None-clause-found : goal.returns-in-None-clause-found
returns-in-None-clause-found g c = λ can.
    let t = rules_with (g.F.Finder.finds c.args.finder.now) c.args.rules.now in
    let w = c.loop-round.invariant.walked can in
    let last : c.loop-round.round ≡ c.args.limit = omega arith in (
      c.loop-round.invariant.index,
      all_found_by t c.loop-round.round c.args.limit (table_keys c.loop-round.calls) w.0 c.loop-round.last.next last w.1
          (sym (ap length c.as_slice.ensures) ∙ c.in-None.ensures.cases) w.2,
    )

pub returns-in-Some-clause-found : goal.returns-in-Some-clause-found
returns-in-Some-clause-found g c =
    let t = rules_with (g.F.Finder.finds c.args.finder.now) c.args.rules.now in
    let last : c.loop-round.round ≡ c.args.limit = omega arith in
    let x = closed_view c.in-Some.call.now in
    let callers = map closed_view c.loop-round.last.callers in
    deep_found t c.args.rules.now.features.now (grammar_view c.args.grammar.now) c.args.limit callers x c.tell_deep_call.result
    (rw c.as_slice-in-Some.ensures at c.tell_deep_call.ensures.found)
    (λ can. let w = c.loop-round.invariant.walked can in
    first_too_deep t c.loop-round.round c.args.limit w.0 (map closed_view c.loop-round.last.next)
    (map closed_view c.in-Some.field-0-1.now) x last
    (ap (map closed_view) (sym c.as_slice.ensures ∙ c.in-Some.ensures.cases.0)) w.2)
    (λ can y i. subst (λ k. IsMadeAt t k y) last (c.loop-round.invariant.made can y i))

pub returns-in-Some-clause-fault : goal.returns-in-Some-clause-fault
returns-in-Some-clause-fault g c =
    let t = rules_with (g.F.Finder.finds c.args.finder.now) c.args.rules.now in
    let last : c.loop-round.round ≡ c.args.limit = omega arith in
    deep_told t c.args.rules.now.features.now (grammar_view c.args.grammar.now) c.args.limit (map closed_view c.loop-round.last.callers)
    (g.F.Finder.too_deep c.args.finder.now) c.tell_deep_call.result (rw c.as_slice-in-Some.ensures at c.tell_deep_call.ensures.fault)
    (λ can y i. subst (λ k. IsMadeAt t k y) last (c.loop-round.invariant.made can y i))

pub returns-in-Some-clause-condition : goal.returns-in-Some-clause-condition
returns-in-Some-clause-condition g c =
    deep_any (rules_with (g.F.Finder.finds c.args.finder.now) c.args.rules.now) (map closed_view c.as_slice-in-Some.result.now)
    (g.F.Finder.too_deep c.args.finder.now) c.tell_deep_call.result c.tell_deep_call.ensures.fault

pub returns-in-None-clause-order : goal.returns-in-None-clause-order
returns-in-None-clause-order g c = λ can.
    let t = rules_with (g.F.Finder.finds c.args.finder.now) c.args.rules.now in
    let features = c.args.rules.now.features.now in
    let rs = rules_of (grammar_view c.args.grammar.now).items in
    let rules_are = ap (λ w. map (enabled_rule features) (filter (λ r. is_active features r.attributes) (rules_of w.items)))
    c.requires.of_grammar in
    let w = c.loop-round.invariant.order can in
    calls_in_order t features rs rules_are can.enabled can.single can.flat (table_keys c.loop-round.calls) w.0
    (map closed_view c.loop-round.last.next) w.1
    (no_calls c.loop-round.last.next (sym (ap length c.as_slice.ensures) ∙ c.in-None.ensures.cases)) w.2

pub returns-in-Some-clause-order : goal.returns-in-Some-clause-order
returns-in-Some-clause-order g c =
    deep_order (rules_with (g.F.Finder.finds c.args.finder.now) c.args.rules.now) c.args.rules.now.features.now
    (grammar_view c.args.grammar.now) (map closed_view c.loop-round.last.callers) (closed_view c.in-Some.call.now) c.tell_deep_call.result
    (rw c.as_slice-in-Some.ensures at c.tell_deep_call.ensures.found)
