use Rattle.std.proofs.Common.{◌≡◌, [], ◌∷◌, ◌++◌, ◌+◌, ap, sym, ◌∙◌, None, length, map, drop, arith}
use Rattle.std.proofs.lemmas.List.{drop_more, length-append}
use Rattle.lalrpop_grammar.specs.Views.{alternative_view}
use Rattle.lalrpop_grammar_language.specs.Enabled.{at_places, enabled_choices}
use Rattle.lalrpop_grammar_rules.specs.Details.{ranked_choices_from}
use Rattle.lalrpop_grammar_rules.proofs.RankLemmas.{place_step}
use Rattle.lalrpop_grammar_rules.proofs.rule.with_ranks.Goals as goal

pub loop-alternative-preserved : goal.loop-alternative-preserved
loop-alternative-preserved c =
    let f = c.args.features.now in
    let has = c.args.has_levels in
    let alts = c.args.alternatives.now in
    let i = c.loop-alternative.alternative-index in
    let a = c.alternative-item.result in
    let found = c.loop-alternative.found in
    let x = c.ranked_choice-choice.result in
    let here : drop i alts ≡ a ∷ drop (i + 1) alts =
    drop_more alts i a c.loop-alternative-test.true ∙ ap (λ y. y ∷ drop (i + 1) alts) (sym c.alternative-item.is) in
    let pushed : c.push.new.self ≡ found ++ x ∷ [] = c.in_ok-push.ensures.ok in
    let longer : length (found ++ x ∷ []) ≡ length found + 1 = length-append found (x ∷ []) in
    let as_many = c.loop-alternative.invariant.as_many in
    record {
      as_many = rw pushed (omega (arith, longer, as_many));
      so_far = λ name. rw (pushed, c.last_rank-last.ensures)
          (place_step f has alts i a found x c.loop-alternative.last here as_many c.ranked_choice-choice.ensures name
          (ranked_choices_from has None (enabled_choices f (at_places name 0 (map alternative_view alts))))
          (c.loop-alternative.invariant.so_far name));
    }
