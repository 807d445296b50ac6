use Rattle.std.proofs.Common.{◌≡◌, ℕ, ◌∙◌, ap, take_all, map, get_or, ◌++◌, ◌∷◌, [], sym}
use Rattle.std.proofs.lemmas.Result.{IfOk-weaker}
use Rattle.std.proofs.lemmas.List.{map_more}
use Rattle.lalrpop_lexer_pattern.specs.Sets.{in_ranges, ranges_of}
use Rattle.lalrpop_lexer_pattern.proofs.SetLemmas.{range_from, ranges_of-same}
use Rattle.lalrpop_lexer_pattern.proofs.PairLemmas.{in_ranges-pairs}
use Rattle.lalrpop_lexer_pattern.proofs.set_named.from_pairs.Goals as goal

pub loop-start-preserved : goal.loop-start-preserved
loop-start-preserved c =
    let as_range = λ (p : ℕ × ℕ). range_from p.0 p.1 in
    let ps = c.args.pairs.now in
    let i = c.loop-start.start-index in
    c.in_ok-push.ensures.items
    ∙ ap (λ rs. rs ++ as_range (get_or ps i (0, 0)) ∷ []) c.loop-start.invariant
    ∙ sym (map_more as_range ps i (0, 0) c.loop-start-test.true)

pub returns : goal.returns
returns c p exactly =
    let ps = c.args.pairs.now in
    let all = c.loop-start.invariant ∙ ap (map (λ (p : ℕ × ℕ). range_from p.0 p.1)) (take_all _ ps c.loop-start-test.false) in
    IfOk-weaker c.from_ranges.result _ (λ set. set.ranges.items ≡ ranges_of p)
    (λ set e. e ∙ ranges_of-same _ p (λ x h. ap (λ l. in_ranges l x) all ∙ in_ranges-pairs ps x ∙ exactly x h))
    c.from_ranges.ensures
