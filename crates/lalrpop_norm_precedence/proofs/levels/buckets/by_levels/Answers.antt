use Rattle.std.proofs.Common.{◌≡◌, ◌∷◌, ◌+◌, [], ◌++◌, ap, sym, ◌∙◌, drop, map}
use Rattle.std.proofs.lemmas.List.{append-nil, drop_all, drop_more}
use Rattle.std.specs.Prelude.{option_map}
use Rattle.lalrpop_grammar.specs.Views.{alternative_view, attribute_view}
use Rattle.lalrpop_grammar_language.specs.Levels.{rank_after}
use Rattle.lalrpop_grammar_rules.specs.Ranks.{rank_view, said_assoc, said_level}
use Rattle.lalrpop_norm_precedence.specs.LevelSearch.{next_rank_of}
use Rattle.lalrpop_norm_precedence.specs.LevelBuckets.{bucket_at, of_level, ranked_from}
use Rattle.lalrpop_norm_precedence.proofs.BucketLemmas.{put_on}
use Rattle.lalrpop_norm_precedence.proofs.levels.buckets.by_levels.Goals as goal

pub loop-alternative-preserved : goal.loop-alternative-preserved
loop-alternative-preserved c = λ j.
    let xs = c.args.alternatives.now in
    let i = c.loop-alternative.alternative-index in
    let x = c.alternative-item.result in
    let last = option_map rank_view c.loop-alternative.last in
    let next = option_map rank_view c.rank_after-last.result in
    let here : drop i xs ≡ x ∷ drop (i + 1) xs =
    drop_more xs i x c.loop-alternative-test.true ∙ ap (λ y. y ∷ drop (i + 1) xs) (sym c.alternative-item.is) in
    let ranked : next ≡ next_rank_of last (alternative_view x) =
    c.rank_after-last.ensures
    ∙ ap (λ l. rank_after last (said_level (map attribute_view l)) (said_assoc (map attribute_view l))) c.as_slice.ensures in
    put_on c.loop-alternative.buckets c.put_alternative.new.buckets (alternative_view x, next)
    (ranked_from last (map alternative_view (drop i xs)))
    (ranked_from next (map alternative_view (drop (i + 1) xs))) c.in_ok-put_alternative.ensures
    (ap (λ l. ranked_from last (map alternative_view l)) here
    ∙ ap (λ r. (alternative_view x, r) ∷ ranked_from r (map alternative_view (drop (i + 1) xs))) (sym ranked))
    j _ (c.loop-alternative.invariant j)

pub returns : goal.returns
returns c = λ j.
    let xs = c.args.alternatives.now in
    let nothing : drop c.loop-alternative.alternative-index xs ≡ [] =
    drop_all c.loop-alternative.alternative-index xs c.loop-alternative-test.false in
    sym (append-nil (bucket_at c.loop-alternative.buckets j))
    ∙ ap (λ l. bucket_at c.loop-alternative.buckets j
    ++ of_level j (ranked_from (option_map rank_view c.loop-alternative.last) (map alternative_view l))) (sym nothing)
    ∙ c.loop-alternative.invariant j
