use Rattle.std.proofs.Common.{◌≡◌, ◌++◌, le_refl, take, take_all, flat_map, sym, ap, ◌∙◌}
use Rattle.std.proofs.lemmas.Result.{IfOk-weaker}
use Rattle.std.proofs.lemmas.List.{take_more, append-nil, flat_map_more}
use Rattle.unicode.specs.CaseFolding.{fold_pairs, IsFoldPairs}
use Rattle.lalrpop_lexer_pattern.specs.Sets.{in_ranges, rises_from, folded_of, shares_folding}
use Rattle.lalrpop_lexer_pattern.specs.Partners.{partners_of}
use Rattle.lalrpop_lexer_pattern.proofs.SetLemmas.{range_from, range_at, ranges_of-same, rises_from-at}
use Rattle.lalrpop_lexer_pattern.proofs.FoldLemmas.{gathers_all}
use Rattle.lalrpop_lexer_pattern.proofs.PartnerLemmas.{all_left, fewer_left, gathers_partners}
use Rattle.lalrpop_lexer_pattern.proofs.set.CharacterSet.fold_case.Goals as goal

pub loop-range-init : goal.loop-range-init
loop-range-init c = record {
  left = all_left _ c.fold_pairs-pairs.result.now c.fold_pairs-pairs.ensures.table;
  gathered = c.in_ok-ranges.ensures.items ∙ c.deref.ensures.value ∙ sym (append-nil c.args.self.ranges.items);
}

pub push_partners-requires : goal.push_partners-requires
push_partners-requires c =
    let rises = ap (rises_from 0) c.deref-range-items.ensures.value ∙ c.args.self.rising in
    record {
      rising = c.loop-range.invariant.left.in_order;
      ordered = (rises_from-at 0 _ _ rises c.loop-range-test.true).1;
    }

pub loop-range-preserved : goal.loop-range-preserved
loop-range-preserved c =
    let items = c.deref-range-items.result.now in
    let i = c.loop-range.range-index in
    let rises = ap (rises_from 0) c.deref-range-items.ensures.value ∙ c.args.self.rising in
    let inv = c.loop-range.invariant in
    let before = c.args.self.ranges.items ++ flat_map (λ r. partners_of r fold_pairs) (take i items) in
    record {
      left = fewer_left items i _ _ rises c.loop-range-test.true inv.left c.in_ok-pairs.ensures.rest;
      gathered = c.in_ok-pairs.ensures.added
          ∙ ap (λ l. l ++ partners_of (range_at items i) c.loop-range.pairs.now) inv.gathered
          ∙ ap (λ l. before ++ l) (inv.left.same i (le_refl i) c.loop-range-test.true)
          ∙ flat_map_more (λ r. partners_of r fold_pairs) c.args.self.ranges.items (take i items) (range_at items i)
          ∙ ap (λ l. c.args.self.ranges.items ++ flat_map (λ r. partners_of r fold_pairs) l)
          (sym (take_more items i (range_from 0 0) c.loop-range-test.true));
    }

pub returns : goal.returns
returns c =
    let rs = c.args.self.ranges.items in
    let all = take_all _ _ c.loop-range-test.false ∙ c.deref-range-items.ensures.value in
    let whole : c.loop-range.ranges.items ≡ rs ++ flat_map (λ r. partners_of r fold_pairs) rs =
    c.loop-range.invariant.gathered ∙ ap (λ l. rs ++ flat_map (λ r. partners_of r fold_pairs) l) all in
    let table : IsFoldPairs fold_pairs = rw (← c.fold_pairs-pairs.ensures.table) c.fold_pairs-pairs.ensures.meaning in
    IfOk-weaker c.from_ranges.result _ (λ set. set.ranges.items ≡ folded_of rs)
    (λ set e. e ∙ ranges_of-same (in_ranges c.loop-range.ranges.items) (shares_folding rs)
    (gathers_all fold_pairs rs c.loop-range.ranges.items c.args.self.rising table
    (gathers_partners fold_pairs rs c.loop-range.ranges.items whole))) c.from_ranges.ensures
