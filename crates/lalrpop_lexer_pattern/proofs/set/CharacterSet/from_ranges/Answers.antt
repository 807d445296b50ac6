use Rattle.std.proofs.Common.{◌≡◌, ℕ, ◌<◌, ◌≤◌, ◌||◌, false, take, min, sym, ap, ◌∙◌, arith, rules, take_all}
use Rattle.std.proofs.Common.{ap₂, le_trans}
use Rattle.std.proofs.lemmas.List.Sorted.{IsNonDecreasingBy-from_sort_by_key}
use Rattle.std.specs.List.Sorted.{IsNonDecreasingBy}
use Rattle.lalrpop_lexer_pattern.specs.declared.class.Range.{Range}
use Rattle.lalrpop_lexer_pattern.specs.Sets.{in_range, in_ranges, last_start_or}
use Rattle.lalrpop_lexer_pattern.proofs.SetLemmas.{range_from, range_at, in_range_tells, or-false, in_ranges-more, in_ranges-IsPermutation}
use Rattle.lalrpop_lexer_pattern.proofs.SetLemmas.{last_start_or-nil, is_ranges_of}
use Rattle.lalrpop_lexer_pattern.proofs.set.CharacterSet.from_ranges.Goals.{then-range-end+in_ok-push, else-range-end}
use Rattle.lalrpop_lexer_pattern.proofs.set.CharacterSet.from_ranges.Goals as goal

-- a range that is cut at the end of Unicode holds the same up to there
cut : (r : Range) (m x : ℕ) → m ≡ min r.end 0x10_FFFF → x ≤ 0x10_FFFF → in_range (range_from r.start m) x ≡ in_range r x
cut r m x e h = grind (arith, in_range_tells (range_from r.start m) x, in_range_tells r x)

cut_away : (r : Range) (m x : ℕ) → m ≡ min r.end 0x10_FFFF → x ≤ 0x10_FFFF → m < r.start → in_range r x ≡ false
cut_away r m x e h lt = grind (arith, in_range_tells r x)

pub loop-range-init : goal.loop-range-init
loop-range-init c =
    let none = c.empty-set.ensures in
    record {
      members = λ x _. ap (λ l. in_ranges l x) none;
      starts = λ k _ _. omega (arith, ap (last_start_or 0) none ∙ last_start_or-nil 0);
    }

pub loop-range-preserved : goal.loop-range-preserved
loop-range-preserved c =
    let rs = c.deref-range-items.result.now in
    let i = c.loop-range.range-index in
    let r = range_at rs i in
    let inv = c.loop-range.invariant in
    let sorted : IsNonDecreasingBy (λ (p : Range). p.start) rs =
    rw c.deref-range-items.ensures.value
    (IsNonDecreasingBy-from_sort_by_key (λ (p : Range). p.start) _ c.sort_unstable_by_key.ensures.sorted (λ a r q k. search rules)) in
    elim c.if-range-end.branch [
      | then-range-end+in_ok-push w ↦ rw w.set-is (record {
        members = λ x h. w.in_ok-push.ensures.members x
            ∙ ap₂ ◌||◌ (inv.members x h) (cut r _ x c.min-end.ensures h)
            ∙ sym (in_ranges-more rs i x c.loop-range-test.true);
        starts = λ k le hk. le_trans w.in_ok-push.ensures.starts (sorted i k (range_from 0 0) (omega arith) hk);
      })
      | else-range-end w ↦ rw w.set-is (record {
        members = λ x h. inv.members x h ∙ sym (or-false _)
            ∙ ap (λ b. in_ranges (take i rs) x || b) (sym (cut_away r _ x c.min-end.ensures h w.if-range-end.false))
            ∙ sym (in_ranges-more rs i x c.loop-range-test.true);
        starts = λ k le hk. inv.starts k (omega arith) hk;
      })
    ]

pub returns : goal.returns
returns c =
    let all = take_all _ _ c.loop-range-test.false ∙ c.deref-range-items.ensures.value in
    is_ranges_of c.loop-range.set.ranges.items (in_ranges c.args.ranges.items) c.loop-range.set.rising
    (λ x h. c.loop-range.invariant.members x h ∙ ap (λ l. in_ranges l x) all
    ∙ in_ranges-IsPermutation _ _ x c.sort_unstable_by_key.ensures.permutation)
