use Rattle.std.proofs.Common.{◌≡◌, ◌-◌, ℕ, ◌+◌, ◌<◌, ◌≤◌, ◌||◌, ◌&&◌, not, true, false, Bool, nat_le}
use Rattle.std.proofs.Common.{refl, sym, ap, ◌∙◌, arith, take_all}
use Rattle.std.proofs.lemmas.Bool.{both_ways}
use Rattle.std.proofs.lemmas.Bool.Decides.{nat_tests}
use Rattle.lalrpop_lexer_pattern.specs.declared.class.Range.{Range}
use Rattle.lalrpop_lexer_pattern.specs.Sets.{in_range, in_ranges, rises_from, last_start_or}
use Rattle.lalrpop_lexer_pattern.proofs.SetLemmas.{range_from, range_at, in_range_tells, in_ranges-nil, in_ranges-more, last_start_or-nil}
use Rattle.lalrpop_lexer_pattern.proofs.SetLemmas.{rises_from-at, rises_from-gap}
use Rattle.lalrpop_lexer_pattern.proofs.set.CharacterSet.gaps.Goals.{then-next-range+in_ok-push, else-next-range}
use Rattle.lalrpop_lexer_pattern.proofs.set.CharacterSet.gaps.Goals.{then-next-le-MAX+in_ok-push-2, else-next-le-MAX}
use Rattle.lalrpop_lexer_pattern.proofs.set.CharacterSet.gaps.Goals as goal

-- one more range, where there is a gap before it: seen says whether an earlier range holds x
gap_added : (old seen : Bool) (r : Range) (next m x : ℕ) → (seen ≡ true → x < next) → next < r.start → r.start ≤ r.end
    → m ≡ r.start - 1 → old ≡ (nat_le (x + 1) next && not seen)
    → (old || in_range (range_from next m) x) ≡ (nat_le (x + 1) (r.end + 1) && not (seen || in_range r x))
gap_added old true r next m x h a b e o = grind (arith, nat_tests, in_range_tells (range_from next m) x, h refl)
gap_added old false r next m x h a b e o = grind (arith, nat_tests, in_range_tells (range_from next m) x, in_range_tells r x)

-- one more range, with no gap before it
no_gap : (old seen : Bool) (r : Range) (next x : ℕ) → (seen ≡ true → x < next) → next ≤ r.start → r.start ≤ r.end
    → r.start ≤ next → old ≡ (nat_le (x + 1) next && not seen)
    → old ≡ (nat_le (x + 1) (r.end + 1) && not (seen || in_range r x))
no_gap old true r next x h a b e o = grind (arith, nat_tests, h refl)
no_gap old false r next x h a b e o = grind (arith, nat_tests, in_range_tells r x)

-- after the last range
last_gap : (old seen : Bool) (next x : ℕ) → (seen ≡ true → x < next) → next ≤ 0x11_0000
    → old ≡ (nat_le (x + 1) next && not seen) → (old || in_range (range_from next 0x10_FFFF) x) ≡ (nat_le x 0x10_FFFF && not seen)
last_gap old true next x h b o = grind (arith, nat_tests, in_range_tells (range_from next 0x10_FFFF) x, h refl)
last_gap old false next x h b o = grind (arith, nat_tests, in_range_tells (range_from next 0x10_FFFF) x)

no_last_gap : (old seen : Bool) (next x : ℕ) → next ≤ 0x11_0000 → 0x10_FFFF < next → old ≡ (nat_le (x + 1) next && not seen)
    → old ≡ (nat_le x 0x10_FFFF && not seen)
no_last_gap old true next x b h o = grind (arith, nat_tests)
no_last_gap old false next x b h o = grind (arith, nat_tests)

seen_below : (seen : Bool) (r : Range) (next x : ℕ) → (seen ≡ true → x < next) → next ≤ r.start → r.start ≤ r.end
    → (seen || in_range r x) ≡ true → x < r.end + 1
seen_below true r next x h a b e = omega (arith, h refl)
seen_below false r next x h a b e = grind (arith, in_range_tells r x)

pub loop-range-init : goal.loop-range-init
loop-range-init c =
    let none = c.empty-gaps.ensures in
    record {
      within = omega arith;
      starts = omega (arith, ap (last_start_or 0) none ∙ last_start_or-nil 0);
      before = λ _. omega arith;
      passed = λ x h. absurd (both_ways _ (in_ranges-nil x) h);
      members = λ x. ap (λ l. in_ranges l x) none ∙ in_ranges-nil x ∙ grind (arith, nat_tests);
    }

pub overflow_add-next : goal.overflow_add-next
overflow_add-next c =
    let rises = ap (rises_from 0) c.deref-range-items.ensures.value ∙ c.args.self.now.rising in
    omega (arith, (rises_from-at 0 _ _ rises c.loop-range-test.true).2)

pub loop-range-preserved : goal.loop-range-preserved
loop-range-preserved c =
    let rs = c.deref-range-items.result.now in
    let i = c.loop-range.range-index in
    let r = range_at rs i in
    let inv = c.loop-range.invariant in
    let rises = ap (rises_from 0) c.deref-range-items.ensures.value ∙ c.args.self.now.rising in
    let at = rises_from-at 0 rs i rises c.loop-range-test.true in
    let from = inv.before c.loop-range-test.true in
    let more = λ (x : ℕ). in_ranges-more rs i x c.loop-range-test.true in
    record {
      within = omega arith;
      starts = elim c.if-next-range.branch [
        | then-next-range+in_ok-push w ↦ rw w.gaps-is (omega (arith, w.in_ok-push.ensures.starts))
        | else-next-range w ↦ rw w.gaps-is (omega (arith, inv.starts))
      ];
      before = λ h. omega (arith, rises_from-gap 0 rs i (i + 1) rises (omega arith) h);
      passed = λ x h. seen_below _ r _ x (inv.passed x) from at.1 (sym (more x) ∙ h);
      members = λ x. rw (more x) (elim c.if-next-range.branch [
        | then-next-range+in_ok-push w ↦
            rw w.gaps-is (w.in_ok-push.ensures.members x
            ∙ gap_added _ _ r _ _ x (inv.passed x) w.if-next-range.true at.1 refl (inv.members x))
        | else-next-range w ↦
            rw w.gaps-is (no_gap _ _ r _ x (inv.passed x) from at.1 w.if-next-range.false (inv.members x))
      ]);
    }

pub returns : goal.returns
returns c =
    let inv = c.loop-range.invariant in
    let all = take_all _ _ c.loop-range-test.false ∙ c.deref-range-items.ensures.value in
    λ x. rw (← all) (elim c.if-next-le-MAX.branch [
      | then-next-le-MAX+in_ok-push-2 w ↦ rw w.gaps-is
          (w.in_ok-push-2.ensures.members x ∙ last_gap _ _ _ x (inv.passed x) inv.within (inv.members x))
      | else-next-le-MAX w ↦ rw w.gaps-is (no_last_gap _ _ _ x inv.within w.if-next-le-MAX.false (inv.members x))
    ])

pub push-requires-clause-bounded : goal.push-requires-clause-bounded
push-requires-clause-bounded c =
    let rises = ap (rises_from 0) c.deref-range-items.ensures.value ∙ c.args.self.now.rising in
    omega (arith, (rises_from-at 0 _ _ rises c.loop-range-test.true).1, (rises_from-at 0 _ _ rises c.loop-range-test.true).2)
