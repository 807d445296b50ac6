use Rattle.std.proofs.Common.{◌≡◌, ℕ, ◌≤◌, ◌+◌, ◌-◌, ◌<◌, ◌||◌, true, false, Bool, cond, List, [], ◌∷◌}
use Rattle.std.proofs.Common.{◌++◌, length, take, set, get_or, max, refl, sym, ap, ◌∙◌, arith, take_all}
use Rattle.std.proofs.lemmas.Bool.{and_parts, and_from}
use Rattle.std.proofs.lemmas.List.{nil_from_length, take_more, take_more_set, length-set}
use Rattle.lalrpop_lexer_pattern.specs.declared.class.Range.{Range}
use Rattle.lalrpop_lexer_pattern.specs.Sets.{in_range, in_ranges, rises_from, last_start_or, IsRising}
use Rattle.lalrpop_lexer_pattern.proofs.SetLemmas.{range_from, in_range_tells, in_ranges-push, next_free, next_free-push, next_free-nil}
use Rattle.lalrpop_lexer_pattern.proofs.SetLemmas.{last_start_or-push, rises_from-push, fits_from-true, le-fits_from}
use Rattle.lalrpop_lexer_pattern.proofs.set.CharacterSet.push.Goals as goal
use Rattle.lalrpop_lexer_pattern.proofs.set.CharacterSet.push.Goals.{then-len-gt0+else-range-last, else-len-gt0}

-- what is known of a rising list with a last range
last_fits : (whole xs : List Range) (r : Range) → whole ≡ xs ++ r ∷ [] → IsRising whole → IsRising xs
    × (next_free 0 xs ≤ r.start) × (r.start ≤ r.end) × (r.end ≤ 0x10_FFFF)
last_fits whole xs r e h =
    let parts = and_parts _ _ (sym (rises_from-push 0 xs r) ∙ ap (rises_from 0) (sym e) ∙ h) in
    let fits = fits_from-true _ r parts.1 in
    (parts.0, fits.0, fits.1, fits.2)

-- a push that may fail leaves a rising list
pushed_fits : (b : Bool) (new xs : List Range) (r : Range) → new ≡ cond b (xs ++ r ∷ []) xs → IsRising xs
    → next_free 0 xs ≤ r.start → r.start ≤ r.end → r.end ≤ 0x10_FFFF → IsRising new
pushed_fits true new xs r e h p q s = ap (rises_from 0) e ∙ rises_from-push 0 xs r ∙ and_from _ _ h (le-fits_from _ r p q s)
pushed_fits false new xs r e h p q s = ap (rises_from 0) e ∙ h

-- two ranges that touch hold what one over both holds
over_both : (b : Bool) (last r : Range) (m c : ℕ) → last.start ≤ r.start → r.start ≤ last.end + 1 → last.start ≤ last.end
    → m ≡ max last.end r.end → (b || in_range (range_from last.start m) c) ≡ ((b || in_range last c) || in_range r c)
over_both true last r m c p q s e = refl
over_both false last r m c p q s e = grind (arith, in_range_tells (range_from last.start m) c, in_range_tells last c, in_range_tells r c)

-- a list is its front and its last element, also after that element is replaced
front_last : (xs : List Range) (n : ℕ) (last : Range) → n ≡ length xs → 0 < n → last ≡ get_or xs (n - 1) last →
    xs ≡ take (n - 1) xs ++ last ∷ []
front_last xs n last len some is =
    sym (take_all (n - 1 + 1) xs (omega arith)) ∙ take_more xs (n - 1) last (omega arith)
    ∙ ap (λ (r : Range). take (n - 1) xs ++ r ∷ []) (sym is)

front_new : (xs : List Range) (n : ℕ) (new : Range) → n ≡ length xs → 0 < n → set xs (n - 1) new ≡ take (n - 1) xs ++ new ∷ []
front_new xs n new len some =
    sym (take_all (n - 1 + 1) (set xs (n - 1) new) (omega (arith, length-set xs (n - 1) new)))
    ∙ take_more_set xs (n - 1) new (omega arith)

pub overflow_add-last : goal.overflow_add-last
overflow_add-last c =
    let xs = c.args.self.now.ranges in
    let old = front_last xs.items _ _ (c.len-len.ensures ∙ xs.ok.0) c.if-len-gt0.true c.index-last.ensures in
    let h = last_fits _ _ _ old c.args.self.now.rising in omega arith

pub invariant_of-self : goal.invariant_of-self
invariant_of-self c =
    let xs = c.args.self.now.ranges in
    let len = c.len-len.ensures ∙ xs.ok.0 in
    let h = last_fits _ _ _ (front_last xs.items _ _ len c.if-len-gt0.true c.index-last.ensures) c.args.self.now.rising in
    let m = c.max.ensures in
    record {
      rising = pushed_fits true _ _ (range_from c.index-last.result.now.start c.max.result)
          (front_new xs.items _ _ len c.if-len-gt0.true) h.0 h.1 (omega arith) (omega arith);
    }

pub returns-then-range-last-clause-members : goal.returns-then-range-last-clause-members
returns-then-range-last-clause-members c =
    let xs = c.args.self.now.ranges in
    let len = c.len-len.ensures ∙ xs.ok.0 in
    let old = front_last xs.items _ _ len c.if-len-gt0.true c.index-last.ensures in
    let h = last_fits _ _ _ old c.args.self.now.rising in
    let start = ap (last_start_or 0) old ∙ last_start_or-push 0 _ _ in
    λ x. ap (λ l. in_ranges l x) (front_new xs.items _ _ len c.if-len-gt0.true) ∙ in_ranges-push _ _ x
    ∙ over_both _ c.index-last.result.now c.args.range _ x (omega arith) c.if-range-last.true h.2 c.max.ensures
    ∙ ap (λ b. b || in_range c.args.range x) (sym (ap (λ l. in_ranges l x) old ∙ in_ranges-push _ _ x))

pub returns-then-range-last-clause-starts : goal.returns-then-range-last-clause-starts
returns-then-range-last-clause-starts c =
    let xs = c.args.self.now.ranges in
    let len = c.len-len.ensures ∙ xs.ok.0 in
    let old = ap (last_start_or 0) (front_last xs.items _ _ len c.if-len-gt0.true c.index-last.ensures)
    ∙ last_start_or-push 0 _ _ in
    let new = ap (last_start_or 0) (front_new xs.items _ (range_from c.index-last.result.now.start c.max.result) len c.if-len-gt0.true)
    ∙ last_start_or-push 0 _ _ in
    omega arith

pub invariant_of-self-2 : goal.invariant_of-self-2
invariant_of-self-2 c =
    let xs = c.args.self.now.ranges in
    let len = c.len-len.ensures ∙ xs.ok.0 in
    let free : next_free 0 xs.items ≤ c.args.range.start = elim c.if-len-gt0.branch [
      | then-len-gt0+else-range-last w ↦ omega (
        arith,
        ap (next_free 0) (front_last xs.items _ _ len w.if-len-gt0.true w.index-last.ensures) ∙ next_free-push 0 _ _,
      )
      | else-len-gt0 w ↦ omega (arith, ap (next_free 0) (nil_from_length xs.items (omega arith)) ∙ next_free-nil 0)
    ] in
    record {
      rising =
          pushed_fits _ _ _ _ c.push.ensures.items c.args.self.now.rising free c.requires.ordered c.requires.bounded;
    }

pub returns-clause-members : goal.returns-clause-members
returns-clause-members c = λ x. ap (λ l. in_ranges l x) c.in_ok-push.ensures.items ∙ in_ranges-push _ _ x

pub returns-clause-starts : goal.returns-clause-starts
returns-clause-starts c = omega (arith, ap (last_start_or 0) c.in_ok-push.ensures.items ∙ last_start_or-push 0 _ _)
