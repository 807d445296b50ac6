-- The test of ranges and the relation that patterns use say the same: for the law on sets.
use Rattle.std.proofs.Common.{◌≡◌, ◌↔◌, ℕ, suc, ◌≤◌, Bool, true, List, [], ◌∷◌, refl, sym, ap, ◌∙◌, inl}
use Rattle.std.proofs.Common.{inr, arith, true≢false}
use Rattle.std.proofs.lemmas.Bool.{or_cases, cases_lt, both_ways}
use Rattle.std.proofs.lemmas.List.{get_or_default}
use Rattle.lalrpop_lexer_pattern.specs.declared.class.Range.{Range}
use Rattle.lalrpop_lexer_pattern.specs.Ranges.{InRanges, IsCanonical}
use Rattle.lalrpop_lexer_pattern.specs.Sets.{in_range, in_ranges, ranges_of, IsRising}
use Rattle.lalrpop_lexer_pattern.proofs.SetLemmas.{range_from, range_at, in_range_tells, in_ranges-nil, in_ranges-cons, in_ranges-at}
use Rattle.lalrpop_lexer_pattern.proofs.SetLemmas.{in_ranges-above_max, in_ranges-ranges_of, ranges_of-rises, IsCanonical-from_rising}
use Rattle.lalrpop_lexer_pattern.proofs.SetLemmas.{same_from, same_tests}

pub InRanges-from : (rs : List Range) (c : ℕ) → in_ranges rs c ≡ true → InRanges rs c
InRanges-from [] c h = absurd (true≢false (sym h ∙ in_ranges-nil c))
InRanges-from (r ∷ rs) c h = elim (or_cases (in_range r c) (in_ranges rs c) (sym (in_ranges-cons r rs c) ∙ h)) [
  | inl here ↦ elim (in_range_tells r c) [
    | inl ok ↦ (r, (0, omega arith, refl), ok.1, ok.2)
    | inr out ↦ absurd (both_ways _ out.0 here)
  ]
  | inr later ↦
      let rest = InRanges-from rs c later in
      (rest.0, (suc rest.1.0, omega (arith, rest.1.1), rest.1.2), rest.2, rest.3)
]

pub in_ranges-from : (rs : List Range) (c : ℕ) → InRanges rs c → in_ranges rs c ≡ true
in_ranges-from rs c m =
    let k = m.1.0 in
    let same : range_at rs k ≡ m.0 = get_or_default rs k (range_from 0 0) m.0 m.1.1 ∙ m.1.2 in
    in_ranges-at rs k c m.1.1 (ap (λ (r : Range). in_range r c) same ∙ elim (in_range_tells m.0 c) [
      | inl ok ↦ ok.0
      | inr out ↦ elim out.1 [ inl low ↦ absurd (omega (arith, m.2)) | inr high ↦ absurd (omega (arith, m.3)) ]
    ])

-- the ranges of a test hold just the code points that pass it
pub members_of_a_test : (p : ℕ → Bool) (c : ℕ) → InRanges (ranges_of p) c ↔ ((c ≤ 0x10_FFFF) × (p c ≡ true))
members_of_a_test p c = (
  λ m.
      let is = in_ranges-from (ranges_of p) c m in
      elim (cases_lt 0x10_FFFF c) [
        | inl above ↦ absurd (both_ways _ (in_ranges-above_max 0 (ranges_of p) c (ranges_of-rises p) above) is)
        | inr within ↦ (within, sym (in_ranges-ranges_of p c within) ∙ is)
      ],
  λ h. InRanges-from (ranges_of p) c (in_ranges-ranges_of p c h.0 ∙ h.1),
)

-- the ranges of a test ascend, with a gap between each and the next
pub canonical_ranges_of_a_test : (p : ℕ → Bool) → IsCanonical (ranges_of p)
canonical_ranges_of_a_test p = IsCanonical-from_rising (ranges_of p) (ranges_of-rises p)

-- rising ranges with the same members are the same ranges
pub members_determine : (rs ss : List Range) → IsRising rs → IsRising ss → ((c : ℕ) → InRanges rs c ↔ InRanges ss c)
    → rs ≡ ss
members_determine rs ss hr hs same =
    same_from 0 rs ss hr hs (λ c. same_tests _ _
    (λ t. in_ranges-from ss c ((same c).0 (InRanges-from rs c t)))
    (λ t. in_ranges-from rs c ((same c).1 (InRanges-from ss c t))))
