-- The partners that a table of foldings gives to the members of ranges, for the folding of a set.
use Rattle.std.proofs.Common.{◌≡◌, ℕ, ◌≤◌, ◌⊎◌, true, ◌&&◌, ◌==◌, List}
use Rattle.std.proofs.Common.{Contains, refl, sym, ap, ◌∙◌, inl, inr, arith, eqb-true, eq-eqb}
use Rattle.std.proofs.lemmas.Bool.{and_parts, and_from, cases_eq, cases_lt, both_ways}
use Rattle.unicode.specs.CaseFolding.{simple_fold, IsFoldPairs}
use Rattle.lalrpop_lexer_pattern.specs.declared.class.Range.{Range}
use Rattle.lalrpop_lexer_pattern.specs.Sets.{in_ranges, IsRising, shares_folding}
use Rattle.lalrpop_lexer_pattern.proofs.SetLemmas.{in_ranges-above_max, some_below-from}
use Rattle.lalrpop_lexer_pattern.proofs.SetLemmas.{some_below-true, same_tests}

-- some pair leads from a member of the ranges to the number
pub record Leads (pairs : List (ℕ × ℕ)) (rs : List Range) (c : ℕ) : Type 0 where
  pub source : ℕ
  pub listed : Contains pairs (source, c)
  pub member : in_ranges rs source ≡ true

-- the ranges, and the targets of the pairs whose sources they hold
pub record Gathers (pairs : List (ℕ × ℕ)) (rs gathered : List Range) : Type 0 where
  pub kept : (c : ℕ) → in_ranges rs c ≡ true → in_ranges gathered c ≡ true
  pub reached : (c : ℕ) → Leads pairs rs c → in_ranges gathered c ≡ true
  pub only : (c : ℕ) → in_ranges gathered c ≡ true → (in_ranges rs c ≡ true) ⊎ Leads pairs rs c

-- with the pairs of all foldings, what shares a folding with a member is gathered
pub gathers_all : (pairs : List (ℕ × ℕ)) (rs gathered : List Range) → IsRising rs → IsFoldPairs pairs
    → Gathers pairs rs gathered →
    (c : ℕ) → c ≤ 0x10_FFFF → in_ranges gathered c ≡ shares_folding rs c
gathers_all pairs rs gathered rising table g c within =
    let test = λ (m : ℕ). in_ranges rs m && (simple_fold m == simple_fold c) in
    same_tests _ _
    (λ m. elim (g.only c m) [
      | inl own ↦ some_below-from 0x11_0000 test c (omega arith) (and_from _ _ own (eq-eqb (simple_fold c) (simple_fold c) refl))
      | inr l ↦ elim (cases_lt 0x10_FFFF l.source) [
        | inl above ↦ absurd (both_ways _ (in_ranges-above_max 0 rs l.source rising above) l.member)
        | inr low ↦ some_below-from 0x11_0000 test l.source (omega arith)
            (and_from _ _ l.member (eq-eqb _ _ ((table l.source c).0 l.listed).1))
      ]
    ])
    (λ s.
    let found = some_below-true 0x11_0000 test s in
    let parts = and_parts _ _ found.2 in
    elim (cases_eq found.0 c) [
      | inl e ↦ g.kept c (ap (in_ranges rs) (sym e) ∙ parts.0)
      | inr ne ↦ g.reached c (record { source = found.0; listed = (table found.0 c).1 (ne, eqb-true _ _ parts.1); member = parts.0 })
    ])
