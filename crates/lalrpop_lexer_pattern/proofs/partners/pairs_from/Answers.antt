use Rattle.std.proofs.Common.{◌≡◌, ℕ, ◌≤◌, ◌<◌, length, get_or, nat_le, nat_lt, true, false, sym, ap, ◌∙◌}
use Rattle.std.proofs.Common.{arith, rules}
use Rattle.std.proofs.lemmas.Bool.Decides.{nat_tests}
use Rattle.std.proofs.lemmas.Option.{get_or_from_slice_get}
use Rattle.std.proofs.lemmas.List.Sorted.{IsPartitionPoint-from_clause, IsPartitionedBy-ltb}
use Rattle.lalrpop_lexer_pattern.proofs.PartnerLemmas.{filter-all, filter-drop}
use Rattle.lalrpop_lexer_pattern.proofs.partners.pairs_from.Goals as goal

passes : (s a : ℕ) → s ≤ a → nat_le s a ≡ true
passes s a h = grind (arith, nat_tests)

passes_not : (s a : ℕ) → nat_lt a s ≡ true → nat_le s a ≡ false
passes_not s a h = grind (arith, nat_tests)

passes_from : (s a : ℕ) → nat_lt a s ≡ false → nat_le s a ≡ true
passes_from s a h = grind (arith, nat_tests)

pub returns : goal.returns
returns c =
    let ps = c.args.pairs.now in
    let s = c.args.start in
    let head = λ (d : ℕ × ℕ). get_or_from_slice_get ps 0 c.in-Some.field-0.now d (sym c.in-Some.ensures.value) in
    let first : (k : ℕ) (d : ℕ × ℕ) → k < length ps → s ≤ (get_or ps k d).0 =
    λ k d hk. omega (arith, ap (λ (p : ℕ × ℕ). p.0) (head d), c.requires 0 k d (omega arith) hk) in
    sym (filter-all (λ (p : ℕ × ℕ). nat_le s p.0) ps (λ k d hk. passes s (get_or ps k d).0 (first k d hk)))

pub returns-2 : goal.returns-2
returns-2 c =
    let ps = c.args.pairs.now in
    let s = c.args.start in
    let parted = IsPartitionedBy-ltb (λ (p : ℕ × ℕ). p.0) ps s c.requires in
    let point = IsPartitionPoint-from_clause (λ (p : ℕ × ℕ). nat_lt p.0 s) _ _ c.partition_point-before.ensures.partitioned parted
    (λ a r q k. search rules) in
    c.split_at.ensures.back ∙ sym (filter-drop (λ (p : ℕ × ℕ). nat_le s p.0) ps c.partition_point-before.result
    (λ i d hi _. passes_not s (get_or ps i d).0 (point.0 i d (omega arith) hi))
    (λ i d hi hl. passes_from s (get_or ps i d).0 (point.1 i d hi hl)))
