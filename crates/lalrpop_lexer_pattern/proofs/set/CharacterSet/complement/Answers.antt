use Rattle.std.proofs.Common.{◌≡◌, ◌≤◌, ℕ, Bool, true, false, not, ◌&&◌, ◌||◌, nat_le, ◌++◌, ◌∷◌, [], ap}
use Rattle.std.proofs.Common.{◌∙◌, arith}
use Rattle.std.proofs.lemmas.Result.{IfOk-weaker}
use Rattle.std.proofs.lemmas.Bool.Decides.{nat_tests}
use Rattle.lalrpop_lexer_pattern.specs.Sets.{in_range, in_ranges, is_scalar, complement_of}
use Rattle.lalrpop_lexer_pattern.proofs.SetLemmas.{range_from, in_range_tells, in_ranges-push, in_ranges-ranges_of, is_ranges_of}
use Rattle.lalrpop_lexer_pattern.proofs.set.CharacterSet.complement.Goals as goal

-- what is neither a member nor a surrogate
outside : (a : Bool) (x : ℕ) → x ≤ 0x10_FFFF
    → (nat_le x 0x10_FFFF && not (a || in_range (range_from 0xD800 0xDFFF) x)) ≡ (is_scalar x && not a)
outside true x h = grind (arith, nat_tests, in_range_tells (range_from 0xD800 0xDFFF) x)
outside false x h = grind (arith, nat_tests, in_range_tells (range_from 0xD800 0xDFFF) x)

pub returns : goal.returns
returns c =
    let rs = c.args.self.ranges.items in
    let pushed : c.push.new.self.items ≡ rs ++ range_from 0xD800 0xDFFF ∷ [] = c.in_ok-push.ensures.items in
    IfOk-weaker c.gaps.result _ (λ set. set.ranges.items ≡ complement_of rs)
    (λ set m. is_ranges_of set.ranges.items _ set.rising (λ x h. m x
    ∙ ap (λ b. nat_le x 0x10_FFFF && not b) (ap (λ l. in_ranges l x) c.in_ok-from_ranges.ensures ∙ in_ranges-ranges_of _ x h
    ∙ ap (λ l. in_ranges l x) pushed ∙ in_ranges-push rs _ x)
    ∙ outside (in_ranges rs x) x h)) c.gaps.ensures
