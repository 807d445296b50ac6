use Rattle.std.proofs.Common.{◌≡◌, ◌++◌, ◌∙◌, ap, rules}
use Rattle.std.proofs.lemmas.Result.{IfOk-weaker}
use Rattle.lalrpop_lexer_pattern.specs.Sets.{in_ranges, union_of}
use Rattle.lalrpop_lexer_pattern.proofs.SetLemmas.{in_ranges-append, ranges_of-same}
use Rattle.lalrpop_lexer_pattern.proofs.set.CharacterSet.union.Goals as goal

pub returns : goal.returns
returns c =
    let rs = c.args.self.ranges.items in
    let ss = c.args.other.now.ranges.items in
    let both : c.extend_from_slice.new.self.items ≡ rs ++ ss = search rules in
    IfOk-weaker c.from_ranges.result _ (λ set. set.ranges.items ≡ union_of rs ss)
    (λ set e. e ∙ ranges_of-same _ _ (λ x h. ap (λ l. in_ranges l x) both ∙ in_ranges-append rs ss x)) c.from_ranges.ensures
