use Rattle.std.proofs.Common.{◌≡◌, ◌∙◌, ◌++◌, ap, rules}
use Rattle.lalrpop_lexer_pattern.specs.Sets.{in_ranges, ranges_of, union_of}
use Rattle.lalrpop_lexer_pattern.proofs.SetLemmas.{ranges_of-again, ranges_of-append}
use Rattle.lalrpop_lexer_pattern.proofs.set_builder.CharacterSetBuilder.with.Goals as goal

pub returns-then-len-self : goal.returns-then-len-self
returns-then-len-self c =
    let ss = c.args.set.now.ranges.items in
    let both : c.extend_from_slice.new.self.items ≡ c.self.inside.ranges.items ++ ss = search rules in
    ranges_of-append c.self.inside.ranges.items ss _ both ∙ ap (λ rs. union_of rs ss) c.self.view_is

pub returns : goal.returns
returns c =
    let ss = c.args.set.now.ranges.items in
    let both : c.extend_from_slice.new.self.items ≡ c.self.inside.ranges.items ++ ss = search rules in
    ap (λ rs. ranges_of (in_ranges rs)) c.in_ok-ranges.ensures ∙ ranges_of-again _
    ∙ ranges_of-append c.self.inside.ranges.items ss _ both ∙ ap (λ rs. union_of rs ss) c.self.view_is
