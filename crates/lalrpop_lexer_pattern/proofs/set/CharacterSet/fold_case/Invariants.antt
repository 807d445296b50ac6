use Rattle.std.proofs.Common.{◌≡◌, ◌++◌, take, flat_map}
use Rattle.unicode.specs.CaseFolding.{fold_pairs}
use Rattle.lalrpop_lexer_pattern.specs.Partners.{partners_of}
use Rattle.lalrpop_lexer_pattern.proofs.PartnerLemmas.{AreLeft}
use Rattle.lalrpop_lexer_pattern.proofs.set.CharacterSet.fold_case.Given as goal

abbrev pub invariant-loop-range : goal.invariant-loop-range
invariant-loop-range l = record {
  left : AreLeft l.range-items l.range-index l.pairs;
  gathered : l.ranges.items
      ≡ l.fn.self.ranges.items ++ flat_map (λ r. partners_of r fold_pairs) (take l.range-index l.range-items);
}
