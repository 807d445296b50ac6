use Rattle.std.proofs.Common.{ap, sym, ◌∙◌, map}
use Rattle.lalrpop_lexer_pattern.specs.Refused.{refusal}
use Rattle.lalrpop_lexer_pattern.specs.Matches.{concat_all}
use Rattle.lalrpop_lexer_pattern.specs.Meaning.{meaning}
use Rattle.lalrpop_lexer_pattern.proofs.MeaningLemmas.{meaning-Alternation}
use Rattle.lalrpop_lexer_pattern.proofs.RefusalLemmas.{refusal-alt_all}
use Rattle.lalrpop_lexer_pattern.proofs.+refusal.Goals as goal

pub tree::Hir::refusal-returns-in-Alternation : goal.tree::Hir::refusal-returns-in-Alternation
tree::Hir::refusal-returns-in-Alternation t c =
    c.first_refusal-in-Alternation.ensures ∙ ap (λ hs. refusal (concat_all (map meaning hs))) c.deref-in-Alternation.ensures.value
    ∙ refusal-alt_all (map meaning c.in-Alternation.subs.items)
    ∙ sym (ap refusal (ap meaning c.in-Alternation.is ∙ meaning-Alternation c.in-Alternation.subs))
    ∙ sym c.loop-tree.invariant.same
