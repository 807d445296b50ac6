use Rattle.std.proofs.Common.{◌≡◌, true, false, sym, ◌∙◌}
use Rattle.lalrpop_grammar_rules.specs.Views.{closed_view}
use Rattle.lalrpop_norm_keys.proofs.TableLemmas.{none_more}
use Rattle.lalrpop_norm_keys.proofs.key_table.key_table.find_at.Goals as goal

pub loop-place-preserved : goal.loop-place-preserved
loop-place-preserved c =
    none_more c.args.keys.now c.args.places.now (closed_view c.args.key.now) c.loop-place.place-index 0 c.loop-place-test.true
    c.loop-place.invariant (λ e. let wrong : true ≡ false = sym (c.is_at.ensures.1 e) ∙ c.if-is_at.false in cc)
