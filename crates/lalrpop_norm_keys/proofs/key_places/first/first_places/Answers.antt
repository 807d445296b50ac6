use Rattle.std.proofs.Common.{map, subst, sym, take}
use Rattle.lalrpop_grammar_symbols.specs.Views.{span_view}
use Rattle.lalrpop_norm_keys.proofs.TableLemmas.{take_next}
use Rattle.lalrpop_norm_keys.specs.Tables.{table_keys}
use Rattle.lalrpop_norm_keys.specs.FirstPlaces.{TellFirst}
use Rattle.lalrpop_norm_keys.specs.Views.{met_view}
use Rattle.lalrpop_norm_keys.proofs.key_places.first.first_places.Goals as goal

pub loop-each-preserved : goal.loop-each-preserved
loop-each-preserved c =
    let ms = c.args.met.now in
    let i = c.loop-each.each-index in (
      c.in_ok-note_first.ensures.indexed,
      subst (λ l. TellFirst l (table_keys c.note_first.new.first.keys) (map span_view c.note_first.new.first.spans))
          (sym (take_next met_view ms i c.each-item.result c.loop-each-test.true c.each-item.is))
          (c.in_ok-note_first.ensures.told (map met_view (take i ms)) c.loop-each.invariant.1),
    )
