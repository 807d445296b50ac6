use Rattle.std.specs.Prelude.{length}
use Rattle.lalrpop_grammar.specs.Views.{item_view}
use Rattle.lalrpop_norm_theory.specs.Premises.{IsReadItem}
use Rattle.lalrpop_json_items.specs.Readable.{IsReadableItem}
use Rattle.lalrpop_norm.proofs.ItemLemmas.{each_image, item_read}
use Rattle.lalrpop_norm.proofs.read_law.readable_grammars_are_read.Goals as goal

pub returns : goal.returns
returns c = λ g h. record {
  underscores = length g.prefix;
  two = h.prefix.two;
  prefix_is = h.prefix.run;
  items = each_image (λ _. IsReadableItem) IsReadItem item_view item_read 0 g.items h.items;
}
