use Rattle.lalrpop_lr1_barren.proofs.NamedLemmas.{view_pushed}
use Rattle.lalrpop_lr1_barren.proofs.reachable.named.list_under.Goals as goal

pub returns : goal.returns
returns c =
    view_pushed c.args.lists.now.items c.args.name c.index_mut.result.now c.push.new.self c.args.production c.requires
    c.index_mut.ensures.value c.in_ok-push.ensures.items
