use Rattle.lalrpop_sets.proofs.EntryLemmas.{ok_map, puts_changed}
use Rattle.lalrpop_sets.proofs.multimap.MultimapCollection.push.Goals as goal

pub returns-clause-changed : goal.returns-clause-changed
returns-clause-changed g c = ok_map c.push.result _ _ (λ changed h.
    puts_changed g.K.Ord.cmp g.C.Collection.holds_nothing g.C.Collection.same g.C.Collection.pushes g.met.C.Collection.same_self
    c.args.self.now c.push.new.self _ _ changed h) c.push.ensures.puts
