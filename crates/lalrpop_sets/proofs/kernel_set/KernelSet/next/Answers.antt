use Rattle.std.proofs.Common.{rules, ◌≡◌, ◌∷◌, drop}
use Rattle.lalrpop_sets.proofs.QueueLemmas.{get_dropped}
use Rattle.lalrpop_sets.proofs.kernel_set.KernelSet.next.Goals as goal

pub returns-clause-given : goal.returns-clause-given
returns-clause-given g c =
    let ks = c.self.inside.seen.keys in
    let e : drop c.self.inside.given ks ≡ c.in_ok-kernel.kernel ∷ c.pop_front.new.self.items = search rules in
    let h = get_dropped ks c.self.inside.given c.in_ok-kernel.kernel c.pop_front.new.self.items e in
    search (rules, h)
