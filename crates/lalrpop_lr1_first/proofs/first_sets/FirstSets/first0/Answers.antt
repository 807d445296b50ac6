use Rattle.std.proofs.Common.{◌≡◌, ◌∙◌, ap, rules}
use Rattle.lalrpop_sets.specs.Tokens.{eof_number}
use Rattle.lalrpop_lr1_first.specs.FirstSetsOf.{set_of_symbol}
use Rattle.lalrpop_lr1_first.specs.Numbers.{says_by}
use Rattle.lalrpop_lr1_first.proofs.NamedFirstLemmas.{said_is_first}
use Rattle.lalrpop_lr1_first.proofs.first_sets.FirstSets.first0.Goals as goal

pub returns-clause-first : goal.returns-clause-first
returns-clause-first c = λ g are same. said_is_first g c.args.self.now are c.args.symbols.now c.in_ok-first.first
    (λ k. c.in_ok-first.ensures.said k
    ∙ ap (λ es. says_by (set_of_symbol c.args.terminals.now es) (eof_number c.args.terminals.now) c.args.symbols.now k)
    (let v : c.self.inside.sets ≡ c.args.self.now = search rules in v)
    ∙ ap (λ ts. says_by (set_of_symbol ts c.args.self.now) (eof_number ts) c.args.symbols.now k) same)
