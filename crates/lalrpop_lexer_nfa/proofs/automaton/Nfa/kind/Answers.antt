use Rattle.std.proofs.lemmas.Option.{slice_get_read}
use Rattle.lalrpop_lexer_nfa.specs.Kinds.{kinds_of}
use Rattle.lalrpop_lexer_nfa.proofs.KindLemmas.{kind_at, place_of}
use Rattle.lalrpop_lexer_nfa.proofs.automaton.Nfa.kind.Goals as goal

pub returns : goal.returns
returns c =
    let states = c.args.self.now.states in
    let at = kind_at states.items c.args.from.0 c.index.result.now
    (slice_get_read states.items _ c.args.from.0 c.index.result.now states.ok.0 c.requires c.index.ensures) in
    record { kind = at; place = place_of (kinds_of states.items) c.args.from.0 c.index.result.now.kind c.args.self.now.kinds at }
