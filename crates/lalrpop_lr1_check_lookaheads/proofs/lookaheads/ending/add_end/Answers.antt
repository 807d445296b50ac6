use Rattle.std.proofs.Common.{◌≡◌, ◌∙◌, ◌↔◌, ap, false, map, subst, sym, Some, true}
use Rattle.lalrpop_grammar_symbols.specs.declared.names.NonterminalString.{NonterminalString}
use Rattle.lalrpop_lr1_theory.specs.PropagatedNexts.{LeadAlong}
use Rattle.lalrpop_lr1_theory.specs.States.{HasEdge}
use Rattle.lalrpop_lr1_core.specs.Views.{lr_state_view, production_symbol_view}
use Rattle.lalrpop_lr1_check_lookaheads.specs.Ends.{BringsToEnd, end_key_at, end_table}
use Rattle.lalrpop_lr1_check_lookaheads.specs.KeyedSets.{IsMarkIn}
use Rattle.lalrpop_lr1_check_lookaheads.specs.LookaheadSlots.{slot_key}
use Rattle.lalrpop_lr1_check_lookaheads.proofs.EndKeyLemmas.{ends_nowhere, ends_there, gains_none}
use Rattle.lalrpop_lr1_check_lookaheads.proofs.KeyedSetLemmas.{gains_as}
use Rattle.lalrpop_lr1_check_lookaheads.proofs.NamedLemmas.{named_same}
use Rattle.lalrpop_lr1_check_lookaheads.proofs.lookaheads.ending.add_end.Goals as goal

pub returns-then-not-is_of : goal.returns-then-not-is_of
returns-then-not-is_of c = λ look.
    gains_none c.args.ends.now (BringsToEnd look c.args.states.now (slot_key c.args.slot) c.args.tokens.now c.args.production.now)
    c.requires
    (λ end mark b.
    let z : true ≡ false =
    sym (c.is_of.ensures.1 (named_same c.args.production.now.nonterminal c.args.slot.name.now b.name)) ∙ c.if-not-is_of.true in
    let w : ⊥ = cc in w)

pub returns-in-None : goal.returns-in-None
returns-in-None c = λ look.
    gains_none c.args.ends.now (BringsToEnd look c.args.states.now (slot_key c.args.slot) c.args.tokens.now c.args.production.now)
    c.requires
    (ends_nowhere look c.args.states.now (slot_key c.args.slot) c.args.tokens.now c.args.production.now c.walk.result
    (λ m. subst (λ l. (c.walk.result ≡ Some m) ↔ LeadAlong (HasEdge (map (lr_state_view look) c.args.states.now))
    (map production_symbol_view l) c.args.slot.state m) c.as_slice.ensures (c.walk.ensures look m)) c.in-None.is)

pub returns-in_ok-add-in-Some : goal.returns-in_ok-add-in-Some
returns-in_ok-add-in-Some c = λ look.
    gains_as (end_table c.args.ends.now) (end_table c.add.new.self)
    (λ key mark. (key ≡ end_key_at c.in-Some.state c.args.production.now) × IsMarkIn c.args.tokens.now mark)
    (BringsToEnd look c.args.states.now (slot_key c.args.slot) c.args.tokens.now c.args.production.now)
    (ends_there look c.args.states.now (slot_key c.args.slot) c.args.tokens.now c.args.production.now c.walk.result
    (λ m. subst (λ l. (c.walk.result ≡ Some m) ↔ LeadAlong (HasEdge (map (lr_state_view look) c.args.states.now))
    (map production_symbol_view l) c.args.slot.state m) c.as_slice.ensures (c.walk.ensures look m)) c.in-Some.state c.in-Some.is
    (ap (λ (n : NonterminalString). n.0) (c.is_of.ensures.0 c.if-not-is_of.false)))
    c.in_ok-add-in-Some.ensures
