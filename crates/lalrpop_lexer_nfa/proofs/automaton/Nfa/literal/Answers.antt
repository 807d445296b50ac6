use Rattle.std.proofs.Common.{◌≡◌, ℕ, ◌-◌, drop, get_or, length, arith, subst, drop_of_length-le}
use Rattle.std.proofs.lemmas.List.{get_or_default}
use Rattle.lalrpop_lexer_pattern.specs.Matches.{Matches, Pattern}
use Rattle.lalrpop_lexer_nfa.specs.Paths.{nfa_view}
use Rattle.lalrpop_lexer_nfa.specs.Fragments.{IsFragment}
use Rattle.lalrpop_lexer_nfa.proofs.GraphLemmas.{IsFragment-nothing, IsFragment-literal}
use Rattle.lalrpop_lexer_nfa.proofs.LanguageLemmas.{drop_less}
use Rattle.lalrpop_lexer_nfa.proofs.automaton.Nfa.literal.Goals as goal

pub loop-i-init : goal.loop-i-init
loop-i-init c = rw (drop_of_length-le c.args.characters.now {i = length c.args.characters.now} (omega arith)) (IsFragment-nothing _ _)

pub loop-i-preserved : goal.loop-i-preserved
loop-i-preserved c =
    let one = get_or c.args.characters.now (c.loop-i.i - 1) 0 in
    let less = drop_less c.args.characters.now c.loop-i.i one (omega arith) (omega (arith, c.loop-i.auto.i))
    (get_or_default c.args.characters.now (c.loop-i.i - 1) 0 one (omega (arith, c.loop-i.auto.i))) in
    rw less (IsFragment-literal _ (nfa_view c.loop-i.self) _ _ _ _ _ _ c.loop-i.invariant c.in_ok-next.ensures)

pub returns : goal.returns
returns c =
    let P : ℕ → Type 0 = λ i. IsFragment (nfa_view c.args.self.now) (nfa_view c.loop-i.self)
    (Matches (Pattern.literal (drop i c.args.characters.now))) c.loop-i.next c.args.accept in
    let none : c.loop-i.i ≡ 0 = omega arith in
    subst P none c.loop-i.invariant
