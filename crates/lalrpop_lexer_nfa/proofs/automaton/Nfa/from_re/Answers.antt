use Rattle.std.proofs.Common.{◌≡◌, [], ◌∷◌, refl, arith, ⊎_elim}
use Rattle.lalrpop_lexer_pattern.specs.Meaning.{meaning}
use Rattle.lalrpop_lexer_pattern.specs.Matches.{Matches}
use Rattle.lalrpop_lexer_nfa.specs.declared.automaton.TheConstants.{REJECT, START}
use Rattle.lalrpop_lexer_nfa.specs.Paths.{nfa_view}
use Rattle.lalrpop_lexer_nfa.specs.Fragments.{AreFragments}
use Rattle.lalrpop_lexer_nfa.proofs.GraphLemmas.{AreFragments-none, AreFragments-push}
use Rattle.lalrpop_lexer_nfa.proofs.KindLemmas.{AddsNeither-same, AddsNeither-trans, AreKinds-more}
use Rattle.lalrpop_lexer_nfa.proofs.WholeLemmas.{whole, reached, cut_off, no_leads_yet}
use Rattle.lalrpop_lexer_nfa.proofs.automaton.Nfa.from_re.Goals as goal
use Rattle.lalrpop_lexer_nfa.proofs.automaton.Nfa.from_re.Goals.{In_ok-first}

-- the one part
parts : (c : In_ok-first)
    → AreFragments (nfa_view c.in_ok-nfa.nfa) (nfa_view c.expr.new.self) (λ k. Matches (meaning c.args.pattern.now)) 1
    (c.in_ok-first.first ∷ []) (λ k. 0)
parts c =
    AreFragments-push _ (nfa_view c.in_ok-nfa.nfa) _ _ 0 c.in_ok-first.first (λ k. 0) [] (omega (arith, c.in_ok-nfa.ensures.empty.size))
    (AreFragments-none _ (λ k. Matches (meaning c.args.pattern.now)) [] (λ k. 0) refl) c.in_ok-first.ensures

pub push_noops-requires-clause-none : goal.push_noops-requires-clause-none
push_noops-requires-clause-none c =
    no_leads_yet (nfa_view c.in_ok-nfa.nfa) (nfa_view c.expr.new.self) _ 1 3 (c.in_ok-first.first ∷ []) (λ k. 0)
    c.in_ok-nfa.ensures.empty (parts (goal.at.push_noops-requires-clause-none c).In_ok-first) 2 (omega arith)

pub returns-clause-accepts : goal.returns-clause-accepts
returns-clause-accepts c =
    let p = parts (goal.at.returns-clause-accepts c).In_ok-first in
    whole (nfa_view c.in_ok-nfa.nfa) (nfa_view c.expr.new.self) (nfa_view c.push_noops.new.self)
    (λ k. Matches (meaning c.args.pattern.now)) 1 3 START.0 (c.in_ok-first.first ∷ []) (λ k. 0)
    c.in_ok-nfa.ensures.empty (omega arith) (λ k l. omega arith) (λ k l e. omega arith) (λ j k l m e. omega arith) p
    c.in_ok-push_noops.ensures 0 (omega arith)

pub returns-clause-kinds : goal.returns-clause-kinds
returns-clause-kinds c =
    AreKinds-more _ _ (AddsNeither-trans c.in_ok-first.ensures.kinds (AddsNeither-same _ _ c.in_ok-push_noops.ensures.kinds)) 0
    c.in_ok-nfa.ensures.kinds

pub returns-clause-accepting : goal.returns-clause-accepting
returns-clause-accepting c q kind w path =
    let p = parts (goal.at.returns-clause-accepting c).In_ok-first in
    let kinds = AreKinds-more _ _ (AddsNeither-trans c.in_ok-first.ensures.kinds (AddsNeither-same _ _ c.in_ok-push_noops.ensures.kinds)) 0
    c.in_ok-nfa.ensures.kinds in
    let is : q ≡ 0 = ⊎_elim (λ e. e) (λ within. absurd (omega (arith, within.0, within.1))) ((kinds.accepts q).0 kind) in
    (reached (nfa_view c.in_ok-nfa.nfa) (nfa_view c.expr.new.self) (nfa_view c.push_noops.new.self)
    (λ k. Matches (meaning c.args.pattern.now)) 1 3 START.0 (c.in_ok-first.first ∷ []) (λ k. 0)
    c.in_ok-nfa.ensures.empty (omega arith) (λ k l. omega arith) (λ k l e. omega arith) (λ j k l m e. omega arith) p
    c.in_ok-push_noops.ensures q w (omega arith) (λ e. omega arith) path).3

pub returns-clause-rejecting : goal.returns-clause-rejecting
returns-clause-rejecting c =
    let p = parts (goal.at.returns-clause-rejecting c).In_ok-first in
    cut_off (nfa_view c.in_ok-nfa.nfa) (nfa_view c.expr.new.self) (nfa_view c.push_noops.new.self)
    (λ k. Matches (meaning c.args.pattern.now)) 1 3 START.0 (c.in_ok-first.first ∷ []) (λ k. 0)
    c.in_ok-nfa.ensures.empty (omega arith) (λ k l. omega arith) (λ k l e. omega arith) (λ j k l m e. omega arith) p
    c.in_ok-push_noops.ensures REJECT.0 (omega arith) (λ e. omega arith) (λ k l e. omega arith)
