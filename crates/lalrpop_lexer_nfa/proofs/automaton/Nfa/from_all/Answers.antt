use Rattle.std.proofs.Common.{ℕ, ◌+◌, ◌≡◌, List, map, length, get_or, arith, ap, subst, ⊎_elim}
use Rattle.lalrpop_lexer_pattern.specs.Meaning.{meaning}
use Rattle.lalrpop_lexer_pattern.specs.Matches.{Matches, Pattern}
use Rattle.lalrpop_lexer_nfa.specs.declared.automaton.TheConstants.{REJECT, START}
use Rattle.lalrpop_lexer_nfa.specs.Growth.{HasNewEpsilonEdges}
use Rattle.lalrpop_lexer_nfa.specs.Paths.{nfa_view}
use Rattle.lalrpop_lexer_nfa.specs.Fragments.{AreFragments}
use Rattle.lalrpop_lexer_nfa.proofs.LanguageLemmas.{meaning_at}
use Rattle.lalrpop_lexer_nfa.proofs.GraphLemmas.{AreFragments-none, AreFragments-push}
use Rattle.lalrpop_lexer_nfa.proofs.KindLemmas.{AddsNeither-same, AddsNeither-trans, AreKinds-more}
use Rattle.lalrpop_lexer_nfa.proofs.WholeLemmas.{whole, reached, cut_off, no_leads_yet}
use Rattle.lalrpop_lexer_nfa.proofs.automaton.Nfa.from_all.Goals as goal

pub loop-i-init : goal.loop-i-init
loop-i-init c =
    AreFragments-none (nfa_view c.in_ok-nfa.nfa) (λ k. Matches (get_or (map meaning c.args.patterns.now) k Pattern.empty)) _ (λ k. 3 + k)
    (ap length c.new-firsts.ensures.items)

pub loop-i-preserved : goal.loop-i-preserved
loop-i-preserved c =
    let at = meaning_at c.args.patterns.now c.loop-i.i c.index-patterns-i.result c.loop-i-test.true c.index-patterns-i.is in
    rw c.in_ok-push.ensures.items
    (AreFragments-push _ (nfa_view c.loop-i.nfa) _ _ _ _ (λ k. 3 + k) _
    (omega (arith, c.in_ok-nfa.ensures.empty.size, c.loop-i.invariant.grows)) c.loop-i.invariant
    (rw at c.in_ok-expr.ensures))

pub expr-requires : goal.expr-requires
expr-requires c = omega (arith, c.in_ok-nfa.ensures.empty.size, c.loop-i.invariant.grows)

pub push_noops-requires-clause-none : goal.push_noops-requires-clause-none
push_noops-requires-clause-none c =
    no_leads_yet (nfa_view c.in_ok-nfa.nfa) (nfa_view c.loop-i.nfa) _ _ _ _ (λ k. 3 + k) c.in_ok-nfa.ensures.empty c.loop-i.invariant 2
    (omega arith)

pub push_noops-requires-clause-targets : goal.push_noops-requires-clause-targets
push_noops-requires-clause-targets c = rw c.deref.ensures.value c.loop-i.invariant.inside

pub returns : goal.returns
returns c =
    let n = length c.args.patterns.now in
    let old = nfa_view c.in_ok-nfa.nfa in
    let mid = nfa_view c.loop-i.nfa in
    let new = nfa_view c.push_noops.new.self in
    let L : ℕ → List ℕ → Type 0 = λ k. Matches (get_or (map meaning c.args.patterns.now) k Pattern.empty) in
    let first = c.loop-i.firsts.items in
    let bare = c.in_ok-nfa.ensures.empty in
    let all : c.loop-i.i ≡ n = omega arith in
    let P : ℕ → Type 0 = λ i. AreFragments old mid L i first (λ k. 3 + k) in
    let parts : P n = subst P all c.loop-i.invariant in
    let more : HasNewEpsilonEdges mid new START.0 first = rw c.deref.ensures.value at c.in_ok-push_noops.ensures in
    let adds = AddsNeither-trans c.loop-i.invariant.kinds (AddsNeither-same _ _ more.kinds) in
    let kinds = AreKinds-more _ _ adds n c.in_ok-nfa.ensures.kinds in
    record {
      accepts = whole old mid new L n (3 + n) 2 first (λ k. 3 + k) bare (omega arith) (λ k l. omega arith) (λ k l e. omega arith)
          (λ j k l m e. omega arith) parts more;
      kinds = kinds;
      accepting = λ q kind w path.
          let at = (kinds.accepts q).0 kind in
          reached old mid new L n (3 + n) 2 first (λ k. 3 + k) bare (omega arith) (λ k l. omega arith) (λ k l e. omega arith)
          (λ j k l m e. omega arith) parts more q w (⊎_elim (λ e. omega arith) (λ within. omega (arith, within.1)) at)
          (λ e. ⊎_elim (λ is. absurd (omega arith)) (λ within. absurd (omega (arith, within.0))) at) path;
      rejecting = cut_off old mid new L n (3 + n) 2 first (λ k. 3 + k) bare (omega arith) (λ k l. omega arith) (λ k l e. omega arith)
          (λ j k l m e. omega arith) parts more REJECT.0 (omega arith) (λ e. omega arith) (λ k l e. omega arith);
      count = omega (arith, bare.size, c.loop-i.invariant.grows, more.count);
    }
