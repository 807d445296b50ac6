use Rattle.std.proofs.Common.{ℕ, List, ◌+◌, ◌≡◌, map, drop, get_or, length, ap, ◌∙◌, sym, subst, arith, drop_of_length-le}
use Rattle.std.proofs.Common.{Some, Result, IfOk}
use Rattle.std.specs.Prelude.{option_map, string_bytes}
use Rattle.std.proofs.lemmas.Result.{IfOk-weaker}
use Rattle.std.proofs.lemmas.List.{length-map}
use Rattle.lalrpop_lexer_pattern.specs.Matches.{Matches, Power, Pattern, concat_all, alternation_all}
use Rattle.lalrpop_lexer_pattern.specs.Meaning.{meaning}
use Rattle.lalrpop_lexer_pattern.proofs.MeaningLemmas.{meaning-Empty, meaning-Literal, meaning-Class, meaning-Look, meaning-Capture}
use Rattle.lalrpop_lexer_pattern.proofs.MeaningLemmas.{meaning-Repetition, meaning-Concat}
use Rattle.lalrpop_lexer_pattern.proofs.MeaningLemmas.{meaning-Alternation}
use Rattle.lalrpop_lexer_nfa.specs.Paths.{Graph, nfa_view}
use Rattle.lalrpop_lexer_nfa.specs.Fragments.{IsFragment, AreFragments, UpTo, AtLeast}
use Rattle.lalrpop_lexer_nfa.proofs.GraphLemmas.{IsFragment-nothing, IsFragment-along, IsFragment-then, IsFragment-star}
use Rattle.lalrpop_lexer_nfa.proofs.GraphLemmas.{IsFragment-plus, IsFragment-up_to, IsFragment-least, IsFragment-branch}
use Rattle.lalrpop_lexer_nfa.proofs.GraphLemmas.{IsFragment-at_least}
use Rattle.lalrpop_lexer_nfa.proofs.GraphLemmas.{IsFragment-between, IsFragment-no_repeat, AreFragments-push, IsNewState-no_leads}
use Rattle.lalrpop_lexer_nfa.proofs.NfaLemmas.{inside_of}
use Rattle.lalrpop_lexer_nfa.proofs.LanguageLemmas.{pieces_to, pieces_from, up_to_none, drop_less, meaning_at}
use Rattle.lalrpop_lexer_pattern.specs.declared.tree.Hir.{size-Hir}
use Rattle.lalrpop_lexer_nfa.proofs.RepeatLemmas.{empty_repeated, size-repeated}
use Rattle.lalrpop_lexer_nfa.proofs.automaton.Nfa.+build.Goals as goal

pub copies-loop-done-init : goal.copies-loop-done-init
copies-loop-done-init t c = IsFragment-nothing _ _

pub copies-loop-done-preserved : goal.copies-loop-done-preserved
copies-loop-done-preserved t c =
    IsFragment-along (Power _ (c.loop-done.done + 1)) (pieces_to _ _) (pieces_from _ _)
    (IsFragment-then c.loop-done.invariant c.in_ok-next.ensures)

pub copies-returns : goal.copies-returns
copies-returns t c =
    let e : c.loop-done.done ≡ c.args.count = omega arith in
    let P : ℕ → Type 0 = λ k. IsFragment (nfa_view c.args.self.now) (nfa_view c.loop-done.self)
    (Power (Matches (meaning c.args.sub.now)) k) c.loop-done.next c.args.accept in
    subst P e c.loop-done.invariant

pub up_to-loop-done-init : goal.up_to-loop-done-init
up_to-loop-done-init t c =
    IsFragment-along (UpTo _ 0) (λ w h. (0, omega arith, h)) (λ w h. up_to_none (Matches (meaning c.args.sub.now)) w h)
    (IsFragment-nothing _ _)

pub up_to-loop-done-preserved : goal.up_to-loop-done-preserved
up_to-loop-done-preserved t c =
    IsFragment-up_to (nfa_view c.args.self.now) (nfa_view c.loop-done.self) (nfa_view c.expr.new.self) (nfa_view c.new_branch.new.self)
    (Matches (meaning c.args.sub.now)) c.loop-done.done c.loop-done.next c.in_ok-once.once c.in_ok-next.next c.args.accept
    c.loop-done.invariant c.in_ok-once.ensures c.in_ok-next.ensures

pub plus-push_noops-requires-clause-none : goal.plus-push_noops-requires-clause-none
plus-push_noops-requires-clause-none t c =
    let old = c.args.self.now in
    let state = c.in_ok-state.ensures.state in
    λ r h. IsNewState-no_leads (nfa_view old) (nfa_view c.new_state.new.self) c.in_ok-state.state (inside_of old) state r
    (c.in_ok-first.ensures.keeps.leads_back c.in_ok-state.state r (omega arith) (omega (arith, state.grows)) h)

pub plus-returns : goal.plus-returns
plus-returns t c =
    IsFragment-plus (nfa_view c.args.self.now) (nfa_view c.new_state.new.self) (nfa_view c.expr.new.self) (nfa_view c.push_noops.new.self)
    (Matches (meaning c.args.sub.now))
    c.in_ok-state.state c.in_ok-first.first c.args.accept (inside_of c.args.self.now) c.in_ok-state.ensures.state c.in_ok-first.ensures
    c.in_ok-push_noops.ensures

pub at_least-returns : goal.at_least-returns
at_least-returns t c =
    IsFragment-least (nfa_view c.args.self.now) (nfa_view c.plus.new.self) (nfa_view c.copies.new.self) (Matches (meaning c.args.sub.now))
    c.args.count c.in_ok-state.state c.in_ok-last.last c.args.accept (omega arith) c.in_ok-last.ensures c.in_ok-state.ensures

pub star-push_noops-requires-clause-none : goal.star-push_noops-requires-clause-none
star-push_noops-requires-clause-none t c =
    let old = c.args.self.now in
    let state = c.in_ok-state.ensures.state in
    λ r h. IsNewState-no_leads (nfa_view old) (nfa_view c.new_state.new.self) c.in_ok-state.state (inside_of old) state r
    (c.in_ok-round.ensures.keeps.leads_back c.in_ok-state.state r (omega arith) (omega (arith, state.grows)) h)

pub star-returns : goal.star-returns
star-returns t c =
    IsFragment-star (nfa_view c.args.self.now) (nfa_view c.new_state.new.self) (nfa_view c.expr.new.self) (nfa_view c.push_noops.new.self)
    (Matches (meaning c.args.sub.now))
    c.in_ok-state.state c.in_ok-round.round c.args.accept (inside_of c.args.self.now) c.in_ok-state.ensures.state c.in_ok-round.ensures
    c.in_ok-push_noops.ensures

pub repetition-returns-then-is_empty_word : goal.repetition-returns-then-is_empty_word
repetition-returns-then-is_empty_word t c =
    let r = c.args.repeats in
    let alone = empty_repeated (meaning c.args.sub.now) r.min r.max r.greedy r.ordered (c.is_empty_word.ensures c.if-is_empty_word.true) in
    IsFragment-along (Matches (Pattern.repetition r.min r.max r.greedy (meaning c.args.sub.now))) (λ w e. (alone w).1 e)
    (λ w m. (alone w).0 m) (IsFragment-nothing _ _)

pub repetition-returns : goal.repetition-returns
repetition-returns t c =
    let r = c.args.repeats in
    let L : List ℕ → Type 0 = Matches (Pattern.repetition r.min r.max r.greedy (meaning c.args.sub.now)) in
    IfOk-weaker c.times.result
    (λ s. IsFragment (nfa_view c.make_room.new.self) (nfa_view c.times.new.self) L s c.args.accept) _
    (λ s h.
    let P : Graph → Type 0 = λ g. IsFragment g (nfa_view c.times.new.self) L s c.args.accept in
    subst P c.make_room.ensures.same h) c.times.ensures

pub times-returns-in-Some-eq0 : goal.times-returns-in-Some-eq0
times-returns-in-Some-eq0 t c =
    let zero : c.in-Some-eq0.field-0 ≡ 0 = cc in
    IsFragment-no_repeat (meaning c.args.sub.now) c.args.repeats.min c.args.repeats.greedy _ c.args.repeats.max c.args.accept
    (c.in-Some-eq0.is ∙ ap Some zero) c.args.repeats.ordered

pub times-returns-in_ok-state-in-Some : goal.times-returns-in_ok-state-in-Some
times-returns-in_ok-state-in-Some t c =
    IsFragment-between (meaning c.args.sub.now) c.args.repeats.min c.args.repeats.greedy _ (nfa_view c.up_to.new.self) _
    c.args.repeats.max c.in-Some.max _ c.in_ok-rest-in-Some.rest _ c.in-Some.is c.args.repeats.ordered
    c.in_ok-rest-in-Some.ensures c.in_ok-state-in-Some.ensures

pub times-returns-in-None : goal.times-returns-in-None
times-returns-in-None t c =
    IfOk-weaker c.at_least.result
    (λ s. IsFragment (nfa_view c.args.self.now) (nfa_view c.at_least.new.self)
    (AtLeast (Matches (meaning c.args.sub.now)) c.args.repeats.min) s c.args.accept) _
    (λ s. IsFragment-at_least (meaning c.args.sub.now) c.args.repeats.min c.args.repeats.greedy (nfa_view c.args.self.now)
    (nfa_view c.at_least.new.self) c.args.repeats.max s c.args.accept c.in-None.is) c.at_least.ensures

-- what was built for a pattern is built for the same pattern
told : {E : Type 0} (r : Result ℕ E) (old new : Graph) (a : ℕ) (p q : Pattern) → q ≡ p
    → IfOk r (λ s. IsFragment old new (Matches p) s a) → IfOk r (λ s. IsFragment old new (Matches q) s a)
told r old new a p q e h = let P : Pattern → Type 0 = λ x. IfOk r (λ s. IsFragment old new (Matches x) s a) in subst P (sym e) h

pub expr-returns-in-Literal : goal.expr-returns-in-Literal
expr-returns-in-Literal t c =
    told _ _ _ _ (Pattern.literal c.deref.result.now) _
    (ap meaning c.in-Literal.is ∙ meaning-Literal _ ∙ ap Pattern.literal (sym c.deref.ensures.value)) c.literal.ensures

pub expr-returns-in-Class : goal.expr-returns-in-Class
expr-returns-in-Class t c =
    told _ _ _ _ (Pattern.class c.deref-in-Class.result.now) _
    (ap meaning c.in-Class.is ∙ meaning-Class _ ∙ ap Pattern.class (sym c.deref-in-Class.ensures.value)) c.class.ensures

pub expr-returns-in-Look : goal.expr-returns-in-Look
expr-returns-in-Look t c =
    told _ _ _ _ (Pattern.look c.in-Look.field-0) _ (ap meaning c.in-Look.is ∙ meaning-Look _) c.dead.ensures

pub expr-returns-in-Capture : goal.expr-returns-in-Capture
expr-returns-in-Capture t c =
    told _ _ _ _ (Pattern.capture (option_map string_bytes c.in-Capture.name) (meaning c.deref-in-Capture.result.now)) _
    (ap meaning c.in-Capture.is ∙ meaning-Capture _ _
    ∙ ap (λ h. Pattern.capture (option_map string_bytes c.in-Capture.name) (meaning h)) (sym c.deref-in-Capture.ensures)) c.expr.ensures

pub expr-repetition-requires : goal.expr-repetition-requires
expr-repetition-requires t c = (
  omega (
    arith,
    c.decreases,
    c.merged.ensures.inside,
    ap size-Hir c.deref-in-Repetition.ensures,
    size-repeated c.in-Repetition.repeats c.in-Repetition.sub,
    ap size-Hir c.in-Repetition.is,
  ),
  c.requires,
)

pub expr-returns-in-Repetition : goal.expr-returns-in-Repetition
expr-returns-in-Repetition t c =
    let r = c.in-Repetition.repeats in
    let sub = c.deref-in-Repetition.result.now in
    let whole = c.merged.result.0 in
    let piece = c.merged.result.1.now in
    told _ _ _ _ (Pattern.repetition r.min r.max r.greedy (meaning sub)) _
    (ap meaning c.in-Repetition.is ∙ meaning-Repetition _ _
    ∙ ap (λ h. Pattern.repetition r.min r.max r.greedy (meaning h)) (sym c.deref-in-Repetition.ensures))
    (IfOk-weaker c.repetition.result
    (λ s. IsFragment (nfa_view c.args.self.now) (nfa_view c.repetition.new.self)
    (Matches (Pattern.repetition whole.min whole.max whole.greedy (meaning piece))) s c.args.accept)
    (λ s. IsFragment (nfa_view c.args.self.now) (nfa_view c.repetition.new.self)
    (Matches (Pattern.repetition r.min r.max r.greedy (meaning sub))) s c.args.accept)
    (λ s h. IsFragment-along (Matches (Pattern.repetition r.min r.max r.greedy (meaning sub)))
    (λ w m. (c.merged.ensures.same w).0 m) (λ w m. (c.merged.ensures.same w).1 m) h) c.repetition.ensures)

pub expr-returns-in-Concat : goal.expr-returns-in-Concat
expr-returns-in-Concat t c =
    told _ _ _ _ (concat_all (map meaning c.deref-in-Concat.result.now)) _
    (ap meaning c.in-Concat.is ∙ meaning-Concat _ ∙ ap (λ hs. concat_all (map meaning hs)) (sym c.deref-in-Concat.ensures.value))
    c.concat.ensures

pub expr-returns-in-Alternation : goal.expr-returns-in-Alternation
expr-returns-in-Alternation t c =
    told _ _ _ _ (alternation_all (map meaning c.deref-in-Alternation.result.now)) _
    (ap meaning c.in-Alternation.is ∙ meaning-Alternation _
    ∙ ap (λ hs. alternation_all (map meaning hs)) (sym c.deref-in-Alternation.ensures.value)) c.alternation.ensures

pub concat-returns : goal.concat-returns
concat-returns t c =
    let P : ℕ → Type 0 = λ i. IsFragment (nfa_view c.args.self.now) (nfa_view c.loop-i.self)
    (Matches (concat_all (map meaning (drop i c.args.subs.now)))) c.loop-i.next c.args.accept in
    let none : c.loop-i.i ≡ 0 = omega arith in
    subst P none c.loop-i.invariant

pub up_to-returns : goal.up_to-returns
up_to-returns t c =
    let all : c.loop-done.done ≡ c.args.count = omega arith in
    let P : ℕ → Type 0 = λ k. IsFragment (nfa_view c.args.self.now) (nfa_view c.loop-done.self)
    (UpTo (Matches (meaning c.args.sub.now)) k) c.loop-done.next c.args.accept in
    subst P all c.loop-done.invariant

pub expr-returns-in-Empty : goal.expr-returns-in-Empty
expr-returns-in-Empty t c = rw (c.in-Empty.is, meaning-Empty) (IsFragment-nothing _ _)

pub concat-loop-i-init : goal.concat-loop-i-init
concat-loop-i-init t c = rw (drop_of_length-le c.args.subs.now {i = length c.args.subs.now} (omega arith)) (IsFragment-nothing _ _)

pub concat-loop-i-preserved : goal.concat-loop-i-preserved
concat-loop-i-preserved t c =
    rw (drop_less c.args.subs.now c.loop-i.i c.index-subs-i.result (omega arith) (omega (arith, c.loop-i.auto.i)) c.index-subs-i.is)
    (IsFragment-then c.loop-i.invariant c.in_ok-next.ensures)

pub alternation-loop-i-preserved : goal.alternation-loop-i-preserved
alternation-loop-i-preserved t c =
    let at = meaning_at c.args.subs.now c.loop-i.i c.index-subs-i.result c.loop-i-test.true c.index-subs-i.is in
    rw c.in_ok-push.ensures.items
    (AreFragments-push _ (nfa_view c.loop-i.self) _ _ _ _ (λ k. c.args.accept) _ (omega (arith, c.requires, c.loop-i.invariant.grows))
    c.loop-i.invariant (rw at c.in_ok-expr.ensures))

pub alternation-returns : goal.alternation-returns
alternation-returns t c =
    let all : c.loop-i.i ≡ length (map meaning c.args.subs.now) = omega (arith, length-map c.args.subs.now meaning) in
    IsFragment-branch _ (nfa_view c.loop-i.self) _ (map meaning c.args.subs.now) _ _ c.loop-i.targets.items
    (let P : ℕ → Type 0 = λ n. AreFragments (nfa_view c.args.self.now) (nfa_view c.loop-i.self)
    (λ k. Matches (get_or (map meaning c.args.subs.now) k Pattern.empty)) n c.loop-i.targets.items (λ k. c.args.accept) in
    subst P all c.loop-i.invariant)
    (rw (← c.deref.ensures.value) c.in_ok-state.ensures)
