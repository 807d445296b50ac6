use Rattle.std.proofs.Common.{◌++◌, ◌∷◌, [], length, sym, ◌∙◌, true≢false}
use Rattle.std.proofs.lemmas.List.{length_push}
use Rattle.lalrpop_lexer_nfa.specs.declared.automaton.TheConstants.{START}
use Rattle.lalrpop_lexer_nfa.specs.Paths.{nfa_view}
use Rattle.lalrpop_lexer_nfa.proofs.ArrivalLemmas.{set_start, set_step}
use Rattle.lalrpop_lexer_nfa.proofs.TextLemmas.{read_start, read_char}
use Rattle.lalrpop_lexer_nfa.proofs.InterpretLemmas.{found_here, found_kept, found_nothing, found_end, accepts_from_set, inserts_one}
use Rattle.lalrpop_lexer_nfa.proofs.interpreter.interpret.Goals as goal
use Rattle.lalrpop_lexer_nfa.proofs.interpreter.interpret.Goals.{then-contains, else-contains}

pub loop-next-init : goal.loop-next-init
loop-next-init c =
    let nfa = c.args.nfa.now in
    let text = c.args.text.now in
    let one = inserts_one _ _ START.0 c.in_ok-current.ensures.members c.in_ok-insert.ensures.members in
    let set = set_start (nfa_view nfa) START.0 c.close.new.set.members.items (rw one at c.in_ok-close.ensures.closed) in
    let read = read_start text c.utf8.text in (
      [],
      record {
        read = rw c.chars-left.ensures.rest read;
        set = set;
        inside = c.in_ok-close.ensures.inside;
        bound = c.close.ensures.bound ∙ c.insert.ensures.bound ∙ c.in_ok-current.ensures.bound ∙ c.len.ensures;
        next_bound = c.in_ok-next.ensures.bound ∙ c.len-2.ensures;
        longest = elim c.if-contains.branch [
          | then-contains w ↦
              rw w.found-is (found_here nfa text text [] _ read w.before-then-contains.ensures
              ((accepts_from_set nfa [] _ set).0 (c.contains.ensures.0 w.if-contains.true)))
          | else-contains w ↦
              rw w.found-is (found_nothing nfa text
              (λ h. true≢false (sym (c.contains.ensures.1 ((accepts_from_set nfa [] _ set).1 h)) ∙ w.if-contains.false)))
        ];
      },
    )

pub loop-next-preserved : goal.loop-next-preserved
loop-next-preserved c =
    let nfa = c.args.nfa.now in
    let text = c.args.text.now in
    let word = c.loop-next.invariant.0 in
    let before = c.loop-next.invariant.1 in
    let read = read_char text _ _ word c.in-Some.c c.in-Some.ensures.steps.0 before.read in
    let set = set_step (nfa_view nfa) START.0 _ c.step.new.next.members.items word c.in-Some.c before.set c.in_ok-step.ensures.step in
    rw (c.swap.ensures.x_after, c.swap.ensures.y_after) (
      word ++ c.in-Some.c ∷ [],
      record {
        read = read;
        set = set;
        inside = c.in_ok-step.ensures.inside;
        bound = c.step.ensures.bound ∙ before.next_bound;
        next_bound = before.bound;
        longest = found_kept nfa text _ _ (length word) c.loop-next.found read (length_push word c.in-Some.c)
            (λ h. true≢false (sym (c.contains-in-Some.ensures.1 (rw c.swap.ensures.x_after ((accepts_from_set nfa _ _ set).1 h)))
            ∙ c.if-contains-2.false)) before.longest;
      },
    )

pub before-requires-then-contains-2 : goal.before-requires-then-contains-2
before-requires-then-contains-2 c =
    let read = read_char c.args.text.now _ _ c.loop-next.invariant.0 c.in-Some.c c.in-Some.ensures.steps.0 c.loop-next.invariant.1.read in
    rw c.as_str.ensures (read.front, read.is)

pub loop-next-preserved-then-contains-2 : goal.loop-next-preserved-then-contains-2
loop-next-preserved-then-contains-2 c =
    let nfa = c.args.nfa.now in
    let text = c.args.text.now in
    let word = c.loop-next.invariant.0 in
    let before = c.loop-next.invariant.1 in
    let read = read_char text _ _ word c.in-Some.c c.in-Some.ensures.steps.0 before.read in
    let set = set_step (nfa_view nfa) START.0 _ c.step.new.next.members.items word c.in-Some.c before.set c.in_ok-step.ensures.step in
    rw (c.swap.ensures.x_after, c.swap.ensures.y_after) (
      word ++ c.in-Some.c ∷ [],
      record {
        read = read;
        set = set;
        inside = c.in_ok-step.ensures.inside;
        bound = c.step.ensures.bound ∙ before.next_bound;
        next_bound = before.bound;
        longest = found_here nfa text _ _ _ read (rw c.as_str.ensures at c.before-then-contains-2.ensures)
            ((accepts_from_set nfa _ _ set).0 (rw c.swap.ensures.x_after at (c.contains-in-Some.ensures.0 c.if-contains-2.true)));
      },
    )

pub returns : goal.returns
returns c = found_end c.args.nfa.now c.args.text.now _ c.loop-next.invariant.0 c.loop-next.found c.loop-next.invariant.1.read
    c.in_default.ensures.steps.0.0 c.loop-next.invariant.1.longest
