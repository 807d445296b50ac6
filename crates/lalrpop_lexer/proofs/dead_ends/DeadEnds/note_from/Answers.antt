use Rattle.std.proofs.Common.{◌++◌, [], None, length, get_or, sym, ap, ◌∙◌, append_assoc}
use Rattle.std.specs.Prelude.{encode_utf8}
use Rattle.std.specs.Str.Iter.{chars_rest}
use Rattle.std.proofs.lemmas.Option.{slice_get-get_or}
use Rattle.std.proofs.lemmas.Str.{IsUtf8-past_char}
use Rattle.lalrpop_lexer.proofs.DeadEndLemmas.{noted_more}
use Rattle.lalrpop_lexer.proofs.WalkLemmas.{dead_step}
use Rattle.lalrpop_lexer.proofs.dead_ends.DeadEnds.note_from.Goals as goal

pub returns-in_default : goal.returns-in_default
returns-in_default c = λ whole front is all.
    let h = c.loop-left.invariant in
    noted_more c.args.dfa.now whole front c.args.text.now h.front.0 (chars_rest c.loop-left.left) c.loop-left.state _
    c.loop-left.self c.note.new.self c.note.result is h.front.1 (ap length c.as_str.ensures) h.end c.note.ensures
    (h.noted whole front is all)

pub returns-in_default-next_state : goal.returns-in_default-next_state
returns-in_default-next_state c = λ whole front is all.
    let h = c.loop-left.invariant in
    noted_more c.args.dfa.now whole front c.args.text.now h.front.0 (chars_rest c.loop-left.left) c.loop-left.state _
    c.loop-left.self c.note.new.self c.note.result is h.front.1 (ap length c.as_str.ensures) h.end c.note.ensures
    (h.noted whole front is all)

pub loop-left-preserved : goal.loop-left-preserved
loop-left-preserved c =
    let h = c.loop-left.invariant in
    let nodes = c.args.dfa.now in
    let left = chars_rest c.loop-left.left in
    let rest = chars_rest c.next.new.self in
    let next = c.in-Some-next_state.next in
    let inside = c.in-Some-next_state.ensures.inside in
    let at = slice_get-get_or nodes next (None, []) inside in
    let is = c.in-Some.ensures.steps.0 in
    record {
      inside = inside;
      end = dead_step nodes left rest c.in-Some.c c.loop-left.state next (get_or nodes c.loop-left.state (None, []))
          (get_or nodes next (None, [])) h.utf8 is (slice_get-get_or nodes c.loop-left.state (None, []) h.inside) at
          (sym c.in-Some-next_state.ensures.leads ∙ at) h.end;
      utf8 = IsUtf8-past_char left rest c.in-Some.c h.utf8 is;
      front = (
        h.front.0 ++ encode_utf8 c.in-Some.c,
        h.front.1 ∙ ap (λ t. h.front.0 ++ t) is ∙ sym (append_assoc h.front.0 (encode_utf8 c.in-Some.c) rest),
      );
      noted = λ whole front split all.
          noted_more nodes whole front c.args.text.now h.front.0 left c.loop-left.state _ c.loop-left.self c.note.new.self
          c.note.result split h.front.1 (ap length c.as_str.ensures) h.end c.note.ensures (h.noted whole front split all);
    }
