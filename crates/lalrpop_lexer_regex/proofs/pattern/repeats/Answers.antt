use Rattle.std.proofs.Common.{◌≡◌, true, sym, ◌∙◌}
use Rattle.std.proofs.lemmas.Result.{err_from_is_err_and}
use Rattle.lalrpop_lexer_pattern.specs.Meaning.{meaning}
use Rattle.lalrpop_lexer_regex.specs.Repeats.{begins_repeat}
use Rattle.lalrpop_lexer_regex.proofs.PatternLemmas.{repeats_more, repeats_fail, repeats_end, repeats_none}
use Rattle.lalrpop_lexer_regex.proofs.pattern.repeats.Goals as goal
use Rattle.lalrpop_lexer_regex.proofs.pattern.repeats.Goals.{in-Some+then-not-begins_repeat, in_default}

pub returns-in_err-repeats-clause-gives : goal.returns-in_err-repeats-clause-gives
returns-in_err-repeats-clause-gives c =
    let p = err_from_is_err_and c.from_residual.result c.from_residual.ensures.1 in
    let go : begins_repeat c.in-Some.character ≡ true = sym c.begins_repeat.ensures ∙ c.if-not-begins_repeat.false in
    rw (p.1, p.2)
    (repeats_fail (meaning c.args.atom) (meaning c.loop-character.tree) c.args.text.now c.loop-character.rest.now c.in-Some.field-0-1.now
    c.in-Some.character c.in-Some.ensures
    c.loop-character.invariant c.in_err-repeats.field-0.0 go c.in_err-repeats.ensures.gives)

pub loop-character-preserved : goal.loop-character-preserved
loop-character-preserved c =
    let r = c.in_ok-repeats.repeats in
    let go : begins_repeat c.in-Some.character ≡ true = sym c.begins_repeat.ensures ∙ c.if-not-begins_repeat.false in
    rw c.in_ok-tree.ensures
    (repeats_more (meaning c.args.atom) (meaning c.loop-character.tree) c.args.text.now c.loop-character.rest.now c.in-Some.field-0-1.now
    c.in-Some.character c.in-Some.ensures
    c.loop-character.invariant (r.min, (r.max, r.greedy)) c.in_ok-repeats.following.now go c.in_ok-repeats.ensures.gives
    c.in_ok-repeats.ensures.shorter)

pub returns-clause-gives : goal.returns-clause-gives
returns-clause-gives c =
    elim c.match-first.branch [
      | in-Some+then-not-begins_repeat w ↦
          repeats_end (meaning c.args.atom) (meaning c.loop-character.tree) c.args.text.now c.loop-character.rest.now _ w.in-Some.character
          w.in-Some.ensures c.loop-character.invariant
          (sym w.begins_repeat.ensures ∙ w.if-not-begins_repeat.true)
      | in_default w ↦ repeats_none (meaning c.args.atom) (meaning c.loop-character.tree) c.args.text.now c.loop-character.rest.now
          c.loop-character.invariant w.in_default.ensures
    ]
