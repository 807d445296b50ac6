use Rattle.std.proofs.Common.{◌∙◌, ◌++◌, ◌∷◌, [], ap, append_assoc, append-nil, not, refl, rules, subst, sym}
use Rattle.std.specs.Fmt.{HasWritten}
use Rattle.std.proofs.lemmas.Grind.{put_two}
use Rattle.lalrpop_sets.specs.TokenTexts.{number_behind, number_list_text}
use Rattle.lalrpop_sets.proofs.NumberTextLemmas.{nonempty_more, text_more}
use Rattle.lalrpop_sets.proofs.number_texts.write_numbers.Goals as goal

pub loop-number-init : goal.loop-number-init
loop-number-init g c = ([], refl, refl, search rules)

pub loop-number-preserved : goal.loop-number-preserved
loop-number-preserved g c =
    let ns = c.loop-number.invariant.0 in
    let k = c.in-Some.number in
    let took = g.W.Write.write_str_gives in (
      ns ++ k ∷ [],
      append_assoc ns (k ∷ []) _ ∙ ap (λ l. ns ++ l) (sym c.in-Some.ensures) ∙ c.loop-number.invariant.1,
      sym (ap not (nonempty_more ns k)),
      λ plain.
          let before = c.loop-number.invariant.3 plain in
          let wrote = c.in_ok-write_number.ensures before.plain refl in
          put_two took c.args.f.now c.loop-number.f c.write_number.new.f (number_list_text ns) (number_behind c.loop-number.is_first k)
          (number_list_text (ns ++ k ∷ [])) before wrote
          (ap (λ b. number_list_text ns ++ number_behind b k) c.loop-number.invariant.2 ∙ text_more ns k),
    )

pub returns : goal.returns
returns g c = λ plain ok.
    let ns = c.loop-number.invariant.0 in
    let e = sym (ap (λ l. ns ++ l) c.in_default.ensures.0 ∙ append-nil ns) ∙ c.loop-number.invariant.1 in
    subst (λ l. HasWritten g.W.Write.write_str_gives c.args.f.now (number_list_text l) c.loop-number.f) e (c.loop-number.invariant.3 plain)
