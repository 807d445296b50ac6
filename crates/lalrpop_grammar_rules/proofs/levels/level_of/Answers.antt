use Rattle.std.proofs.Common.{◌≡◌, ◌≢◌, [], ◌∷◌, ◌+◌, ap, sym, ◌∙◌, drop, get_or, rules}
use Rattle.std.proofs.lemmas.List.{drop_all, drop_more}
use Rattle.lalrpop_grammar_rules.proofs.DigitLemmas.{level_first, level_from, level_on, level_stop, small}
use Rattle.lalrpop_grammar_rules.proofs.levels.level_of.Goals as goal

pub loop-byte-preserved : goal.loop-byte-preserved
loop-byte-preserved c =
    let bs = c.as_bytes-bytes.result.now in
    let i = c.loop-byte.byte-index in
    let x = get_or bs i 0 in
    let here : drop i bs ≡ x ∷ drop (i + 1) bs = drop_more bs i 0 c.loop-byte-test.true in
    record {
      fits = c.in-Some.ensures.fits;
      so_far = c.loop-byte.invariant.so_far ∙ ap (level_from c.loop-byte.number) here
          ∙ level_on c.loop-byte.number x (drop (i + 1) bs) c.in-Some.next c.in-Some.ensures.value;
    }

pub returns-in_default : goal.returns-in_default
returns-in_default c =
    let t = c.args.text.now in
    let bs = c.as_bytes-bytes.result.now in
    let i = c.loop-byte.byte-index in
    let x = get_or bs i 0 in
    let here : drop i bs ≡ x ∷ drop (i + 1) bs = drop_more bs i 0 c.loop-byte-test.true in
    let same : bs ≡ t = c.as_bytes-bytes.ensures.value in
    let some : t ≢ [] = search rules in
    sym (level_first t some ∙ ap (level_from 0) (sym same) ∙ c.loop-byte.invariant.so_far ∙ ap (level_from c.loop-byte.number) here
    ∙ level_stop c.loop-byte.number x (drop (i + 1) bs) c.in_default.ensures.value)

pub returns : goal.returns
returns c =
    let t = c.args.text.now in
    let bs = c.as_bytes-bytes.result.now in
    let i = c.loop-byte.byte-index in
    let nothing : drop i bs ≡ [] = drop_all i bs c.loop-byte-test.false in
    let same : bs ≡ t = c.as_bytes-bytes.ensures.value in
    let some : t ≢ [] = search rules in
    sym (level_first t some ∙ ap (level_from 0) (sym same) ∙ c.loop-byte.invariant.so_far ∙ ap (level_from c.loop-byte.number) nothing
    ∙ small c.loop-byte.number c.loop-byte.invariant.fits)
