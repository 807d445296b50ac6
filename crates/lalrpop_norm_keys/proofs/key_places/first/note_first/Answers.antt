use Rattle.std.proofs.Common.{◌≡◌, ◌∙◌, ◌++◌, ◌∷◌, [], ap, map, subst, sym, ⊎_elim}
use Rattle.std.proofs.lemmas.List.{map-append}
use Rattle.lalrpop_grammar_symbols.specs.Views.{span_view}
use Rattle.lalrpop_grammar_rules.specs.Views.{closed_view}
use Rattle.lalrpop_norm_keys.specs.Tables.{IsPlaceOfKey, table_keys}
use Rattle.lalrpop_norm_keys.specs.FirstPlaces.{TellFirst}
use Rattle.lalrpop_norm_keys.specs.Views.{met_view}
use Rattle.lalrpop_norm_keys.proofs.FirstLemmas.{among_at, tell_kept, tell_new}
use Rattle.lalrpop_norm_keys.proofs.key_places.first.note_first.Goals as goal

pub returns-in-Some-clause-told : goal.returns-in-Some-clause-told
returns-in-Some-clause-told c = λ ms told.
    let keys = table_keys c.args.first.now.keys in
    let x = closed_view c.args.met.now.key in
    let at = subst (IsPlaceOfKey keys x) c.in-Some.is c.in_ok-find.ensures in
    tell_kept ms keys (map span_view c.args.first.now.spans) told x (span_view c.args.met.now.span)
    (among_at keys c.in-Some.field-0 x at)

pub returns-in_ok-push-in-None-clause-told : goal.returns-in_ok-push-in-None-clause-told
returns-in_ok-push-in-None-clause-told c = λ ms told.
    let keys = table_keys c.args.first.now.keys in
    let x = closed_view c.args.met.now.key in
    let spans = map span_view c.args.first.now.spans in
    let p = span_view c.args.met.now.span in
    let none = subst (IsPlaceOfKey keys x) c.in-None.is c.in_ok-find.ensures in
    let longer : table_keys c.add.new.self ≡ keys ++ x ∷ [] =
    ⊎_elim (λ (there, same). absurd (none there)) (λ (missing, is). is) c.in_ok-add-in-None.ensures.added in
    let more : map span_view c.push.new.self ≡ spans ++ p ∷ [] =
    ap (map span_view) c.in_ok-push-in-None.ensures.ok
    ∙ map-append span_view c.args.first.now.spans (c.args.met.now.span ∷ []) in
    subst (λ ks. TellFirst (ms ++ met_view c.args.met.now ∷ []) ks (map span_view c.push.new.self)) (sym longer)
    (subst (TellFirst (ms ++ met_view c.args.met.now ∷ []) (keys ++ x ∷ [])) (sym more) (tell_new ms keys spans told x p none))
