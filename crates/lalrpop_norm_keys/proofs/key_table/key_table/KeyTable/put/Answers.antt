use Rattle.std.proofs.Common.{◌≡◌, [], ◌∷◌, ◌++◌, ap, sym, ◌∙◌, map, rules, arith, string_bytes}
use Rattle.std.proofs.lemmas.Grind.{common_steps}
use Rattle.std.proofs.lemmas.List.{length-map}
use Rattle.lalrpop_grammar_rules.specs.Views.{closed_view}
use Rattle.lalrpop_norm_keys.specs.Tables.{kept_places, places_of_text, table_keys}
use Rattle.lalrpop_norm_keys.proofs.TableLemmas.{places_kept}
use Rattle.lalrpop_norm_keys.proofs.key_table.key_table.KeyTable.put.Goals as goal

pub returns-clause-places : goal.returns-clause-places
returns-clause-places c = λ n.
    let t = c.args.self.now in
    let x = closed_view c.args.key.now in
    let seen : map closed_view c.push.new.self ≡ table_keys t ++ x ∷ [] = first_of (search rules, grind (arith, common_steps)) in
    places_kept (kept_places t.places n) (kept_places c.add_place.new.places n) n (string_bytes c.args.text) (table_keys t) x
    c.len-place.result (c.requires.places n) c.requires.text (c.len-place.ensures ∙ sym (length-map t.keys closed_view))
    (c.in_ok-add_place.ensures n)
    ∙ ap (places_of_text n 0) (sym seen)
