use Rattle.std.proofs.Common.{◌≡◌, [], ap, ◌∙◌}
use Rattle.std.specs.Option.{option_map_or}
use Rattle.lalrpop_grammar_rules.specs.Views.{closed_view}
use Rattle.lalrpop_norm_theory.specs.Keys.{flat_key_text}
use Rattle.lalrpop_norm_keys.specs.Tables.{places_of_text, table_keys}
use Rattle.lalrpop_norm_keys.proofs.TableLemmas.{found_by_text, none_by_text}
use Rattle.lalrpop_norm_keys.proofs.key_table.key_table.KeyTable.find_by_text.Goals as goal

pub returns-in-Some : goal.returns-in-Some
returns-in-Some c =
    let keys = table_keys c.args.self.now in
    let same : c.in-Some.places.now.items ≡ places_of_text (flat_key_text (closed_view c.args.key.now)) 0 keys =
    ap (λ o. option_map_or (λ p. p.items) o []) c.in-Some.ensures.value
    ∙ c.requires.indexed.places c.args.text.now ∙ ap (λ n. places_of_text n 0 keys) c.requires.text in
    found_by_text c.args.self.now.keys c.in-Some.places.now.items (closed_view c.args.key.now) c.find_at.result same
    (rw (c.as_slice.ensures, c.as_slice-in-Some.ensures.value) at c.find_at.ensures)

pub returns-in-None : goal.returns-in-None
returns-in-None c =
    let keys = table_keys c.args.self.now in
    none_by_text keys (closed_view c.args.key.now)
    (ap (λ o. option_map_or (λ p. p.items) o []) c.in-None.ensures.value
    ∙ c.requires.indexed.places c.args.text.now ∙ ap (λ n. places_of_text n 0 keys) c.requires.text)
