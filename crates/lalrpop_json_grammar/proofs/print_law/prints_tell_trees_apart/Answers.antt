use Rattle.std.proofs.Common.{◌≡◌, [], ◌∷◌, ◌++◌, ap, sym, ◌∙◌, subst}
use Rattle.lalrpop_grammar_symbols.specs.Symbols.{Closed, Closeds}
use Rattle.lalrpop_json_grammar.specs.Printing.{tree_text}
use Rattle.lalrpop_grammar_language.specs.Enabled.{enabled_grammar}
use Rattle.lalrpop_grammar_language.specs.Levels.{loosest}
use Rattle.lalrpop_grammar_language.specs.Admitting.{Admits}
use Rattle.lalrpop_grammar_language.proofs.PlaceLemmas.{places_apart}
use Rattle.lalrpop_json_grammar.proofs.SpanLemmas.{text_of_unplaced}
use Rattle.lalrpop_json_grammar.proofs.TreeTextLemmas.{same}
use Rattle.lalrpop_json_grammar.proofs.print_law.prints_tell_trees_apart.Goals as goal

pub returns : goal.returns
returns c = λ finds features g named start t u a b fit fits h j.
    let rules = enabled_grammar finds features g in
    let one : h.rule ∷ [] ≡ j.rule ∷ [] = sym h.is_rule ∙ j.is_rule in
    let rule : h.rule ≡ j.rule = cc in
    let other : Admits rules (Closed.call start Closeds.none (loosest h.rule)) u b =
    subst (λ r. Admits rules (Closed.call start Closeds.none (loosest r)) u b) (sym rule) j.admits in (
      (λ e. (same rules (places_apart finds features g) named (Closed.call start Closeds.none (loosest h.rule)) t u a b [] [] fit fits
          h.admits other
          (ap (λ l. l ++ []) e)).0),
      (λ e. sym (text_of_unplaced t) ∙ ap tree_text e ∙ text_of_unplaced u),
    )
