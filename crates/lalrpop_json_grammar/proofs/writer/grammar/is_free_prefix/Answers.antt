use Rattle.std.proofs.Common.{◌≡◌, ◌↔◌, ◌∙◌, ap, sym, subst, Bool, IsTrue}
use Rattle.std.proofs.lemmas.Slice.Eq.{bytes_eq-Decides}
use Rattle.serde_json.specs.View.{view}
use Rattle.lalrpop_json_values.specs.Prefix.{longest_of, prefix_past}
use Rattle.lalrpop_json_values.specs.Strings.{strings}
use Rattle.lalrpop_json_grammar.proofs.GrammarSpellingLemmas.{prefix_told}
use Rattle.lalrpop_json_grammar.proofs.writer.grammar.is_free_prefix.Goals as goal

pub returns : goal.returns
returns c =
    let wanted = c.in_ok-wanted.wanted in
    let prefix = c.args.prefix.now in
    let same : IsTrue c.eq.result ↔ (wanted ≡ prefix) =
    subst (λ (r : Bool). IsTrue r ↔ (wanted ≡ prefix)) (sym c.eq.ensures) (bytes_eq-Decides wanted prefix) in
    prefix_told c.eq.result (strings (view c.args.value.now)) prefix wanted
    (c.in_ok-wanted.ensures ∙ ap prefix_past (c.longest_in.ensures ∙ ap (λ d. longest_of (strings d)) c.in_ok-document.ensures)) same
