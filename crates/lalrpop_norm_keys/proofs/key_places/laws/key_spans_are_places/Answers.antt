use Rattle.std.proofs.Common.{refl}
use Rattle.lalrpop_grammar.specs.WrittenGrammar.{rules_of}
use Rattle.lalrpop_grammar_language.specs.Enabled.{enabled_grammar}
use Rattle.lalrpop_norm_keys.proofs.KeySpanLemmas.{keys_placed}
use Rattle.lalrpop_norm_keys.proofs.key_places.laws.key_spans_are_places.Goals as goal

pub returns : goal.returns
returns c = λ finds features w can calls keys all table other ps spans.
    keys_placed (enabled_grammar finds features w) features (rules_of w.items) refl can.enabled can.single can.flat all.0 calls keys
    all.1 table other ps spans
