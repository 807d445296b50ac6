use Rattle.std.proofs.Common.{◌∙◌, ◌≡◌, ◌++◌, ap, sym, subst}
use Rattle.std.specs.Map.{keys_of}
use Rattle.lalrpop_norm_lower.specs.LoweredLists.{with_places}
use Rattle.lalrpop_norm_lower.specs.MadeLists.{AreAscendingTerminals}
use Rattle.lalrpop_norm_lower.proofs.PutLemmas.{keys_with_places}
use Rattle.lalrpop_norm_lower.proofs.terminals.terminal_set.Goals as goal

pub returns : goal.returns
returns c =
    let all = c.in_ok-all.all in
    let items = c.in_ok-places_of.field-0.items in
    let whole : c.new-bits.result ++ items ≡ with_places 0 all =
    ap (λ l. l ++ items) c.new-bits.ensures ∙ c.in_ok-places_of.ensures ∙ ap (with_places 0) c.as_slice.ensures in
    let sorted = subst AreAscendingTerminals (sym (ap keys_of whole ∙ keys_with_places 0 all)) c.in_ok-all.ensures.ascending in
    record {
      ascending = c.in_ok-all.ensures.ascending;
      all_are = c.in_ok-all.ensures.keys;
      numbered = c.in_ok-put_all.ensures.ascending sorted ∙ whole;
    }
