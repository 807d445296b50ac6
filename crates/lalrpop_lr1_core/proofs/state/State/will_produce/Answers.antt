use Rattle.std.proofs.Common.{◌≡◌, ◌∙◌, ap, sym, Some, true, false}
use Rattle.std.specs.List.{list_all}
use Rattle.std.specs.Prelude.{slice_get}
use Rattle.std.specs.Str.{bytes_eq}
use Rattle.lalrpop_lr1_core.specs.Dots.{moved_names}
use Rattle.lalrpop_lr1_core.proofs.NameLemmas.{one_is}
use Rattle.lalrpop_lr1_core.proofs.state.State.will_produce.Goals as goal

pub returns-then-all_produce : goal.returns-then-all_produce
returns-then-all_produce g c =
    let n = c.in_ok-name.name.now in
    let items = c.args.self.now.items.vec in
    let first : Some n ≡ slice_get (moved_names items) 0 =
    c.in_ok-name.ensures ∙ ap (λ l. slice_get (moved_names l) 0) c.as_slice.ensures in
    let all : list_all (λ m. bytes_eq n.0 m.0) (moved_names items) ≡ true =
    sym (c.all_produce.ensures ∙ ap (λ l. list_all (λ m. bytes_eq n.0 m.0) (moved_names l)) c.as_slice-2.ensures)
    ∙ c.if-all_produce.true in
    one_is (moved_names items) n true first all

pub returns-else-all_produce : goal.returns-else-all_produce
returns-else-all_produce g c =
    let n = c.in_ok-name.name.now in
    let items = c.args.self.now.items.vec in
    let first : Some n ≡ slice_get (moved_names items) 0 =
    c.in_ok-name.ensures ∙ ap (λ l. slice_get (moved_names l) 0) c.as_slice.ensures in
    let all : list_all (λ m. bytes_eq n.0 m.0) (moved_names items) ≡ false =
    sym (c.all_produce.ensures ∙ ap (λ l. list_all (λ m. bytes_eq n.0 m.0) (moved_names l)) c.as_slice-2.ensures)
    ∙ c.if-all_produce.false in
    one_is (moved_names items) n false first all
