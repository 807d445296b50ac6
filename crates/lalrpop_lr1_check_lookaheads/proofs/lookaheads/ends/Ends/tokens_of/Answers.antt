use Rattle.std.proofs.Common.{◌≡◌, ◌∙◌, ◌↔◌, List, ℕ, [], Some, ap, false, sym, true}
use Rattle.std.specs.Prelude.{is_some}
use Rattle.std.specs.List.{list_any}
use Rattle.std.proofs.lemmas.Result.{IfOk-weaker}
use Rattle.lalrpop_sets.specs.AscendingLists.{has}
use Rattle.lalrpop_lr1_check_lookaheads.specs.Ends.{HasEndMark, end_key}
use Rattle.lalrpop_lr1_check_lookaheads.specs.contracts.lookaheads.ends.EndPartialEq.TheImpl as ends_eq
use Rattle.lalrpop_lr1_check_lookaheads.proofs.EndKeyLemmas.{found_has, none_has}
use Rattle.lalrpop_lr1_check_lookaheads.proofs.lookaheads.ends.Ends.tokens_of.Goals as goal

pub returns-in-None : goal.returns-in-None
returns-in-None c =
    let ends = c.args.self.now in
    let missing : list_any ((ends_eq.ghosts).eq c.args.end) ends.keys.keys ≡ false =
    sym c.get_full.ensures.found ∙ ap is_some c.in-None.is in
    IfOk-weaker c.new.result (λ (set : List ℕ). set ≡ [])
    (λ (set : List ℕ). (k : ℕ) → (has set k ≡ true) ↔ HasEndMark ends (end_key c.args.end) (Some k))
    (λ set e. none_has ends c.args.end missing set e) c.new.ensures

pub returns-in-Some : goal.returns-in-Some
returns-in-Some c =
    let ends = c.args.self.now in
    IfOk-weaker c.try_clone.result (λ (set : List ℕ). set ≡ c.index.result.now)
    (λ (set : List ℕ). (k : ℕ) → (has set k ≡ true) ↔ HasEndMark ends (end_key c.args.end) (Some k))
    (λ set e. found_has ends c.args.end c.in-Some.field-0-1.now c.in-Some.number c.index.result.now set c.requires
    c.as_slice-keys.ensures.unique c.in-Some.ensures.stored (sym c.in-Some.ensures.key) c.index.ensures e)
    c.try_clone.ensures
