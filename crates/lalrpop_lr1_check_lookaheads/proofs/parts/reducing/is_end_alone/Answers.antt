use Rattle.std.proofs.Common.{◌≡◌, ◌∙◌, ◌&&◌, ℕ, ap, not}
use Rattle.std.specs.Prelude.{nat_eq}
use Rattle.lalrpop_sets.specs.AscendingLists.{has}
use Rattle.lalrpop_sets.specs.Tokens.{eof_number}
use Rattle.lalrpop_lr1_check_lookaheads.proofs.EndLemmas.{alone_empty, empty_alone}
use Rattle.lalrpop_lr1_check_lookaheads.proofs.parts.reducing.is_end_alone.Goals as goal

pub returns : goal.returns
returns c =
    let end = eof_number c.args.terminals.now in
    let gone : (j : ℕ) → has c.take_eof.new.self j ≡ (not (nat_eq j end) && has c.args.set.now j) =
    λ j. c.take_eof.ensures.gone j ∙ ap (λ s. not (nat_eq j end) && has s j) c.in_ok-rest.ensures in (
      λ e. empty_alone c.args.set.now c.take_eof.new.self end gone (c.is_empty_set.ensures.0 e),
      λ h. c.is_empty_set.ensures.1 (alone_empty c.args.set.now c.take_eof.new.self end gone h),
    )
