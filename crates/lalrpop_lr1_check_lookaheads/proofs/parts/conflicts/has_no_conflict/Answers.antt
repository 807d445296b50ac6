use Rattle.std.proofs.Common.{◌≡◌, ◌∙◌, ℕ, ap, sym, subst, true, false}
use Rattle.lalrpop_sets.specs.AscendingLists.{has}
use Rattle.lalrpop_lr1_check_lookaheads.specs.ApartSets.{AreReductionsApart, has_any}
use Rattle.lalrpop_lr1_check_lookaheads.proofs.ApartLemmas.{apart_none, none_apart, none_free}
use Rattle.lalrpop_lr1_check_lookaheads.proofs.parts.conflicts.has_no_conflict.Goals as goal

pub returns-then-apart : goal.returns-then-apart
returns-then-apart c =
    let ts = c.args.terminals.now in
    let state = c.args.state.now in
    let set = c.join_reductions.new.joined in
    let apart = subst AreReductionsApart c.as_slice.ensures (c.in_ok-apart.ensures.apart.0 c.if-apart.true) in
    let same : (k : ℕ) → has set k ≡ has_any state.reductions k =
    λ k. c.in_ok-apart.ensures.joined c.if-apart.true k ∙ ap (λ l. has_any l k) c.as_slice.ensures in (
      λ e. apart_none ts state set same apart (sym c.in_ok-free.ensures ∙ e),
      λ h. c.in_ok-free.ensures ∙ none_free ts state set same h,
    )

pub returns : goal.returns
returns c = (
  λ e. let w : ⊥ = cc in absurd w,
  λ h.
      let both : true ≡ false =
      sym (c.in_ok-apart.ensures.apart.1 (subst AreReductionsApart (sym c.as_slice.ensures)
      (none_apart c.args.terminals.now c.args.state.now h)))
      ∙ c.if-apart.false in
      let w : ⊥ = cc in absurd w,
)
