use Rattle.std.proofs.Common.{◌≡◌, arith, length, subst}
use Rattle.lalrpop_lr1_build.specs.PublicStates.{IsPublicState}
use Rattle.lalrpop_lr1_build.proofs.public_states.push_state_at.Goals as goal

pub returns : goal.returns
returns g c =
    let public = c.args.public.now in
    let count : c.len.result ≡ length public.items = omega (arith, c.len.ensures, public.ok) in (
      c.in_ok-added.added,
      c.in_ok-push.ensures.items,
      subst (λ n. IsPublicState c.args.table.now n c.args.state c.in_ok-added.added) count c.in_ok-added.ensures,
    )
