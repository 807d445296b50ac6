use Rattle.std.proofs.Common.{Option, ℕ, IfSome, inl, refl, subst}
use Rattle.lalrpop_lexer.specs.States.{HasKernel}
use Rattle.lalrpop_lexer.proofs.states.States.known_or_found.Goals as goal

pub returns-in-Some-clause-found : goal.returns-in-Some-clause-found
returns-in-Some-clause-found c =
    let P : Option ℕ → Type 0 = λ o. IfSome o (λ n. HasKernel c.args.self.now.numbers n c.args.kernel.now) in
    let found = c.requires.numbered.closed _ _ (subst P c.in-Some.is c.requires.known) in
    record { place = inl (found.0, refl); closed = found.1 }
